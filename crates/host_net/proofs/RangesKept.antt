-- The stored ranges remain those of the hosts after a host without a cause for refusal is added.
use Rattle.std.proofs.Common.{◌≡◌, ℕ, ◌+◌, Bool, true, false, cond, List, [], ◌∷◌, ◌++◌, length, Option, Some, None, refl, sym, ap, ◌∙◌, arith}
use Rattle.std.specs.Option.{option_or}
use Rattle.std.proofs.lemmas.Bool.{false_from_ne_true}
use Rattle.text_core.specs.inner.Pairs.{no_pair}
use Rattle.text_core.proofs.ConflictLaws.{no_pair-behind}
use Rattle.host_net.proofs.HostsKept.{still_apart, welcome}
use Rattle.host_net.proofs.OverlapLemmas.{position_from-push}
use Rattle.host_net.proofs.RangesLemmas.{IsHeldWith}
use Rattle.host_net.specs.Host.{Host, covers_any, prefix_owner_of}
use Rattle.host_net.specs.Hosts.{all_prefixes}
use Rattle.host_net.specs.inner.Hosts.{IsHosts}
use Rattle.host_net.proofs.OwnerLaws.{not_held, parts_apart}
use Rattle.host_net.specs.Prefix.{meets}
use Rattle.host_net.specs.inner.Ranges.{AreRanges, holder_among, is_ordered}
use Rattle.host_net.specs.inner.Refusal.{refusal_of}
use Rattle.host_net.specs.declared.prefix.Prefix.{Prefix}
use Rattle.host_net.specs.declared.ranges.Range.{Range}

all_apart : (hs : List Host) (name : List ℕ) (at : List Prefix) (rest : Bool) → IsHosts hs → refusal_of hs name at rest ≡ None
    → no_pair meets (all_prefixes hs ++ at) ≡ true
all_apart hs name at rest known none = still_apart hs at (welcome hs name at rest none).apart known.apart

-- The new prefixes are disjoint, and cover no address that has an owner.
pub new_apart : (hs : List Host) (name : List ℕ) (at : List Prefix) (rest : Bool) → IsHosts hs → refusal_of hs name at rest ≡ None
    → no_pair meets at ≡ true
new_apart hs name at rest known none = no_pair-behind meets (all_prefixes hs) at (all_apart hs name at rest known none)

pub new_free : (hs : List Host) (name : List ℕ) (at : List Prefix) (rest : Bool) → IsHosts hs → refusal_of hs name at rest ≡ None
    → (a : ℕ) → covers_any at a ≡ true → prefix_owner_of hs a ≡ None
new_free hs name at rest known none a covered =
    not_held hs 0 a (false_from_ne_true (covers_any (all_prefixes hs) a)
    (λ held. parts_apart a (all_prefixes hs) at (all_apart hs name at rest known none) held covered))

one_holder : (covered : Bool) (o : Option ℕ) (n : ℕ) → (covered ≡ true → o ≡ None)
    → cond covered (Some n) o ≡ option_or o (cond covered (Some n) None)
one_holder true o n free = sym (ap (λ q. option_or q (Some n)) (free refl))
one_holder false None n free = refl
one_holder false (Some m) n free = refl

holder_pushed : (hs : List Host) (h : Host) (a : ℕ)
    → prefix_owner_of (hs ++ h ∷ []) a ≡ option_or (prefix_owner_of hs a) (cond (covers_any h.prefixes a) (Some (length hs)) None)
holder_pushed hs h a =
    let place : 0 + length hs ≡ length hs = omega arith in
    position_from-push (λ (g : Host). covers_any g.prefixes a) 0 hs h
    ∙ ap (λ n. option_or (prefix_owner_of hs a) (cond (covers_any h.prefixes a) (Some n) None)) place

pub ranges_kept : (hs : List Host) (rs new : List Range) (name : List ℕ) (at : List Prefix) (rest : Bool) (host : ℕ) → IsHosts hs
    → AreRanges hs rs
    → refusal_of hs name at rest ≡ None → host ≡ length hs → is_ordered new ≡ true → IsHeldWith rs at host new
    → AreRanges (hs ++ record { name = name; prefixes = at; rest = rest } ∷ []) new
ranges_kept hs rs new name at rest host known kept none number ordered held =
    record {
      ordered = ordered;
      held = λ a.
          held a
          ∙ (λ i. cond (covers_any at a) (Some (number i)) (kept.held a i))
          ∙ one_holder (covers_any at a) (prefix_owner_of hs a) (length hs) (new_free hs name at rest known none a)
          ∙ sym (holder_pushed hs (record { name = name; prefixes = at; rest = rest }) a);
    }

pub ranges_free : (hs : List Host) (rs : List Range) (name : List ℕ) (at : List Prefix) (rest : Bool) → IsHosts hs → AreRanges hs rs
    → refusal_of hs name at rest ≡ None
    → (a : ℕ) → covers_any at a ≡ true → holder_among rs a ≡ None
ranges_free hs rs name at rest known kept none a covered = kept.held a ∙ new_free hs name at rest known none a covered
