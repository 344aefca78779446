-- Lemmas on owners: at most one host has prefixes that cover an address, so an address has at most one owner.
use Rattle.std.proofs.Common.{◌≡◌, ℕ, zero, suc, ◌+◌, Bool, true, false, cond, not, ◌||◌, IsTrue, List, [], ◌∷◌, ◌++◌, slice_get, Some, None, refl, sym, ap, ◌∙◌, arith, true≢false}
use Rattle.std.specs.List.{position_from, list_all}
use Rattle.std.specs.Option.{option_or}
use Rattle.std.proofs.lemmas.Bool.{and_parts, or_left, or_parts, or_right}
use Rattle.std.proofs.lemmas.List.Folds.{list_all-append, list_any-append}
use Rattle.text_core.proofs.FirstsLaws.{some_same}
use Rattle.host_net.specs.Host.{Host, covers_any, owner_of, rest_of}
use Rattle.host_net.specs.Hosts.{all_prefixes}
use Rattle.host_net.specs.inner.Hosts.{IsHosts}
use Rattle.text_core.specs.inner.Pairs.{no_pair}
use Rattle.text_core.proofs.ConflictLaws.{no_pair-behind}
use Rattle.host_net.specs.Prefix.{covers, meets}
use Rattle.host_net.proofs.PrefixLaws.{covered_by_both}
use Rattle.host_net.specs.declared.prefix.Prefix.{Prefix}

one_or_other : (a b : Bool) → (a || b) ≡ true → a ≡ false → b ≡ true
one_or_other true b h none = cc
one_or_other false b h none = h

-- If the later prefixes share no address with p, none of them covers an address of p.
alone_by : (p q : Prefix) (a : ℕ) (b : Bool) → covers q a ≡ b → covers p a ≡ true → not (meets q p) ≡ true → b ≡ false
alone_by p q a true by_q by_p none = absurd (true≢false (sym none ∙ ap not (covered_by_both q p a by_q by_p)))
alone_by p q a false by_q by_p none = refl

alone : (p : Prefix) (a : ℕ) (qs : List Prefix) → covers p a ≡ true → list_all (λ q. not (meets q p)) qs ≡ true → covers_any qs a ≡ true
    → ⊥
alone p a [] own none some = true≢false (sym some)
alone p a (q ∷ qs) own none some =
    let parts = and_parts (not (meets q p)) (list_all (λ r. not (meets r p)) qs) none in
    alone p a qs own parts.1 (one_or_other (covers q a) (covers_any qs a) some (alone_by p q a (covers q a) refl own parts.0))

-- If no two prefixes of a list overlap, prefixes in two parts of the list do not cover the same address.
parts_apart_by : (p : Prefix) (a : ℕ) (ps qs : List Prefix) (b : Bool) → covers p a ≡ b → (b || covers_any ps a) ≡ true
    → list_all (λ q. not (meets q p)) qs ≡ true → covers_any qs a ≡ true → (covers_any ps a ≡ true → ⊥) → ⊥
parts_apart_by p a ps qs true own some none later rest = alone p a qs own none later
parts_apart_by p a ps qs false own some none later rest = rest some

pub parts_apart : (a : ℕ) (ps qs : List Prefix) → no_pair meets (ps ++ qs) ≡ true → covers_any ps a ≡ true → covers_any qs a ≡ true → ⊥
parts_apart a [] qs apart first second = true≢false (sym first)
parts_apart a (p ∷ ps) qs apart first second =
    let both = and_parts (list_all (λ q. not (meets q p)) (ps ++ qs)) (no_pair meets (ps ++ qs)) apart in
    let later = and_parts (list_all (λ q. not (meets q p)) ps) (list_all (λ q. not (meets q p)) qs) (sym (list_all-append (λ q. not (meets q p)) ps qs) ∙ both.0) in
    parts_apart_by p a ps qs (covers p a) refl first later.1 second (λ some. parts_apart a ps qs both.1 some second)

-- An address that a host covers is covered by the list of all prefixes.
covered_among : (hs : List Host) (j : ℕ) (h : Host) (a : ℕ) → slice_get hs j ≡ Some h → covers_any h.prefixes a ≡ true
    → covers_any (all_prefixes hs) a ≡ true
covered_among [] j h a there own = cc
covered_among (x ∷ hs) zero h a there own =
    let same : x ≡ h = cc in
    list_any-append (λ p. covers p a) x.prefixes (all_prefixes hs)
    ∙ or_left (covers_any x.prefixes a) (covers_any (all_prefixes hs) a) (ap (λ (g : Host). covers_any g.prefixes a) same ∙ own)
covered_among (x ∷ hs) (suc j) h a there own =
    list_any-append (λ p. covers p a) x.prefixes (all_prefixes hs)
    ∙ or_right (covers_any x.prefixes a) (covers_any (all_prefixes hs) a) (covered_among hs j h a there own)

-- The search for the holder finds the host that covers the address.
holder_by : (hs : List Host) (x : Host) (a i n : ℕ) (b : Bool) → covers_any x.prefixes a ≡ b → (covers_any x.prefixes a ≡ true → ⊥)
    → position_from (λ h. covers_any h.prefixes a) (i + 1) hs ≡ Some n
    → cond b (Some i) (position_from (λ h. covers_any h.prefixes a) (i + 1) hs) ≡ Some n
holder_by hs x a i n true own other found = absurd (other own)
holder_by hs x a i n false own other found = found

holder_from : (hs : List Host) (i j : ℕ) (h : Host) (a : ℕ) → no_pair meets (all_prefixes hs) ≡ true → slice_get hs j ≡ Some h
    → covers_any h.prefixes a ≡ true → position_from (λ g. covers_any g.prefixes a) i hs ≡ Some (i + j)
holder_from [] i j h a apart there own = cc
holder_from (x ∷ hs) i zero h a apart there own =
    let same : x ≡ h = cc in
    let here : covers_any x.prefixes a ≡ true = ap (λ (g : Host). covers_any g.prefixes a) same ∙ own in
    ap (λ b. cond b (Some i) (position_from (λ (g : Host). covers_any g.prefixes a) (i + 1) hs)) here ∙ ap (λ n. Some n) (omega arith)
holder_from (x ∷ hs) i (suc j) h a apart there own =
    let behind = no_pair-behind meets x.prefixes (all_prefixes hs) apart in
    let found = holder_from hs (i + 1) j h a behind there own in
    let next : i + 1 + j ≡ i + suc j = omega arith in
    holder_by hs x a i (i + suc j) (covers_any x.prefixes a) refl
    (λ first. parts_apart a x.prefixes (all_prefixes hs) apart first (covered_among hs j h a there own))
    (found ∙ ap (λ n. Some n) next)

-- A host that has a prefix which covers the address is its owner.
pub owner_of_covered : (hs : List Host) (j : ℕ) (h : Host) (a : ℕ) → IsHosts hs → slice_get hs j ≡ Some h
    → IsTrue (covers_any h.prefixes a) → owner_of hs a ≡ Some j
unfolding owner_of
owner_of_covered hs j h a known there own =
    ap (λ o. option_or o (rest_of hs)) (holder_from hs 0 j h a known.apart there own ∙ ap (λ n. Some n) (omega arith))

-- At most one host has prefixes that cover an address.
pub covered_once : (hs : List Host) (i j : ℕ) (g h : Host) (a : ℕ) → IsHosts hs → slice_get hs i ≡ Some g → slice_get hs j ≡ Some h
    → IsTrue (covers_any g.prefixes a) → IsTrue (covers_any h.prefixes a) → i ≡ j
covered_once hs i j g h a known at_i at_j by_g by_h =
    some_same i j (sym (owner_of_covered hs i g a known at_i by_g) ∙ owner_of_covered hs j h a known at_j by_h)

-- If no prefix covers the address, its owner is the rest host, or `None`.
pub not_held : (hs : List Host) (i a : ℕ) → covers_any (all_prefixes hs) a ≡ false
    → position_from (λ h. covers_any h.prefixes a) i hs ≡ None
not_held [] i a none = refl
not_held (x ∷ hs) i a none =
    let parts = or_parts (covers_any x.prefixes a) (covers_any (all_prefixes hs) a) (sym (list_any-append (λ p. covers p a) x.prefixes (all_prefixes hs)) ∙ none) in
    rw parts.0 (not_held hs (i + 1) a parts.1)

pub owner_of_uncovered : (hs : List Host) (a : ℕ) → covers_any (all_prefixes hs) a ≡ false → owner_of hs a ≡ rest_of hs
unfolding owner_of
owner_of_uncovered hs a none = ap (λ o. option_or o (rest_of hs)) (not_held hs 0 a none)
