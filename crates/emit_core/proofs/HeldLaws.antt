-- The owner of an address: a host with a prefix that covers it, otherwise the rest host, if there is one.
use Rattle.std.proofs.Common.{◌≡◌, ◌⊎◌, inl, inr, ℕ, ◌+◌, Bool, true, false, ◌||◌, cond, List, [], ◌∷◌, Option, Some, None, slice_get, refl, sym, ap, ◌∙◌}
use Rattle.std.specs.List.{position_from}
use Rattle.std.specs.Option.{option_or}
use Rattle.std.proofs.lemmas.Bool.{or_left, or_right}
use Rattle.std.proofs.Math.Numerals.{add-one}
use Rattle.host_net.specs.declared.prefix.Prefix.{Prefix}
use Rattle.host_net.specs.Prefix.{covers}
use Rattle.host_net.specs.Host.{Host, covers_any, owner_of, rest_of}
use Rattle.host_net.specs.inner.Hosts.{IsHosts}
use Rattle.host_net.proofs.OwnerLaws.{owner_of_covered}
use Rattle.ofp_rules.specs.Semantics.{IsOneOf}

-- The owner of an address: a host with a prefix that covers it, otherwise the rest host, if there is one.
pub record IsHeld (hosts : List Host) (a : ℕ) : Type 0 where
  pub place : ℕ
  pub host : Host
  pub prefix : Prefix
  pub there : slice_get hosts place ≡ Some host
  pub listed : IsOneOf prefix host.prefixes
  pub covered : covers prefix a ≡ true

covers_by : (ps : List Prefix) (q : Prefix) (a : ℕ) → IsOneOf q ps → covers q a ≡ true → covers_any ps a ≡ true
covers_by [] q a h on = absurd h
covers_by (x ∷ ps) q a (inl is) on = or_left (covers x a) (covers_any ps a) (ap (λ (y : Prefix). covers y a) (sym is) ∙ on)
covers_by (x ∷ ps) q a (inr later) on = or_right (covers x a) (covers_any ps a) (covers_by ps q a later on)

record Covering (ps : List Prefix) (a : ℕ) : Type 0 where
  prefix : Prefix
  listed : IsOneOf prefix ps
  covered : covers prefix a ≡ true

covering_by : (x : Prefix) (ps : List Prefix) (a : ℕ) (b : Bool) → covers x a ≡ b → (covers_any ps a ≡ true → Covering ps a)
    → (b || covers_any ps a) ≡ true → Covering (x ∷ ps) a
covering_by x ps a true on later h = record { prefix = x; listed = inl refl; covered = on }
covering_by x ps a false off later h = let r = later h in record { prefix = r.prefix; listed = inr r.listed; covered = r.covered }

covering : (ps : List Prefix) (a : ℕ) → covers_any ps a ≡ true → Covering ps a
covering [] a h = cc
covering (x ∷ ps) a h = covering_by x ps a (covers x a) refl (covering ps a) h

searched_later : (x : Host) (hs : List Host) (k a : ℕ) → (position_from (λ h. covers_any h.prefixes a) (k + 1) hs ≡ None) ⊎ IsHeld hs a
    → (position_from (λ h. covers_any h.prefixes a) (k + 1) hs ≡ None) ⊎ IsHeld (x ∷ hs) a
searched_later x hs k a (inl none) = inl none
searched_later x hs k a (inr held) =
    inr (record { place = held.place + 1; host = held.host; prefix = held.prefix; there = rw (add-one held.place) held.there; listed = held.listed; covered = held.covered })

searched_by : (x : Host) (hs : List Host) (k a : ℕ) (b : Bool) → covers_any x.prefixes a ≡ b
    → (position_from (λ h. covers_any h.prefixes a) (k + 1) hs ≡ None) ⊎ IsHeld hs a
    → (cond b (Some k) (position_from (λ h. covers_any h.prefixes a) (k + 1) hs) ≡ None) ⊎ IsHeld (x ∷ hs) a
searched_by x hs k a true on later =
    let c = covering x.prefixes a on in
    inr (record { place = 0; host = x; prefix = c.prefix; there = refl; listed = c.listed; covered = c.covered })
searched_by x hs k a false off later = searched_later x hs k a later

searched : (hs : List Host) (k a : ℕ) → (position_from (λ h. covers_any h.prefixes a) k hs ≡ None) ⊎ IsHeld hs a
searched [] k a = inl refl
searched (x ∷ hs) k a = searched_by x hs k a (covers_any x.prefixes a) refl (searched hs (k + 1) a)

pub ownership : (hosts : List Host) (a : ℕ) → (owner_of hosts a ≡ rest_of hosts) ⊎ IsHeld hosts a
unfolding owner_of
ownership hosts a = elim (searched hosts 0 a) [
  | inl none ↦ inl (ap (λ (o : Option ℕ). option_or o (rest_of hosts)) none)
  | inr held ↦ inr held
]

pub owner_is : (hosts : List Host) → IsHosts hosts → (i : ℕ) (h : Host) (q : Prefix) (a : ℕ) → slice_get hosts i ≡ Some h
    → IsOneOf q h.prefixes → covers q a ≡ true → owner_of hosts a ≡ Some i
owner_is hosts known i h q a there listed on = owner_of_covered hosts i h a known there (covers_by h.prefixes q a listed on)
