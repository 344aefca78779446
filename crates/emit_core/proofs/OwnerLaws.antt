-- The position of owners among the hosts.
use Rattle.std.proofs.Common.{◌≡◌, ℕ, suc, ◌+◌, ◌<◌, Bool, true, false, cond, List, [], ◌∷◌, Some, None, length, refl, arith}
use Rattle.std.specs.Prelude.{slice_get}
use Rattle.std.specs.List.{position_from}
use Rattle.host_net.specs.Host.{Host, covers_any, rest_of}
use Rattle.host_net.specs.inner.Hosts.{IsHosts}
use Rattle.host_net.proofs.OwnerLaws.{covered_once}

-- Two hosts that cover the address are equal.
abbrev IsCoveredOnce : ℕ → List Host → Type 0
IsCoveredOnce a hs =
    (i j : ℕ) (g h : Host) → slice_get hs i ≡ Some g → slice_get hs j ≡ Some h → covers_any g.prefixes a ≡ true → covers_any h.prefixes a ≡ true → i ≡ j

-- No later host covers the address that an earlier host covers.
abbrev pub IsHeldOnce : ℕ → List Host → Type 0
IsHeldOnce a [] = Unit {0}
IsHeldOnce a (h ∷ hs) = (covers_any h.prefixes a ≡ true → (k : ℕ) → position_from (λ x. covers_any x.prefixes a) k hs ≡ None) × IsHeldOnce a hs

held_by_none : (a k : ℕ) (hs : List Host) → ((j : ℕ) (h : Host) → slice_get hs j ≡ Some h → covers_any h.prefixes a ≡ true → ⊥)
    → position_from (λ x. covers_any x.prefixes a) k hs ≡ None
held_by_none a k [] none = refl
held_by_none a k (h ∷ hs) none = by_test (covers_any h.prefixes a) (none 0 h refl) (held_by_none a (k + 1) hs (λ j. none (suc j)))
  where
    by_test : (b : Bool) → (b ≡ true → ⊥) → position_from (λ x. covers_any x.prefixes a) (k + 1) hs ≡ None
        → cond b (Some k) (position_from (λ x. covers_any x.prefixes a) (k + 1) hs) ≡ None
    by_test true not_here later = absurd (not_here refl)
    by_test false not_here later = later

held_once : (a : ℕ) (hs : List Host) → IsCoveredOnce a hs → IsHeldOnce a hs
held_once a [] once = tt
held_once a (h ∷ hs) once = (
  λ held k. held_by_none a k hs (λ j x there covers. let same : 0 ≡ suc j = once 0 (suc j) h x refl there held covers in absurd (omega arith)),
  held_once a hs (λ i j g x at_i at_j by_g by_x. let same : suc i ≡ suc j = once (suc i) (suc j) g x at_i at_j by_g by_x in omega arith),
)

-- An address is owned once.
pub hosts_hold_once : (hosts : List Host) → IsHosts hosts → (a : ℕ) → IsHeldOnce a hosts
hosts_hold_once hosts is a =
    held_once a hosts (λ i j g h at_i at_j by_g by_h. covered_once hosts i j g h a is at_i at_j by_g by_h)

place_below : (test : Host → Bool) (k : ℕ) (hs : List Host) (i : ℕ) → position_from test k hs ≡ Some i → i < k + length hs
place_below test k [] i found = cc
place_below test k (h ∷ hs) i found = by_test (test h) (place_below test (k + 1) hs i) found
  where
    by_test : (b : Bool) → (position_from test (k + 1) hs ≡ Some i → i < k + 1 + length hs)
        → cond b (Some k) (position_from test (k + 1) hs) ≡ Some i → i < k + suc (length hs)
    by_test true later found = let same : k ≡ i = cc in omega arith
    by_test false later found = let below = later found in omega arith

-- The rest host is one of the hosts.
pub rest_below : (hosts : List Host) (r : ℕ) → rest_of hosts ≡ Some r → r < length hosts
rest_below hosts r found = let below = place_below (λ h. h.rest) 0 hosts r found in omega arith
