-- Members of lists of entries that are built by concatenation.
use Rattle.std.proofs.Common.{◌≡◌, inl, inr, ℕ, zero, suc, ◌+◌, Bool, true, List, [], ◌∷◌, Some, refl, ap, subst, ◌∙◌, arith}
use Rattle.std.specs.Prelude.{slice_get, map}
use Rattle.std.specs.List.{flat_map, list_all}
use Rattle.std.proofs.lemmas.Bool.{and_from, and_parts}
use Rattle.host_net.specs.declared.prefix.Prefix.{Prefix}
use Rattle.host_net.specs.Host.{Host}
use Rattle.ofp_rules.specs.declared.entry.Entry.{Entry}
use Rattle.ofp_rules.specs.Semantics.{IsOneOf}
use Rattle.ofp_rules.proofs.HighestLaws.{one_of_front, one_of_back, one_of_parts}
use Rattle.emit_core.specs.FlowTable.{for_each_host}

-- y is built for one of the xs.
pub record WrittenFor {X Y : Type 0} (f : X → List Y) (xs : List X) (y : Y) : Type 0 where
  pub from : X
  pub listed : IsOneOf from xs
  pub written : IsOneOf y (f from)

pub flat_from : {X Y : Type 0} (f : X → List Y) (xs : List X) (y : Y) → IsOneOf y (flat_map f xs) → WrittenFor f xs y
flat_from f [] y h = absurd h
flat_from f (x ∷ xs) y h = elim (one_of_parts y (f x) (flat_map f xs) h) [
  | inl here ↦ record { from = x; listed = inl refl; written = here }
  | inr later ↦ let r = flat_from f xs y later in record { from = r.from; listed = inr r.listed; written = r.written }
]

pub flat_in : {X Y : Type 0} (f : X → List Y) (xs : List X) (x : X) (y : Y) → IsOneOf x xs → IsOneOf y (f x) → IsOneOf y (flat_map f xs)
flat_in f [] x y h in_f = absurd h
flat_in f (z ∷ xs) x y (inl is) in_f = one_of_front y (f z) (flat_map f xs) (subst (λ w. IsOneOf y (f w)) is in_f)
flat_in f (z ∷ xs) x y (inr later) in_f = one_of_back y (f z) (flat_map f xs) (flat_in f xs x y later in_f)

-- y is the image of one of the xs.
pub record MadeOf {X Y : Type 0} (f : X → Y) (xs : List X) (y : Y) : Type 0 where
  pub from : X
  pub listed : IsOneOf from xs
  pub is : y ≡ f from

pub map_from : {X Y : Type 0} (f : X → Y) (xs : List X) (y : Y) → IsOneOf y (map f xs) → MadeOf f xs y
map_from f [] y h = absurd h
map_from f (x ∷ xs) y (inl is) = record { from = x; listed = inl refl; is = is }
map_from f (x ∷ xs) y (inr later) = let r = map_from f xs y later in record { from = r.from; listed = inr r.listed; is = r.is }

pub map_in : {X Y : Type 0} (f : X → Y) (xs : List X) (x : X) → IsOneOf x xs → IsOneOf (f x) (map f xs)
map_in f [] x h = absurd h
map_in f (z ∷ xs) x (inl is) = inl (ap f is)
map_in f (z ∷ xs) x (inr later) = inr (map_in f xs x later)

-- e is built for the host at an index.
pub record WrittenAt (written : ℕ → List Prefix → List Entry) (k : ℕ) (hs : List Host) (e : Entry) : Type 0 where
  pub place : ℕ
  pub host : Host
  pub there : slice_get hs place ≡ Some host
  pub listed : IsOneOf e (written (k + place) host.prefixes)

each_written : (w : ℕ → List Prefix → List Entry) (k : ℕ) (hs : List Host) (e : Entry) → IsOneOf e (for_each_host w k hs)
    → WrittenAt w k hs e
each_written w k [] e h = absurd h
each_written w k (x ∷ hs) e h = elim (one_of_parts e (w k x.prefixes) (for_each_host w (k + 1) hs) h) [
  | inl here ↦
      let first : k ≡ k + zero = omega arith in
      record { place = zero; host = x; there = refl; listed = subst (λ (n : ℕ). IsOneOf e (w n x.prefixes)) first here }
  | inr later ↦
      let r = each_written w (k + 1) hs e later in
      let next : k + 1 + r.place ≡ k + suc r.place = omega arith in
      record { place = suc r.place; host = r.host; there = r.there; listed = subst (λ (n : ℕ). IsOneOf e (w n r.host.prefixes)) next r.listed }
]

-- e is built for host i.
pub record WrittenBy (written : ℕ → List Prefix → List Entry) (hs : List Host) (e : Entry) : Type 0 where
  pub place : ℕ
  pub host : Host
  pub there : slice_get hs place ≡ Some host
  pub listed : IsOneOf e (written place host.prefixes)

pub each_from : (w : ℕ → List Prefix → List Entry) (hs : List Host) (e : Entry) → IsOneOf e (for_each_host w 0 hs) → WrittenBy w hs e
each_from w hs e h =
    let r = each_written w 0 hs e h in
    let place : 0 + r.place ≡ r.place = omega arith in
    record { place = r.place; host = r.host; there = r.there; listed = subst (λ (n : ℕ). IsOneOf e (w n r.host.prefixes)) place r.listed }

each_in_from : (w : ℕ → List Prefix → List Entry) (k : ℕ) (hs : List Host) (e : Entry) (i : ℕ) (h : Host) → slice_get hs i ≡ Some h
    → IsOneOf e (w (k + i) h.prefixes) → IsOneOf e (for_each_host w k hs)
each_in_from w k [] e i h there listed = cc
each_in_from w k (x ∷ hs) e zero h there listed =
    let first : k + zero ≡ k = omega arith in
    let same : h ≡ x = cc in
    one_of_front e (w k x.prefixes) (for_each_host w (k + 1) hs)
    (subst (λ (g : Host). IsOneOf e (w k g.prefixes)) same (subst (λ (n : ℕ). IsOneOf e (w n h.prefixes)) first listed))
each_in_from w k (x ∷ hs) e (suc i) h there listed =
    let next : k + suc i ≡ k + 1 + i = omega arith in
    one_of_back e (w k x.prefixes) (for_each_host w (k + 1) hs)
    (each_in_from w (k + 1) hs e i h there (subst (λ (n : ℕ). IsOneOf e (w n h.prefixes)) next listed))

pub each_in : (w : ℕ → List Prefix → List Entry) (hs : List Host) (e : Entry) (i : ℕ) (h : Host) → slice_get hs i ≡ Some h
    → IsOneOf e (w i h.prefixes) → IsOneOf e (for_each_host w 0 hs)
each_in w hs e i h there listed =
    let place : i ≡ 0 + i = omega arith in
    each_in_from w 0 hs e i h there (subst (λ (n : ℕ). IsOneOf e (w n h.prefixes)) place listed)

-- A test that every element passes.
pub all_pass : {X : Type 0} (f : X → Bool) (xs : List X) → ((x : X) → IsOneOf x xs → f x ≡ true) → list_all f xs ≡ true
all_pass f [] each = refl
all_pass f (x ∷ xs) each = and_from (f x) (list_all f xs) (each x (inl refl)) (all_pass f xs (λ y h. each y (inr h)))

pub one_passes : {X : Type 0} (f : X → Bool) (xs : List X) (x : X) → list_all f xs ≡ true → IsOneOf x xs → f x ≡ true
one_passes f [] x all here = absurd here
one_passes f (y ∷ xs) x all (inl is) = ap f is ∙ (and_parts (f y) (list_all f xs) all).0
one_passes f (y ∷ xs) x all (inr later) = one_passes f xs x (and_parts (f y) (list_all f xs) all).1 later
