-- The meaning of a row of a closure in terms of walks: including its own host, in equivalent forms, and for the empty
-- set.
use Rattle.std.proofs.Common.{◌≡◌, ℕ, ◌<◌, Bool, false, ◌||◌, nat_eq, nat_cmp, ◌↔◌, inl, inr, [], replicate, sym, ◌∙◌, ap, subst}
use Rattle.std.specs.Prelude.{IsTrue}
use Rattle.std.specs.FinSet as set
use Rattle.std.proofs.lemmas.Bool.{or_cases, or_left, or_right, eqb-true, eq-eqb, false≢true}
use Rattle.std.proofs.lemmas.List.{get_or-replicate}
use Rattle.flow_set.specs.declared.flow.Flow.{Flow}
use Rattle.flow_set.specs.HostSet.{HostNumbers}
use Rattle.flow_set.specs.inner.HostSet.{row_of}
use Rattle.flow_set.specs.laws.HostSetLaws.{contains-insert}
use Rattle.reach_core.specs.Walks.{HasWalk}
use Rattle.reach_core.specs.laws.WalkLaws.{HasPath, path_of_walk, cases_path}

-- ---- paths from a row and its host

pub path_to : (test : Flow → Bool) (i k : ℕ) (s : HostNumbers) → (IsTrue (set.contains s i) ↔ HasWalk test i k)
    → IsTrue (set.contains (set.insert s k) i) ↔ HasPath test i k
path_to test i k s tells =
    let path : IsTrue (nat_eq i k || set.contains s i) → HasPath test i k =
    λ shown. elim (or_cases (nat_eq i k) (set.contains s i) shown) [
      | inl same ↦ ([], eqb-true _ _ same)
      | inr walks ↦ path_of_walk test i k (tells.0 walks)
    ] in
    let shown : HasPath test i k → IsTrue (nat_eq i k || set.contains s i) =
    λ path. elim (cases_path test i k path) [
      | inl same ↦ or_left _ _ (eq-eqb _ _ same)
      | inr walk ↦ or_right _ _ (tells.1 walk)
    ] in (λ there. path (sym (contains-insert s k i) ∙ there), λ way. contains-insert s k i ∙ shown way)

pub path_from : (test : Flow → Bool) (k j : ℕ) (s : HostNumbers) → (IsTrue (set.contains s j) ↔ HasWalk test k j)
    → IsTrue (set.contains (set.insert s k) j) ↔ HasPath test k j
path_from test k j s tells =
    let path : IsTrue (nat_eq j k || set.contains s j) → HasPath test k j =
    λ shown. elim (or_cases (nat_eq j k) (set.contains s j) shown) [
      | inl same ↦ ([], sym (eqb-true _ _ same))
      | inr walks ↦ path_of_walk test k j (tells.0 walks)
    ] in
    let shown : HasPath test k j → IsTrue (nat_eq j k || set.contains s j) =
    λ path. elim (cases_path test k j path) [
      | inl same ↦ or_left _ _ (eq-eqb _ _ (sym same))
      | inr walk ↦ or_right _ _ (tells.1 walk)
    ] in (λ there. path (sym (contains-insert s k j) ∙ there), λ way. contains-insert s k j ∙ shown way)

-- ---- equivalent forms

pub tells_bool : (shown is : Bool) (P : Type 0) → shown ≡ is → (IsTrue is ↔ P) → IsTrue shown ↔ P
tells_bool shown is P same tells = subst (λ b. IsTrue b ↔ P) (sym same) tells

pub tells_as : (s t : HostNumbers) (j : ℕ) (P : Type 0) → s ≡ t → (IsTrue (set.contains t j) ↔ P) → IsTrue (set.contains s j) ↔ P
tells_as s t j P same tells = subst (λ (x : HostNumbers). IsTrue (set.contains x j) ↔ P) (sym same) tells

-- ---- the empty set

-- The empty row of a host is correct, since there are no walks.
pub tells_nothing : (n : ℕ) (test : Flow → Bool) (h k i j : ℕ) → ((f : Flow) → test f ≡ false) → h < n
    → IsTrue (set.contains (row_of (replicate n set.empty) h) k) ↔ HasWalk test i j
tells_nothing n test h k i j none below = (
  λ shown. absurd (false≢true (sym (ap (λ (s : HostNumbers). set.contains s k) (get_or-replicate n h set.empty set.empty below) ∙ set.contains-empty nat_cmp k) ∙ shown)),
  λ walk. absurd (false≢true (sym (none walk.0) ∙ walk.2.0)),
)
