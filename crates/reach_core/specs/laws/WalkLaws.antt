-- Lemmas on walks: for more flows, concatenation, splitting at a flow or at a host, and their ends.
use Rattle.std.proofs.Common.{◌≡◌, ℕ, Bool, ◌||◌, ◌⊎◌, inl, inr, List, [], ◌∷◌, ◌++◌, refl, sym, ◌∙◌, ap, subst}
use Rattle.std.specs.Prelude.{IsTrue}
use Rattle.std.proofs.lemmas.Bool.{or_cases}
use Rattle.flow_set.specs.declared.flow.Flow.{Flow}
use Rattle.flow_set.specs.Flow.{same_flow}
use Rattle.flow_set.specs.laws.FlowLaws.{same_flow-true}
use Rattle.reach_core.specs.Walks.{LeadsTo, HasWalk}

-- Host i is j, or there is a walk from i to j.
abbrev pub HasPath : (Flow → Bool) → ℕ → ℕ → Type 0
HasPath test i j = (fs : List Flow) × LeadsTo test i j fs

-- ---- more flows

pub LeadsTo-weaker : (test wider : Flow → Bool) → ((f : Flow) → IsTrue (test f) → IsTrue (wider f)) → (i j : ℕ) (fs : List Flow)
    → LeadsTo test i j fs → LeadsTo wider i j fs
LeadsTo-weaker test wider more i j [] here = here
LeadsTo-weaker test wider more i j (f ∷ fs) walk = (more f walk.0, walk.1, LeadsTo-weaker test wider more f.to j fs walk.2)

pub HasPath-weaker : (test wider : Flow → Bool) → ((f : Flow) → IsTrue (test f) → IsTrue (wider f)) → (i j : ℕ) → HasPath test i j
    → HasPath wider i j
HasPath-weaker test wider more i j path = (path.0, LeadsTo-weaker test wider more i j path.0 path.1)

pub HasWalk-weaker : (test wider : Flow → Bool) → ((f : Flow) → IsTrue (test f) → IsTrue (wider f)) → (i j : ℕ) → HasWalk test i j
    → HasWalk wider i j
HasWalk-weaker test wider more i j walk = (walk.0, walk.1, LeadsTo-weaker test wider more i j (walk.0 ∷ walk.1) walk.2)

-- ---- concatenation

pub path_of_walk : (test : Flow → Bool) (i j : ℕ) → HasWalk test i j → HasPath test i j
path_of_walk test i j walk = (walk.0 ∷ walk.1, walk.2)

pub cases_path : (test : Flow → Bool) (i j : ℕ) → HasPath test i j → (i ≡ j) ⊎ HasWalk test i j
cases_path test i j ([], here) = inl here
cases_path test i j (f ∷ fs, walk) = inr (f, fs, walk)

pub LeadsTo-append : (test : Flow → Bool) (i k j : ℕ) (fs gs : List Flow) → LeadsTo test i k fs → LeadsTo test k j gs
    → LeadsTo test i j (fs ++ gs)
LeadsTo-append test i k j [] gs here walk = let P : ℕ → Type 0 = λ h. LeadsTo test h j gs in subst P (sym here) walk
LeadsTo-append test i k j (f ∷ fs) gs first second = (first.0, first.1, LeadsTo-append test f.to k j fs gs first.2 second)

-- The concatenation of two walks is a walk.
pub HasWalk-append : (test : Flow → Bool) (i k j : ℕ) → HasWalk test i k → HasWalk test k j → HasWalk test i j
HasWalk-append test i k j (f, fs, before) (g, gs, after) =
    (f, fs ++ g ∷ gs, LeadsTo-append test i k j (f ∷ fs) (g ∷ gs) before after)

-- A path, a flow and a path form a walk.
pub walk_over : (test : Flow → Bool) (g : Flow) → IsTrue (test g) → (i j : ℕ) → HasPath test i g.from → HasPath test g.to j
    → HasWalk test i j
walk_over test g passes i j ([], here) (gs, after) = (g, gs, (passes, sym here, after))
walk_over test g passes i j (f ∷ fs, before) (gs, after) =
    (f, fs ++ g ∷ gs, LeadsTo-append test i g.from j (f ∷ fs) (g ∷ gs) before (passes, refl, after))

-- ---- splitting

-- A walk that may use one more flow does not need it, or leads to its sender and continues from its receiver.
pub path_cut : (test : Flow → Bool) (g : Flow) (i j : ℕ) (fs : List Flow) → LeadsTo (λ f. same_flow g f || test f) i j fs
    → LeadsTo test i j fs ⊎ (HasPath test i g.from × HasPath test g.to j)
path_cut test g i j [] here = inl here
path_cut test g i j (f ∷ fs) walk =
    let begins : IsTrue (same_flow g f) → HasPath test i g.from =
    λ same. ([], sym walk.1 ∙ sym (ap (λ (h : Flow). h.from) (same_flow-true g f same))) in
    let ends : IsTrue (same_flow g f) → LeadsTo test f.to j fs → HasPath test g.to j =
    λ same rest. (fs, let P : Flow → Type 0 = λ h. LeadsTo test h.to j fs in subst P (sym (same_flow-true g f same)) rest) in
    elim (path_cut test g f.to j fs walk.2) [
      | inl rest ↦ elim (or_cases (same_flow g f) (test f) walk.0) [
        | inl same ↦ inr (begins same, ends same rest)
        | inr passes ↦ inl (passes, walk.1, rest)
      ]
      | inr parts ↦ elim (or_cases (same_flow g f) (test f) walk.0) [
        | inl same ↦ inr (begins same, parts.1)
        | inr passes ↦ inr ((f ∷ parts.0.0, (passes, walk.1, parts.0.1)), parts.1)
      ]
    ]

pub walk_cut : (test : Flow → Bool) (g : Flow) (i j : ℕ) → HasWalk (λ f. same_flow g f || test f) i j
    → HasWalk test i j ⊎ (HasPath test i g.from × HasPath test g.to j)
walk_cut test g i j (f, fs, walk) =
    elim (path_cut test g i j (f ∷ fs) walk) [ inl stays ↦ inl (f, fs, stays) | inr parts ↦ inr parts ]

-- A path, a walk and a path form a walk.
pub walk_within : (test : Flow → Bool) (i k l j : ℕ) → HasPath test i k → HasWalk test k l → HasPath test l j → HasWalk test i j
walk_within test i k l j before walk after =
    let onward : HasWalk test k j = elim (cases_path test l j after) [
      | inl same ↦ subst (HasWalk test k) same walk
      | inr rest ↦ HasWalk-append test k l j walk rest
    ] in
    elim (cases_path test i k before) [
      | inl same ↦ subst (λ h. HasWalk test h j) (sym same) onward
      | inr first ↦ HasWalk-append test i k j first onward
    ]

-- A flow whose hosts are connected by a walk adds no walk.
pub walk_without : (test : Flow → Bool) (g : Flow) → HasWalk test g.from g.to → (i j : ℕ)
    → HasWalk (λ f. same_flow g f || test f) i j → HasWalk test i j
walk_without test g there i j walk =
    elim (walk_cut test g i j walk) [
      | inl stays ↦ stays
      | inr parts ↦ walk_within test i g.from g.to j parts.0 there parts.1
    ]

-- Nor does any flow for a host without a path to its sender.
pub walk_elsewhere : (test : Flow → Bool) (g : Flow) (i j : ℕ) → (HasPath test i g.from → ⊥)
    → HasWalk (λ f. same_flow g f || test f) i j → HasWalk test i j
walk_elsewhere test g i j apart walk =
    elim (walk_cut test g i j walk) [ inl stays ↦ stays | inr parts ↦ absurd (apart parts.0) ]

-- If each further flow has an end at the host, a walk does not need these flows, or leads to the host and continues
-- from it.
pub path_touch : (test wider : Flow → Bool) (host : ℕ)
    → ((f : Flow) → IsTrue (wider f) → IsTrue (test f) ⊎ ((f.from ≡ host) ⊎ (f.to ≡ host))) → (i j : ℕ) (fs : List Flow)
    → LeadsTo wider i j fs → LeadsTo test i j fs ⊎ (HasPath wider i host × HasPath wider host j)
path_touch test wider host further i j [] here = inl here
path_touch test wider host further i j (f ∷ fs) walk =
    elim (path_touch test wider host further f.to j fs walk.2) [
      | inl rest ↦ elim (further f walk.0) [
        | inl passes ↦ inl (passes, walk.1, rest)
        | inr touches ↦ elim touches [
          | inl leaves ↦
              let here : i ≡ host = sym walk.1 ∙ leaves in
              inr (([], here), (f ∷ fs, let P : ℕ → Type 0 = λ h. LeadsTo wider h j (f ∷ fs) in subst P here walk))
          | inr comes ↦
              inr ((f ∷ [], (walk.0, walk.1, comes)), (fs, let P : ℕ → Type 0 = λ h. LeadsTo wider h j fs in subst P comes walk.2))
        ]
      ]
      | inr parts ↦ inr ((f ∷ parts.0.0, (walk.0, walk.1, parts.0.1)), parts.1)
    ]

-- ---- the ends of walks

pub walk_ends : (test : Flow → Bool) (Begins Ends : ℕ → Type 0) → ((f : Flow) → IsTrue (test f) → Begins f.from × Ends f.to)
    → (i j : ℕ) (f : Flow) (fs : List Flow) → LeadsTo test i j (f ∷ fs) → Begins i × Ends j
walk_ends test Begins Ends each i j f [] walk =
    (subst Begins walk.1 (each f walk.0).0, subst Ends walk.2 (each f walk.0).1)
walk_ends test Begins Ends each i j f (g ∷ gs) walk =
    (subst Begins walk.1 (each f walk.0).0, (walk_ends test Begins Ends each f.to j g gs walk.2).1)
