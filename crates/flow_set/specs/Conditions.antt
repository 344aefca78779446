-- Subsets that a condition on flow sets determines: minimal offending sets, the first subset, the greatest subset.
use Rattle.std.specs.Prelude.{◌≡◌, ◌⊎◌, List, IsTrue, IsFalse}
use Rattle.flow_set.specs.declared.flow.Flow.{Flow}
use Rattle.flow_set.specs.Flow.{before}
use Rattle.flow_set.specs.FlowSet.{has, IsSubset, with_flow, without}

-- f is a minimal offending set of e: the condition fails on e and holds on e without f, but fails once any flow of f is added back
-- (Network_Security_Policy_Verification in the Archive of Formal Proofs).
pub record IsMinimalOffending (Holds : List Flow → Type 0) (e f : List Flow) : Type 0 where
  pub within : IsSubset f e
  pub fails : Holds e → ⊥
  pub holds_without : Holds (without e f)
  pub minimal : (g : Flow) → IsTrue (has f g) → Holds (with_flow (without e f) g) → ⊥

-- xs contains a flow that ys lacks, and the two agree on all flows before it.
pub record PrecedesAtFirstDifference (xs ys : List Flow) : Type 0 where
  pub flow : Flow
  pub here : IsTrue (has xs flow)
  pub not_there : IsFalse (has ys flow)
  pub same_before : (f : Flow) → IsTrue (before f flow) → has xs f ≡ has ys f

-- xs is the first subset of `all` that satisfies the condition: compared with any other such subset, xs contains the first flow on which
-- they differ.
pub record IsFirst (Holds : List Flow → Type 0) (all xs : List Flow) : Type 0 where
  pub within : IsSubset xs all
  pub holds : Holds xs
  pub first : (ys : List Flow) → IsSubset ys all → Holds ys → (ys ≡ xs) ⊎ PrecedesAtFirstDifference xs ys

-- xs is the greatest subset of `all` that satisfies the condition: it contains every other such subset.
pub record IsGreatest (Holds : List Flow → Type 0) (all xs : List Flow) : Type 0 where
  pub within : IsSubset xs all
  pub holds : Holds xs
  pub greatest : (ys : List Flow) → IsSubset ys all → Holds ys → IsSubset ys xs
