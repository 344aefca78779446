-- Rules on single flows: a test of the sender and the receiver. After the all-edges normal form of the entry
-- Network_Security_Policy_Verification of the Archive of Formal Proofs.
use Rattle.std.specs.Prelude.{ℕ, List, IsTrue}
use Rattle.flow_set.specs.FlowSet.{has}
use Rattle.flow_set.specs.declared.flow.Flow.{Flow}

-- Every flow of the set passes.
abbrev pub AllFlowsPass : (ℕ → ℕ → Type 0) → List Flow → Type 0
AllFlowsPass Passes e = (f : Flow) → IsTrue (has e f) → Passes f.from f.to
