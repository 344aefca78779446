-- Walks along flows: a walk is the list of its flows, and may visit a host more than once. This is reachability in the entry
-- Network_Security_Policy_Verification of the Archive of Formal Proofs, which defines it by transitive closures.
use Rattle.std.specs.Prelude.{◌≡◌, ◌≢◌, ℕ, ◌≤◌, Bool, ◌||◌, List, [], ◌∷◌, length, IsTrue, All, AllPairs}
use Rattle.flow_set.specs.declared.flow.Flow.{Flow}
use Rattle.flow_set.specs.Flow.{reverse_of}
use Rattle.flow_set.specs.FlowSet.{has}

-- The list fs is a walk from i to j along flows that satisfy the test. The empty list leads from i to i.
abbrev pub LeadsTo : (Flow → Bool) → ℕ → ℕ → List Flow → Type 0
LeadsTo test i j [] = i ≡ j
LeadsTo test i j (f ∷ fs) = IsTrue (test f) × (f.from ≡ i) × LeadsTo test f.to j fs

-- There is a nonempty walk from i to j, also if j is i.
abbrev pub HasWalk : (Flow → Bool) → ℕ → ℕ → Type 0
HasWalk test i j = (f : Flow) × (fs : List Flow) × LeadsTo test i j (f ∷ fs)

-- Host i reaches j along the flows of e.
abbrev pub Reaches : List Flow → ℕ → ℕ → Type 0
Reaches e = HasWalk (has e)

-- The flow or its reverse is in e.
abbrev pub has_either : List Flow → Flow → Bool
has_either e f = has e f || has e (reverse_of f)

-- Hosts i and j are joined: there is a walk between them along flows of e, forwards or backwards.
abbrev pub Joined : List Flow → ℕ → ℕ → Type 0
Joined e = HasWalk (has_either e)

-- The hosts are distinct, none of them is i, and i reaches each of them.
pub record AreReached (e : List Flow) (i : ℕ) (hosts : List ℕ) : Type 0 where
  pub different : AllPairs (λ a b. a ≢ b) hosts
  pub others : All (λ j. j ≢ i) hosts
  pub reached : All (Reaches e i) hosts

-- Host i reaches at most `limit` other hosts: each list of distinct ones that it reaches has at most `limit` elements.
abbrev pub ReachesAtMost : List Flow → ℕ → ℕ → Type 0
ReachesAtMost e i limit = (hosts : List ℕ) → AreReached e i hosts → length hosts ≤ limit
