-- Lemmas on lists of invariants: their conjunction is a downward closed condition, it holds for the empty set, and it
-- is edge-wise if each invariant is; a denied flow violates one of them.
use Rattle.std.proofs.Common.{◌≡◌, ℕ, Bool, List, get_or, subst}
use Rattle.std.specs.Prelude.{All, IsTrue}
use Rattle.flow_set.specs.declared.flow.Flow.{Flow}
use Rattle.flow_set.specs.FlowSet.{with_flow}
use Rattle.flow_set.specs.inner.Downward.{IsDownwardClosed, IsEdgeWise}
use Rattle.permit_core.proofs.FirstLaws.{first_with}
use Rattle.permit_core.specs.Policy.{AllHold}
use Rattle.permit_core.specs.inner.Denied.{IsDenied}

pub AllHold-downward : {X : Type 0} (n : ℕ) (HoldsOn : X → List Flow → Type 0) (invs : List X)
    → All (λ inv. IsDownwardClosed n (HoldsOn inv)) invs → IsDownwardClosed n (AllHold HoldsOn invs)
AllHold-downward n HoldsOn invs downward e s set sub hold = λ k d within. downward k d within e s set sub (hold k d within)

pub AllHold-edge_wise : {X : Type 0} (n : ℕ) (HoldsOn : X → List Flow → Type 0) (invs : List X)
    → All (λ inv. IsEdgeWise n (HoldsOn inv)) invs → IsEdgeWise n (AllHold HoldsOn invs)
AllHold-edge_wise n HoldsOn invs edge_wise e set =
    (λ hold f there k d within. (edge_wise k d within e set).0 (hold k d within) f there, λ each k d within. (edge_wise k d within e set).1 (λ f there. each f there k d within))

-- Invariants that are marked as edge-wise are edge-wise, between their number of hosts.
pub marked_edge_wise : {X : Type 0} (n : ℕ) (size_of : X → ℕ) (mark : X → Bool) (HoldsOn : X → List Flow → Type 0) (invs : List X)
    → ((x : X) → IsTrue (mark x) → IsEdgeWise (size_of x) (HoldsOn x)) → All (λ inv. size_of inv ≡ n) invs
    → All (λ inv. IsTrue (mark inv) → IsEdgeWise n (HoldsOn inv)) invs
marked_edge_wise n size_of mark HoldsOn invs right sizes k d below marked =
    let inv = get_or invs k d in subst (λ m. IsEdgeWise m (HoldsOn inv)) (sizes k d below) (right inv marked)

-- A flow that the permitted policy omits violates an invariant when it is added.
pub denied_fails : (Holds : List Flow → Type 0) (p : List Flow) (f : Flow) → IsDenied Holds p f → Holds (with_flow p f) → ⊥
denied_fails Holds p f d = first_with Holds d.asked p f d.permitted d.wanted d.left_out
