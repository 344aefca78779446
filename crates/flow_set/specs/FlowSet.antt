-- Sets of flows: the model of `FlowSet`, and the results of its calls. A set is represented by the list of its flows in
-- ascending order, so two sets with the same flows are equal lists. `FlowLaws` states the members of each set that is
-- defined here.
use Rattle.std.specs.Prelude.{ℕ, ◌↔◌, Bool, false, not, ◌||◌, if◌then◌else◌, List, [], ◌∷◌, IsTrue, filter}
use Rattle.flow_set.specs.declared.flow.Flow.{Flow}
use Rattle.flow_set.specs.Flow.{IsFlow, before, same_flow, reverse_of}
use Rattle.std.specs.List.{fold}

-- The model of `FlowSet`: the number of hosts, and the flows in order.
pub record SetOfFlows : Type 0 where
  pub size : ℕ
  pub flows : List Flow

-- The list contains f.
abbrev pub has : List Flow → Flow → Bool
has [] f = false
has (g ∷ gs) f = same_flow g f || has gs f

-- The list is sorted: each flow is before all that follow it, so the list has no duplicates.
abbrev pub IsOrdered : List Flow → Type 0
IsOrdered [] = Unit {0}
IsOrdered (f ∷ fs) = ((g : Flow) → IsTrue (has fs g) → IsTrue (before f g)) × IsOrdered fs

-- xs is a set, and all its flows are in ys.
pub record IsSubset (xs ys : List Flow) : Type 0 where
  pub ordered : IsOrdered xs
  pub within : (f : Flow) → IsTrue (has xs f) → IsTrue (has ys f)

-- The set contains exactly the flows between n hosts.
abbrev pub IsFull : ℕ → List Flow → Type 0
IsFull n fs = (f : Flow) → IsTrue (has fs f) ↔ IsFlow n f

-- The set with f inserted in order.
abbrev pub with_flow : List Flow → Flow → List Flow
with_flow [] f = f ∷ []
with_flow (g ∷ gs) f = if before f g then f ∷ g ∷ gs else (g ∷ (if before g f then with_flow gs f else gs))

-- The set without the flows of gs.
abbrev pub without : List Flow → List Flow → List Flow
without fs gs = filter (λ f. not (has gs f)) fs

-- The set with the reverse of every flow of gs inserted.
abbrev pub with_back : List Flow → List Flow → List Flow
with_back fs [] = fs
with_back fs (g ∷ gs) = with_flow (with_back fs gs) (reverse_of g)

-- The set of the listed flows.
unfoldable pub set_of : List Flow → List Flow
set_of listed = fold with_flow [] listed
