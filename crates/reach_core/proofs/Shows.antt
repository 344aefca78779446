-- The meaning of a row of a closure.
use Rattle.std.proofs.Common.{◌≡◌, ℕ, ◌<◌, ◌↔◌, sym, ap, subst, arith}
use Rattle.std.specs.Prelude.{IsTrue}
use Rattle.std.specs.FinSet as set
use Rattle.flow_set.specs.inner.Steps.{UndoableFlows}
use Rattle.flow_set.specs.HostSet.{HostNumbers}
use Rattle.flow_set.specs.inner.HostSet.{row_of}
use Rattle.reach_core.specs.inner.Rows.{HasReachRows, HasJoinRows}
use Rattle.reach_core.specs.Walks.{Reaches, Joined}
use Rattle.reach_core.specs.declared.stepped.UndoableRows.{UndoableRows}

-- A row contains the hosts that are reached.
pub shows_reached : (t now : UndoableFlows) (reached coming : UndoableRows) (i : ℕ) (row : HostNumbers) → HasReachRows t reached coming
    → t ≡ now → row ≡ row_of reached.rows i → i < now.size → (j : ℕ) → IsTrue (set.contains row j) ↔ Reaches now.flows i j
shows_reached t now reached coming i row rows same is below j =
    let within : i < t.size = omega (arith, below, ap (λ (s : UndoableFlows). s.size) same) in
    subst (λ (s : HostNumbers). IsTrue (set.contains s j) ↔ Reaches now.flows i j) (sym is)
    (subst (λ (s : UndoableFlows). IsTrue (set.contains (row_of reached.rows i) j) ↔ Reaches s.flows i j) same (rows.now.forth i j within))

-- A row contains the hosts that reach its host.
pub shows_coming : (t now : UndoableFlows) (reached coming : UndoableRows) (j : ℕ) (row : HostNumbers) → HasReachRows t reached coming
    → t ≡ now → row ≡ row_of coming.rows j → j < now.size → (i : ℕ) → IsTrue (set.contains row i) ↔ Reaches now.flows i j
shows_coming t now reached coming j row rows same is below i =
    let within : j < t.size = omega (arith, below, ap (λ (s : UndoableFlows). s.size) same) in
    subst (λ (s : HostNumbers). IsTrue (set.contains s i) ↔ Reaches now.flows i j) (sym is)
    (subst (λ (s : UndoableFlows). IsTrue (set.contains (row_of coming.rows j) i) ↔ Reaches s.flows i j) same (rows.now.back i j within))

-- A row contains the hosts that are joined with its host.
pub shows_joined : (t now : UndoableFlows) (joined : UndoableRows) (i : ℕ) (row : HostNumbers) → HasJoinRows t joined
    → t ≡ now → row ≡ row_of joined.rows i → i < now.size → (j : ℕ) → IsTrue (set.contains row j) ↔ Joined now.flows i j
shows_joined t now joined i row rows same is below j =
    let within : i < t.size = omega (arith, below, ap (λ (s : UndoableFlows). s.size) same) in
    subst (λ (s : HostNumbers). IsTrue (set.contains s j) ↔ Joined now.flows i j) (sym is)
    (subst (λ (s : UndoableFlows). IsTrue (set.contains (row_of joined.rows i) j) ↔ Joined s.flows i j) same (rows.now.either i j within))
