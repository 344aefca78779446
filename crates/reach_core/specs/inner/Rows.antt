-- Rows of hosts, one for each host: the meaning of the rows of a closure, and the effect of a step. No clause of a
-- public call mentions rows.
use Rattle.std.specs.Prelude.{◌≡◌, ℕ, ◌<◌, ◌≤◌, ◌↔◌, Bool, if◌then◌else◌, List, length, IsTrue, IfSome}
use Rattle.std.specs.FinSet as set
use Rattle.flow_set.specs.declared.flow.Flow.{Flow}
use Rattle.flow_set.specs.FlowSet.{has}
use Rattle.flow_set.specs.inner.FlowSetView.{IsFlowSet}
use Rattle.flow_set.specs.inner.Steps.{UndoableFlows}
use Rattle.flow_set.specs.HostSet.{HostNumbers}
use Rattle.flow_set.specs.inner.HostSet.{row_of}
use Rattle.reach_core.specs.declared.stepped.UndoableRows.{UndoableRows}
use Rattle.reach_core.specs.Walks.{HasWalk, has_either}

-- ---- the meaning of rows

-- Each row of n hosts contains the hosts that its host reaches.
abbrev pub Closes : (Flow → Bool) → ℕ → (ℕ → HostNumbers) → Type 0
Closes test n row = (i j : ℕ) → i < n → IsTrue (set.contains (row i) j) ↔ HasWalk test i j

-- Each row contains the hosts that reach its host.
abbrev pub ClosesBack : (Flow → Bool) → ℕ → (ℕ → HostNumbers) → Type 0
ClosesBack test n row = (i j : ℕ) → j < n → IsTrue (set.contains (row j) i) ↔ HasWalk test i j

-- The rows of the reached hosts, and of the reaching hosts.
pub record ShowsReach (n : ℕ) (fs : List Flow) (reached coming : ℕ → HostNumbers) : Type 0 where
  pub is_set : IsFlowSet n fs
  pub forth : Closes (has fs) n reached
  pub back : ClosesBack (has fs) n coming

-- The rows of the joined hosts.
pub record ShowsJoin (n : ℕ) (fs : List Flow) (joined : ℕ → HostNumbers) : Type 0 where
  pub is_set : IsFlowSet n fs
  pub either : Closes (has_either fs) n joined

-- ---- the effect of a step

-- Each host of the set has a number below n.
abbrev pub AreBelow : HostNumbers → ℕ → Type 0
AreBelow hosts n = (i : ℕ) → IsTrue (set.contains hosts i) → i < n

-- The rows after the rows of some hosts were extended, and their previous contents.
pub record IsWidened (old new before : List HostNumbers) (hosts by : HostNumbers) : Type 0 where
  pub rows_length : length new ≡ length old
  pub before_length : length before ≡ length old
  pub now : (i : ℕ) → i < length old
      → row_of new i ≡ (if set.contains hosts i then set.union (row_of old i) by else row_of old i)
  pub was : (i : ℕ) → IsTrue (set.contains hosts i) → row_of before i ≡ row_of old i

-- A row now.
abbrev pub row_now : UndoableRows → ℕ → HostNumbers
row_now r i = row_of r.rows i

-- A row before the last step.
abbrev pub row_before : UndoableRows → ℕ → HostNumbers
row_before r i = if set.contains r.changed i then row_of r.before i else row_of r.rows i

-- The rows after the last step was undone.
pub record IsBack (r : UndoableRows) (rows : List HostNumbers) : Type 0 where
  pub same_length : length rows ≡ length r.rows
  pub back : (i : ℕ) → i < length r.rows → row_of rows i ≡ row_before r i

-- Rows of n hosts, with space for an undo record.
pub record FitsRows (r : UndoableRows) (n : ℕ) : Type 0 where
  pub small : n ≤ 256
  pub rows_length : length r.rows ≡ n
  pub before_length : length r.before ≡ n
  pub changed_below : AreBelow r.changed n

-- ---- the rows of an undoable set of flows, and those before the last step

pub record HasReachRows (t : UndoableFlows) (reached coming : UndoableRows) : Type 0 where
  pub reached_fits : FitsRows reached t.size
  pub coming_fits : FitsRows coming t.size
  pub now : ShowsReach t.size t.flows (row_now reached) (row_now coming)
  pub before : IfSome t.before_step (λ fs. ShowsReach t.size fs (row_before reached) (row_before coming))

pub record HasJoinRows (t : UndoableFlows) (joined : UndoableRows) : Type 0 where
  pub joined_fits : FitsRows joined t.size
  pub now : ShowsJoin t.size t.flows (row_now joined)
  pub before : IfSome t.before_step (λ fs. ShowsJoin t.size fs (row_before joined))
