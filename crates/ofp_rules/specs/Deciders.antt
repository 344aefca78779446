-- The entry of a flow table that decides a frame (OpenFlow Switch Specification 1.3, sections 5.3 and 5.4).
use Rattle.std.specs.Prelude.{◌≡◌, ℕ, ◌<◌, ◌≤◌, IsTrue, List, Option, Some, None, slice_get}
use Rattle.std.specs.Option.{option_map_or}
use Rattle.host_net.specs.declared.packet.Verdict.{Verdict}
use Rattle.host_net.specs.declared.packet.Verdict.TheVariants.{Drop as Dropped}
use Rattle.ofp_rules.specs.declared.entry.Entry.{Entry}
use Rattle.ofp_rules.specs.declared.entry.Frame.{Frame}
use Rattle.ofp_rules.specs.Matching.{matches}
use Rattle.ofp_rules.specs.Semantics.{verdict_of}

-- The entry at index k decides the frame: it matches, no matching entry has a higher priority, and each earlier matching entry has a
-- lower priority.
pub record DecidesAt (entries : List Entry) (frame : Frame) (k : ℕ) : Type 0 where
  pub entry : Entry
  pub there : slice_get entries k ≡ Some entry
  pub matched : IsTrue (matches frame entry)
  pub above : (j : ℕ) (f : Entry) → slice_get entries j ≡ Some f → IsTrue (matches frame f) → f.priority ≤ entry.priority
  pub first : (j : ℕ) (f : Entry) → j < k → slice_get entries j ≡ Some f → IsTrue (matches frame f) → f.priority < entry.priority

-- The decider of the frame is the index of the entry that decides it, or None, the end of the table, if no entry matches.
abbrev pub IsEntryDecider : List Entry → Frame → Option ℕ → Type 0
IsEntryDecider entries frame None = (j : ℕ) (f : Entry) → slice_get entries j ≡ Some f → IsTrue (matches frame f) → ⊥
IsEntryDecider entries frame (Some k) = DecidesAt entries frame k

-- The verdict of a decider: the verdict of the entry's action, or a drop.
abbrev pub decided : List Entry → Option ℕ → Verdict
decided entries None = Dropped
decided entries (Some k) = option_map_or (λ e. verdict_of e.action) (slice_get entries k) Dropped
