-- The verdict of a flow table on a frame (OpenFlow Switch Specification 1.3, sections 5.3 and 5.4).
use Rattle.std.specs.Prelude.{◌≡◌, ◌≤◌, ◌⊎◌, Bool, IsTrue, List, [], ◌∷◌}
use Rattle.host_net.specs.declared.packet.Packet.{Packet}
use Rattle.host_net.specs.declared.packet.CtState.{CtState}
use Rattle.host_net.specs.declared.packet.Verdict.{Verdict}
use Rattle.host_net.specs.declared.packet.Verdict.TheVariants.{Forward as Forwarded, Drop as Dropped}
use Rattle.host_net.specs.Verdict.{verdict_if}
use Rattle.ofp_rules.specs.declared.entry.Frame.{Frame}
use Rattle.ofp_rules.specs.declared.entry.Frame.TheVariants.{Ipv4}
use Rattle.ofp_rules.specs.declared.entry.Action.{Action}
use Rattle.ofp_rules.specs.declared.entry.Action.TheVariants.{Normal, Drop}
use Rattle.ofp_rules.specs.declared.entry.Entry.{Entry}
use Rattle.ofp_rules.specs.Matching.{matches}

-- x is an element of the list.
abbrev pub IsOneOf : {A : Type 0} → A → List A → Type 0
IsOneOf x [] = ⊥
IsOneOf x (y ∷ ys) = (x ≡ y) ⊎ IsOneOf x ys

-- Entry e matches the frame, and no matching entry has a higher priority.
pub record IsHighest (entries : List Entry) (frame : Frame) (e : Entry) : Type 0 where
  pub listed : IsOneOf e entries
  pub matched : IsTrue (matches frame e)
  pub above : (f : Entry) → IsOneOf f entries → IsTrue (matches frame f) → f.priority ≤ e.priority

-- No entry matches the frame.
abbrev pub MatchesNone : List Entry → Frame → Type 0
MatchesNone entries frame = (f : Entry) → IsOneOf f entries → IsTrue (matches frame f) → ⊥

-- The verdict of an action: NORMAL forwards the frame, and drop drops it.
abbrev pub verdict_of : Action → Verdict
verdict_of Normal = Forwarded
verdict_of Drop = Dropped

-- The verdict is the action of any matching entry of the highest priority. A frame that no entry matches is dropped.
abbrev pub HasVerdict : List Entry → Frame → Verdict → Type 0
HasVerdict entries frame v =
    ((e : Entry) × IsHighest entries frame e × (v ≡ verdict_of e.action)) ⊎ (MatchesNone entries frame × (v ≡ Dropped))

-- The table as a filter of IPv4 frames: it forwards the packet or drops it. It is stateless: the result is the same in every state.
abbrev pub PassesEntries : List Entry → CtState → Packet → Bool → Type 0
PassesEntries entries state packet passes = HasVerdict entries (Ipv4 packet) (verdict_if passes)
