-- Runs in which fewer packets are ESTABLISHED than the connection table says.
use Rattle.std.specs.Prelude.{◌≡◌, ℕ, Bool, true, IsTrue, List, [], ◌∷◌, take, slice_get, Option, Some, None, ⊤}
use Rattle.host_net.specs.declared.packet.Packet.{Packet}
use Rattle.host_net.specs.declared.packet.CtState.{CtState}
use Rattle.pkt_core.specs.declared.event.Event.{Event}
use Rattle.pkt_core.specs.declared.event.Event.TheVariants.{Seen, Forget}
use Rattle.pkt_core.specs.Events.{SeenAt}
use Rattle.pkt_core.specs.Expected.{Expected}
use Rattle.pkt_core.specs.Firewall.{Filter, is_established}
use Rattle.pkt_core.specs.Tracking.{ConnectionTable, after_forget, after_seen, state_of}

-- A packet has a state, and passes or not in it. The state is ESTABLISHED only if it is so by the connection table.
pub record PassesWithFewer (filter : Filter) (kept : ConnectionTable) (p : Packet) (passes : Bool) : Type 0 where
  pub state : CtState
  pub fewer : IsTrue (is_established state) → IsTrue (is_established (state_of kept p))
  pub verdict : filter state p passes

-- A run of a filter with such states, chosen anew for each packet. The table tracks the packets as in any run.
abbrev pub RunsWithFewer : Filter → ConnectionTable → List Event → List (Option Bool) → Type 0
RunsWithFewer filter kept [] [] = ⊤
RunsWithFewer filter kept (Seen p ∷ events) (Some passes ∷ results) =
    PassesWithFewer filter kept p passes × RunsWithFewer filter (after_seen kept p passes) events results
RunsWithFewer filter kept (Forget p ∷ events) (None ∷ results) = RunsWithFewer filter (after_forget kept p) events results
RunsWithFewer filter kept events results = ⊥

-- Only expected packets pass.
abbrev pub PassOnlyExpected : (permitted stateful : Packet → Bool) → List Event → List (Option Bool) → Type 0
PassOnlyExpected permitted stateful events results =
    (k : ℕ) (p : Packet) → SeenAt events k p → slice_get results k ≡ Some (Some true) → Expected permitted stateful (take k events) p
