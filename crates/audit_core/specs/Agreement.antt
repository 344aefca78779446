-- Agreement of a filter with a policy on a list of events. The filter tracks connections, from an empty connection table.
use Rattle.std.specs.Prelude.{◌≡◌, ◌⊎◌, ℕ, Bool, false, IsTrue, List, take, slice_get, Option, Some}
use Rattle.host_net.specs.declared.packet.Packet.{Packet}
use Rattle.pkt_core.specs.declared.event.Event.{Event}
use Rattle.pkt_core.specs.Events.{SeenAt}
use Rattle.pkt_core.specs.Expected.{AreExpected, Expected}
use Rattle.pkt_core.specs.Filter.{RunsFromNoConnections}
use Rattle.pkt_core.specs.Firewall.{Filter}

-- The packet passes and is not expected to pass, or it does not pass and is expected to pass.
abbrev pub IsWrong : Bool → Type 0 → Type 0
IsWrong passes Expects = (IsTrue passes × (Expects → ⊥)) ⊎ ((passes ≡ false) × Expects)

-- The filter and the policy agree on a list of events: the results of every run over it are the expected results.
abbrev pub AgreeOn : Filter → (permitted stateful : Packet → Bool) → List Event → Type 0
AgreeOn filter permitted stateful events =
    (results : List (Option Bool)) → RunsFromNoConnections filter events results → AreExpected permitted stateful events results

-- The filter and the policy differ on a list of events: at some index of some run over it, a packet passes and is not expected to pass, or
-- it does not pass and is expected to pass.
pub record DifferOn (filter : Filter) (permitted stateful : Packet → Bool) (events : List Event) : Type 0 where
  pub results : List (Option Bool)
  pub run : RunsFromNoConnections filter events results
  pub place : ℕ
  pub packet : Packet
  pub seen : SeenAt events place packet
  pub passes : Bool
  pub answer : slice_get results place ≡ Some (Some passes)
  pub wrong : IsWrong passes (Expected permitted stateful (take place events) packet)
