-- The three kinds of list at a packet, and a difference of a filter and a policy at the end of a list.
use Rattle.std.specs.Prelude.{◌≡◌, Bool, List, [], ◌∷◌, ◌++◌, length, Option, Some}
use Rattle.host_net.specs.declared.packet.Packet.{Packet}
use Rattle.host_net.specs.Packet.{swap_of}
use Rattle.pkt_core.specs.declared.event.Event.{Event}
use Rattle.pkt_core.specs.declared.event.Event.TheVariants.{Seen}
use Rattle.pkt_core.specs.Expected.{Expected}
use Rattle.pkt_core.specs.Filter.{RunsFromNoConnections}
use Rattle.pkt_core.specs.Firewall.{Filter}
use Rattle.audit_core.specs.declared.kind.Kind.{Kind}
use Rattle.audit_core.specs.declared.kind.Kind.TheVariants.{Alone, AfterSwap, AfterBoth}
use Rattle.audit_core.specs.Agreement.{IsWrong}

-- The events before the packet in its list of that kind.
abbrev pub front_of : Kind → Packet → List Event
front_of Alone p = []
front_of AfterSwap p = Seen (swap_of p) ∷ []
front_of AfterBoth p = Seen p ∷ Seen (swap_of p) ∷ []

abbrev pub list_of : Kind → Packet → List Event
list_of kind p = front_of kind p ++ Seen p ∷ []

-- After these events, the packet passes and is not expected to pass, or it does not pass and is expected to pass.
pub record DifferAfter (filter : Filter) (permitted stateful : Packet → Bool) (past : List Event) (p : Packet) (passes : Bool) : Type 0 where
  pub results : List (Option Bool)
  pub run : RunsFromNoConnections filter (past ++ Seen p ∷ []) (results ++ Some passes ∷ [])
  pub many : length results ≡ length past
  pub wrong : IsWrong passes (Expected permitted stateful past p)
