-- The finding of an audit if rules differ from a policy: the first short list on which they differ, in the order of kinds and of classes.
use Rattle.std.specs.Prelude.{◌≡◌, ℕ, ◌<◌, Bool, List, [], ◌∷◌, Option, Some, None}
use Rattle.host_net.specs.declared.packet.Packet.{Packet}
use Rattle.host_net.specs.Packet.{IsPacket, swap_of}
use Rattle.pkt_core.specs.declared.event.Event.{Event}
use Rattle.pkt_core.specs.declared.event.Event.TheVariants.{Seen}
use Rattle.pkt_core.specs.Filter.{ArePackets}
use Rattle.audit_core.specs.declared.kind.Kind.{Kind}
use Rattle.audit_core.specs.declared.kind.Kind.TheVariants.{Alone, AfterSwap, AfterBoth}
use Rattle.audit_core.specs.declared.finding.Trace.{Trace}
use Rattle.audit_core.specs.Lists.{front_of, list_of}
use Rattle.header_space.specs.Order.{ComesBefore}
use Rattle.audit_core.specs.Places.{IsClassPacket, Representatives}
use Rattle.audit_core.specs.Sides.{Agree, Differ, DifferThen, Sides}

-- The trace of that kind at a packet, with whether the rules forward the last packet.
abbrev pub trace_of : Kind → Packet → Bool → Trace
trace_of Alone p forwards = record { first = p; second = None; third = None; forwards = forwards }
trace_of AfterSwap p forwards = record { first = swap_of p; second = Some p; third = None; forwards = forwards }
trace_of AfterBoth p forwards = record { first = p; second = Some (swap_of p); third = Some p; forwards = forwards }

-- The packets of a trace, as events.
abbrev pub seen_then : Option Packet → List Event → List Event
seen_then None events = events
seen_then (Some p) events = Seen p ∷ events

abbrev pub events_of : Trace → List Event
events_of trace = Seen trace.first ∷ seen_then trace.second (seen_then trace.third [])

-- The order in which kinds are tried.
abbrev pub place_of : Kind → ℕ
place_of Alone = 0
place_of AfterSwap = 1
place_of AfterBoth = 2

-- The two sides agree on the lists of that kind at the packets of all classes.
abbrev pub AgreeAll : Sides → Representatives → Kind → Type 0
AgreeAll sides representatives kind = (q : Packet) → IsClassPacket representatives q → Agree sides (list_of kind q)

-- Packet q is the first class packet at the end of whose list of that kind the two sides differ. At each class packet before q they agree
-- on the list.
pub record IsFirstClass (sides : Sides) (representatives : Representatives) (kind : Kind) (q : Packet) (forwards : Bool) : Type 0 where
  pub is_class : IsClassPacket representatives q
  pub packet : IsPacket q
  pub differ : DifferThen sides (front_of kind q) q forwards
  pub first : (r : Packet) → IsClassPacket representatives r → ComesBefore r q → Agree sides (list_of kind r)

-- The trace is the first short list on which the two sides differ, in the order of kinds and then of classes. They differ at its end.
pub record IsFirstTrace (sides : Sides) (representatives : Representatives) (trace : Trace) : Type 0 where
  pub kind : Kind
  pub packet : Packet
  pub is : trace ≡ trace_of kind packet trace.forwards
  pub first : IsFirstClass sides representatives kind packet trace.forwards
  pub earlier : (k : Kind) → place_of k < place_of kind → AgreeAll sides representatives k
  pub differ : Differ sides (events_of trace)

-- The two sides differ on some list of events with valid packets.
abbrev pub DifferSomewhere : Sides → Type 0
DifferSomewhere sides = (events : List Event) × ArePackets events × Differ sides events
