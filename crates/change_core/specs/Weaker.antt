-- Protection that a new network lacks and an old network had: flows that are no longer denied, and gaps that did not exist. The flows of the
-- two networks are compared by their packets: the names and the order of hosts are irrelevant.
use Rattle.std.specs.Prelude.{◌≡◌, ◌⊎◌, ◌↔◌, List, [], ◌∷◌, Some, IsTrue}
use Rattle.std.specs.List.{AllPairs, Contains}
use Rattle.host_net.specs.declared.packet.Packet.{Packet}
use Rattle.host_net.specs.Host.{Host}
use Rattle.host_net.specs.Packet.{IsPacket}
use Rattle.host_net.specs.Site.{Site}
use Rattle.flow_set.specs.declared.flow.Flow.{Flow}
use Rattle.flow_set.specs.Flow.{before}
use Rattle.flow_set.specs.FlowSet.{has}
use Rattle.header_space.specs.Owners.{IsOfPair}
use Rattle.pkt_core.specs.FlowPolicy.{is_of}
use Rattle.change_core.specs.declared.weaker.Weaker.{Weaker}

-- Flow f of the new network and flow g of the old network share a packet: some packet goes between the hosts of both, and matches the services
-- of both. A flow without services has every packet between its hosts.
abbrev pub SharePacket : (new old : Site) → (f g : Flow) → Type 0
SharePacket new old f g = (p : Packet) × IsPacket p × IsTrue (is_of new (f ∷ []) p) × IsTrue (is_of old (g ∷ []) p)

-- ---- Weaker flows: `free` has the flows that no invariant of the new network denies, and `denied` has the flows that an invariant of the
-- old network denies.

-- Both flows of w share a packet: its new flow, which is free, and its old flow, which is denied.
pub record IsWeaker (old : Site) (denied : List Flow) (new : Site) (free : List Flow) (w : Weaker) : Type 0 where
  pub is_free : IsTrue (has free w.flow)
  pub is_denied : IsTrue (has denied w.old)
  pub shared : SharePacket new old w.flow w.old

-- The order of weaker flows: by the new flow, then by the old flow.
abbrev pub ComesBefore : (v w : Weaker) → Type 0
ComesBefore v w = IsTrue (before v.flow w.flow) ⊎ ((v.flow ≡ w.flow) × IsTrue (before v.old w.old))

-- The list has exactly the weaker flows, each once, in ascending order.
pub record AreWeaker (old : Site) (denied : List Flow) (new : Site) (free : List Flow) (ws : List Weaker) : Type 0 where
  pub ascending : AllPairs ComesBefore ws
  pub exact : (w : Weaker) → (Contains ws w ↔ IsWeaker old denied new free w)

-- ---- New gaps: `gaps` has the gaps of the new network, and `old_gaps` has the gaps of the old network. A gap is not requested, so it has no
-- services.

-- Packet p goes from host f.from to host f.to.
abbrev pub IsOfFlow : List Host → Flow → Packet → Type 0
IsOfFlow hosts f p = IsOfPair hosts (Some f.from) (Some f.to) p

-- Flow f is a gap of the new network, and some packet goes between its hosts, and not between the hosts of a gap of the old network.
pub record IsNewGap (old : List Host) (old_gaps : List Flow) (new : List Host) (gaps : List Flow) (f : Flow) : Type 0 where
  pub is_gap : IsTrue (has gaps f)
  pub packet : Packet
  pub of_gap : IsOfFlow new f packet
  pub of_no_old_gap : (g : Flow) → IsTrue (has old_gaps g) → IsOfFlow old g packet → ⊥
