-- Deciders: the places of a table that decide packets of new connections.
use Rattle.std.specs.Prelude.{◌↔◌, Bool, true, false, IsTrue, List, Option, Some, None}
use Rattle.std.specs.List.{Contains}
use Rattle.host_net.specs.declared.packet.Packet.{Packet}
use Rattle.host_net.specs.declared.packet.CtState.{CtState}
use Rattle.host_net.specs.declared.packet.CtState.TheVariants.{New}
use Rattle.nft_rules.specs.declared.table.Table.{Table}
use Rattle.nft_rules.specs.declared.table.Verdict.{Verdict}
use Rattle.nft_rules.specs.declared.table.Verdict.TheVariants.{Accept, Drop, Goto}
use Rattle.nft_rules.specs.Semantics.{PassesTable}
use Rattle.nft_flows.specs.Places.{AreAscending, IsMet, verdict_at}
use Rattle.nft_flows.specs.declared.place.TablePlace.{TablePlace}

-- The verdict ends the evaluation: it accepts or drops.
abbrev pub ends_evaluation : Option Verdict → Bool
ends_evaluation (Some Accept) = true
ends_evaluation (Some Drop) = true
ends_evaluation (Some (Goto c)) = false
ends_evaluation None = false

-- The place decides the packet: the packet meets it, and its verdict accepts or drops. No place decides a packet that the policy of the base
-- chain drops.
abbrev pub DecidesAt : Table → Packet → CtState → TablePlace → Type 0
DecidesAt table packet state place = IsMet table packet state place × IsTrue (ends_evaluation (verdict_at table place))

-- The place decides at least one of the packets `Among` such that it passes as a packet of a new connection.
pub record DecidesOne (table : Table) (Among : Packet → Type 0) (place : TablePlace) : Type 0 where
  pub packet : Packet
  pub among : Among packet
  pub passes : PassesTable table New packet true
  pub decides : DecidesAt table packet New place

-- The places are those that decide at least one of the packets `Among` such that it passes, in ascending order.
pub record AreTableDeciders (table : Table) (Among : Packet → Type 0) (places : List TablePlace) : Type 0 where
  pub ascending : AreAscending places
  pub exact : (place : TablePlace) → Contains places place ↔ DecidesOne table Among place
