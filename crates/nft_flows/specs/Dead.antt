-- Dead rules and elements of a table: those that no packet meets, in any state of its connection.
use Rattle.std.specs.Prelude.{◌↔◌, IsSome, List}
use Rattle.std.specs.List.{Contains}
use Rattle.host_net.specs.declared.packet.Packet.{Packet}
use Rattle.host_net.specs.declared.packet.CtState.{CtState}
use Rattle.host_net.specs.Packet.{IsPacket}
use Rattle.nft_rules.specs.declared.table.Table.{Table}
use Rattle.nft_flows.specs.Places.{AreAscending, IsMet, verdict_at}
use Rattle.nft_flows.specs.declared.place.TablePlace.{TablePlace}

-- The table has a rule or an element at the place, and no packet meets it.
pub record IsDeadPlace (table : Table) (place : TablePlace) : Type 0 where
  pub there : IsSome (verdict_at table place)
  pub unmet : (p : Packet) (state : CtState) → IsPacket p → IsMet table p state place → ⊥

-- The places are those of all dead rules and elements, in ascending order.
pub record AreDeadTablePlaces (table : Table) (places : List TablePlace) : Type 0 where
  pub ascending : AreAscending places
  pub exact : (place : TablePlace) → Contains places place ↔ IsDeadPlace table place
