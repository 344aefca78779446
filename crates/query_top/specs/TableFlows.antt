-- `flows nft FILE RULES`: what a table of nftables lets pass between the hosts of a network.
use Rattle.std.specs.Prelude.{◌≡◌, ℕ, List, true}
use Rattle.std.specs.List.{Contains}
use Rattle.decide_core.specs.Flows.{IsOfRange}
use Rattle.host_net.specs.Host.{Host}
use Rattle.host_net.specs.Packet.{IsPacket}
use Rattle.host_net.specs.declared.packet.Packet.{Packet}
use Rattle.host_net.specs.declared.packet.CtState.TheVariants.{New}
use Rattle.nft_flows.specs.Dead.{AreDeadTablePlaces}
use Rattle.nft_flows.specs.Flows.{AreTableFlows}
use Rattle.nft_flows.specs.Removal.{AreRemovableTablePlaces}
use Rattle.nft_flows.specs.declared.flows.PairTableFlows.{PairTableFlows}
use Rattle.nft_flows.specs.declared.flows.TableFlowRange.{TableFlowRange}
use Rattle.nft_flows.specs.declared.place.TablePlace.{TablePlace}
use Rattle.nft_rules.specs.Semantics.{PassesTable}
use Rattle.nft_rules.specs.declared.table.Table.{Table}
use Rattle.flows_json.specs.TableFlowsJson.{name_in, table_flows_json}
use Rattle.run_core.specs.Tables.{HasRules, TableRules}

-- The flows have a packet: one of them is of the owners of its addresses, and has a range with its service.
pub record HaveTablePacket (hosts : List Host) (flows : List PairTableFlows) (p : Packet) : Type 0 where
  pub flow : PairTableFlows
  pub listed : Contains flows flow
  pub range : TableFlowRange
  pub of_flow : Contains flow.ranges.items range
  pub of_range : IsOfRange hosts flow.from flow.to range.range p

-- The flows have each packet that the table lets pass as a packet of a new connection.
abbrev pub IsTableComplete : List Host → Table → List PairTableFlows → Type 0
IsTableComplete hosts table flows = (p : Packet) → IsPacket p → PassesTable table New p true → HaveTablePacket hosts flows p

-- The text is the JSON of all flows that a table with these rules lets pass between the owners of addresses, and of all its dead rules and
-- elements. Each new packet that it lets pass is in the flows, and the dead rules and elements are removable.
pub record IsTableFlowsAnswer (hosts : List Host) (rules : TableRules) (text : List ℕ) : Type 0 where
  pub table : Table
  pub has_rules : HasRules table rules
  pub flows : List PairTableFlows
  pub are : AreTableFlows table hosts flows
  pub complete : IsTableComplete hosts table flows
  pub dead : List TablePlace
  pub are_dead : AreDeadTablePlaces table dead
  pub removable : AreRemovableTablePlaces table dead
  pub written : text ≡ table_flows_json (name_in table) hosts flows dead
