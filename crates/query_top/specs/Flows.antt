-- `flows DIALECT FILE RULES`: what rules let pass between the hosts of a network.
use Rattle.std.specs.Prelude.{◌≡◌, ℕ, List}
use Rattle.std.specs.List.{Contains}
use Rattle.rules_space.specs.Rules.{AnyRules, Chains, Entries}
use Rattle.decide_core.specs.DeadPlaces.{AreDeadPlaces, AreRemovablePlaces}
use Rattle.decide_core.specs.Flows.{AreFlows, IsOfRange}
use Rattle.decide_core.specs.declared.flows.FlowRange.{FlowRange}
use Rattle.decide_core.specs.declared.flows.PairFlows.{PairFlows}
use Rattle.host_net.specs.Host.{Host}
use Rattle.host_net.specs.Packet.{IsPacket}
use Rattle.host_net.specs.declared.packet.Packet.{Packet}
use Rattle.ipt_rules.specs.declared.marks.Place.{Place}
use Rattle.pass_core.specs.NewPackets.{LetsPass}
use Rattle.flows_json.specs.FlowsJson.{flows_json}
use Rattle.run_core.specs.Dialects.{rule_dialect_of}
use Rattle.run_core.specs.Outcomes.{Outcomes, writes}
use Rattle.run_core.specs.declared.dialect.Dialect.{Dialect}
use Rattle.run_core.specs.declared.dialect.Dialect.TheVariants.{Iptables, Nft, OpenFlow}
use Rattle.query_top.specs.TableFlows.{IsTableFlowsAnswer}

-- The flows have a packet: one of them is of the owners of its addresses, and has a range with its service.
pub record HavePacket (hosts : List Host) (flows : List PairFlows) (p : Packet) : Type 0 where
  pub flow : PairFlows
  pub listed : Contains flows flow
  pub range : FlowRange
  pub of_flow : Contains flow.ranges.items range
  pub of_range : IsOfRange hosts flow.from flow.to range.range p

-- The flows have each packet that the rules let pass as a packet of a new connection.
abbrev pub AreComplete : List Host → AnyRules → List PairFlows → Type 0
AreComplete hosts rules flows = (p : Packet) → IsPacket p → LetsPass rules p → HavePacket hosts flows p

-- The text is the JSON of all flows that the rules let pass between the owners of addresses, and of all dead rules. Each new packet that they
-- let pass is in the flows, and the dead rules are removable.
pub record IsFlowsAnswer (hosts : List Host) (rules : AnyRules) (text : List ℕ) : Type 0 where
  pub flows : List PairFlows
  pub are : AreFlows rules hosts flows
  pub complete : AreComplete hosts rules flows
  pub dead : List Place
  pub are_dead : AreDeadPlaces rules dead
  pub removable : AreRemovablePlaces rules dead
  pub written : text ≡ flows_json rules hosts flows dead

-- The answer for rules of a dialect.
abbrev pub IsFlowsAnswerOf : (dialect : Dialect) → List Host → (rule_dialect_of dialect).Rules → List ℕ → Type 0
IsFlowsAnswerOf Iptables hosts chains = IsFlowsAnswer hosts (Chains chains)
IsFlowsAnswerOf OpenFlow hosts entries = IsFlowsAnswer hosts (Entries entries)
IsFlowsAnswerOf Nft hosts rules = IsTableFlowsAnswer hosts rules

abbrev pub flows_outcomes : (dialect : Dialect) → List Host → (rule_dialect_of dialect).Rules → Outcomes
flows_outcomes dialect hosts said = writes (IsFlowsAnswerOf dialect hosts said) (IsFlowsAnswerOf dialect hosts said)
