-- Answers of `flows` that are equal but for the example packets, which stand in the same places.
use Rattle.std.specs.Prelude.{◌≡◌, ℕ, Bool, List, Option, map}
use Rattle.decide_core.specs.declared.flows.FlowRange.{FlowRange}
use Rattle.decide_core.specs.declared.flows.PairFlows.{PairFlows}
use Rattle.host_net.specs.Host.{Host}
use Rattle.ipt_rules.specs.declared.marks.Place.{Place}
use Rattle.rules_space.specs.Rules.{AnyRules}
use Rattle.nft_flows.specs.declared.flows.PairTableFlows.{PairTableFlows}
use Rattle.nft_flows.specs.declared.flows.TableFlowRange.{TableFlowRange}
use Rattle.nft_flows.specs.declared.place.TablePlace.{TablePlace}
use Rattle.flows_json.specs.FlowsJson.{flows_json}
use Rattle.flows_json.specs.TableFlowsJson.{ChainNames, table_flows_json}
use Rattle.range_json.specs.WithoutExamples.{range_without_examples}

-- The range of a pair without its examples: also the rules that let its packets pass, and whether some pass by default.
abbrev pub flow_range_without_examples : FlowRange → (ℕ × ℕ × Bool) × List Place × Bool
flow_range_without_examples r = (range_without_examples r.range, r.deciders.places.items, r.deciders.by_default)

-- The services of a pair without their examples.
abbrev pub pair_without_examples : PairFlows → Option ℕ × Option ℕ × List ((ℕ × ℕ × Bool) × List Place × Bool)
pair_without_examples f = (f.from, f.to, map flow_range_without_examples f.ranges.items)

-- Both texts are answers of `flows` for the same rules and hosts, with the same dead rules, and with flows that are equal but for
-- their examples.
pub record SameFlowsButExamples (text other : List ℕ) : Type 0 where
  pub rules : AnyRules
  pub hosts : List Host
  pub dead : List Place
  pub flows : List PairFlows
  pub other_flows : List PairFlows
  pub same : map pair_without_examples flows ≡ map pair_without_examples other_flows
  pub written : text ≡ flows_json rules hosts flows dead
  pub other_written : other ≡ flows_json rules hosts other_flows dead

-- The range of a pair without its examples, for a table: also the places that let its packets pass.
abbrev pub table_range_without_examples : TableFlowRange → (ℕ × ℕ × Bool) × List TablePlace
table_range_without_examples r = (range_without_examples r.range, r.deciders.items)

-- The services of a pair without their examples, for a table.
abbrev pub table_pair_without_examples : PairTableFlows → Option ℕ × Option ℕ × List ((ℕ × ℕ × Bool) × List TablePlace)
table_pair_without_examples f = (f.from, f.to, map table_range_without_examples f.ranges.items)

-- Both texts are answers of `flows` for tables with the same names of chains, for the same hosts, with the same dead places, and with flows
-- that are equal but for their examples.
pub record SameTableFlowsButExamples (text other : List ℕ) : Type 0 where
  pub names : ChainNames
  pub hosts : List Host
  pub dead : List TablePlace
  pub flows : List PairTableFlows
  pub other_flows : List PairTableFlows
  pub same : map table_pair_without_examples flows ≡ map table_pair_without_examples other_flows
  pub written : text ≡ table_flows_json names hosts flows dead
  pub other_written : other ≡ table_flows_json names hosts other_flows dead
