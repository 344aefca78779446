-- The answer of `flows` as JSON (docs/QUERIES.md).
use Rattle.std.specs.Prelude.{ℕ, List, ◌++◌, codes}
use Rattle.rules_space.specs.Rules.{AnyRules, Chains, Entries}
use Rattle.decide_core.specs.declared.flows.FlowRange.{FlowRange}
use Rattle.decide_core.specs.declared.flows.PairFlows.{PairFlows}
use Rattle.host_net.specs.Host.{Host}
use Rattle.ipt_rules.specs.Chain.{Chain, name_of}
use Rattle.ipt_rules.specs.declared.marks.Place.{Place}
use Rattle.json_core.specs.Json.{array_json, bool_json, escaped_json, number_json, owner_json}
use Rattle.range_json.specs.RangeJson.{header_json, header_or_null, range_json}

-- A rule by its chain and its number there, counted from 1: {"chain":"FORWARD","rule":3}.
unfoldable pub rule_json : List Chain → Place → List ℕ
rule_json chains place =
    codes "{\"chain\":" ++ (escaped_json (name_of chains place.chain) ++ (codes ",\"rule\":" ++ (number_json place.rule ++ codes "}")))

-- An entry of a flow table by its number, counted from 1: {"entry":3}.
unfoldable pub entry_json : Place → List ℕ
entry_json place = codes "{\"entry\":" ++ (number_json place.rule ++ codes "}")

-- The rule or the entry at a place.
abbrev pub place_json : AnyRules → Place → List ℕ
place_json (Chains chains) place = rule_json chains place
place_json (Entries entries) place = entry_json place

-- A range of services that pass, with the rules that let them pass:
-- {"low":[6,80],"high":[6,90],"whole":true,"passes":{..},"drops":null,"rules":[..],"default":false}.
unfoldable pub flow_range_json : AnyRules → FlowRange → List ℕ
flow_range_json rules r =
    range_json r.range ++ (codes ",\"passes\":" ++ (header_json r.range.passes ++ (codes ",\"drops\":" ++ (header_or_null r.range.stays
    ++ (codes ",\"rules\":" ++ (array_json (place_json rules) r.deciders.places.items ++ (codes ",\"default\":" ++ (bool_json r.deciders.by_default ++ codes "}"))))))))

-- The services from one owner to another: {"from":"web","to":null,"services":[..]}.
unfoldable pub pair_flows_json : AnyRules → List Host → PairFlows → List ℕ
pair_flows_json rules hosts f =
    codes "{\"from\":" ++ (owner_json hosts f.from ++ (codes ",\"to\":" ++ (owner_json hosts f.to
    ++ (codes ",\"services\":" ++ (array_json (flow_range_json rules) f.ranges.items ++ codes "}")))))

-- The answer of `flows`: the version of the format, all pairs between which a packet passes, and all dead rules.
unfoldable pub flows_json : AnyRules → List Host → List PairFlows → (dead : List Place) → List ℕ
flows_json rules hosts flows dead =
    codes "{\"version\":1,\"pairs\":" ++ (array_json (pair_flows_json rules hosts) flows ++ (codes ",\"dead\":" ++ (array_json (place_json rules) dead ++ codes "}\n")))
