-- The answers of `why` and `network` as JSON (docs/QUERIES.md). Names of templates have only letters, digits, `_` and `-`, so no string has
-- an escape.
use Rattle.std.specs.Prelude.{ℕ, ◌==◌, ◌&&◌, Bool, true, false, not, List, [], ◌++◌, length, slice_get, codes, Option, None, Some}
use Rattle.std.specs.List.{range_with_len}
use Rattle.std.specs.Option.{option_map_or}
use Rattle.flow_set.specs.FlowSet.{SetOfFlows}
use Rattle.flow_set.specs.declared.flow.Flow.{Flow}
use Rattle.host_net.specs.Services.{services_of}
use Rattle.inv_any.specs.Templates.{template_name}
use Rattle.inv_any.specs.declared.any_inv.AnyInv.{AnyInv}
use Rattle.inv_law.specs.declared.strategy.Strategy.{Strategy}
use Rattle.inv_law.specs.declared.strategy.Strategy.TheVariants.{Access, Information}
use Rattle.net_core.specs.Network.{Network}
use Rattle.net_core.specs.Policies.{Policy, strategy_of}
use Rattle.explain_core.specs.declared.finding.Finding.{Finding}
use Rattle.explain_core.specs.declared.reason.Reason.{Reason}
use Rattle.why_json.specs.Standings.{standing_of}
use Rattle.why_json.specs.declared.explanation.Explanation.{Explanation}
use Rattle.why_json.specs.declared.offence.Offence.{Offence}
use Rattle.why_json.specs.declared.standing.Standing.{Standing}
use Rattle.json_core.specs.Json.{array_json, bool_json, flow_json, host_entry_json, number_json, service_json, string_json}

-- ---- invariants

abbrev pub strategy_text : Strategy → List ℕ
strategy_text Access = codes "access"
strategy_text Information = codes "information"

-- The first three members of an object, for an invariant: {"invariant":2,"template":"sink","strategy":"information".
unfoldable pub invariant_json : ℕ → AnyInv → List ℕ
invariant_json number inv =
    codes "{\"invariant\":" ++ (number_json number ++ (codes ",\"template\":" ++ (string_json (template_name inv) ++ (codes ",\"strategy\":" ++ string_json (strategy_text (strategy_of inv))))))

-- The same for the invariant of the network with this number.
abbrev pub invariant_at : Network → ℕ → List ℕ
invariant_at d number = option_map_or (invariant_json number) (slice_get d.invariants number) []

-- A reason: {"invariant":2,"template":"sink","strategy":"information","flows":[["web","db"]]}.
unfoldable pub reason_json : Network → Reason → List ℕ
reason_json d r = invariant_at d r.number ++ (codes ",\"flows\":" ++ (array_json (flow_json d.hosts) r.by.flows ++ codes "}"))

-- The flows of an offence, none if the invariant holds.
abbrev pub offending_flows : Option SetOfFlows → List Flow
offending_flows None = []
offending_flows (Some set) = set.flows

abbrev pub has_no_offence : Option SetOfFlows → Bool
has_no_offence None = true
has_no_offence (Some set) = false

-- An invariant with its offence: {"invariant":2,"template":"sink","strategy":"information","holds":false,"offending":[["web","db"]]}.
unfoldable pub offence_json : Network → Offence → List ℕ
offence_json d x =
    invariant_at d x.number ++ (codes ",\"holds\":" ++ (bool_json (has_no_offence x.flows) ++ (codes ",\"offending\":" ++ (array_json (flow_json d.hosts) (offending_flows x.flows) ++ codes "}"))))

-- ---- the answers

-- The first five members of an object, for a flow:
-- "flow":["web","db"],"asked":true,"permitted":true,"answered":false,"services":["tcp/443"].
unfoldable pub standing_json : Network → Standing → List ℕ
standing_json d x =
    codes "\"flow\":" ++ (flow_json d.hosts x.flow ++ (codes ",\"asked\":" ++ (bool_json x.asked ++ (codes ",\"permitted\":" ++ (bool_json x.permitted
    ++ (codes ",\"answered\":" ++ (bool_json x.answered ++ (codes ",\"services\":" ++ array_json service_json (services_of d.services x.flow.from x.flow.to)))))))))

-- The answer of `why`: the version of the format, the standing of the flow, and the reasons.
unfoldable pub why_json : Network → Explanation → List ℕ
why_json d x =
    codes "{\"version\":1," ++ (standing_json d x.standing ++ (codes ",\"denied_by\":" ++ (array_json (reason_json d) x.denied_by.items
    ++ (codes ",\"answers_denied_by\":" ++ (array_json (reason_json d) x.answers_denied_by.items ++ codes "}\n")))))

-- A flow is a gap: it is not requested, and no invariant denies it beside the permitted flows.
abbrev pub is_gap : Standing → List ℕ → Bool
is_gap x denied_by = not x.asked && (length denied_by == 0)

-- A flow between two hosts: its standing, the numbers of the invariants that deny it, and whether it is a gap.
unfoldable pub pair_json : Network → Policy → Finding → List ℕ
pair_json d policy x =
    codes "{" ++ (standing_json d (standing_of d policy x.flow) ++ (codes ",\"denied_by\":" ++ (array_json number_json x.by.items
    ++ (codes ",\"gap\":" ++ (bool_json (is_gap (standing_of d policy x.flow) x.by.items) ++ codes "}")))))

-- A permitted flow whose answers may not pass: {"flow":["web","db"],"denied_by":[2]}.
unfoldable pub answer_denial_json : Network → Finding → List ℕ
answer_denial_json d x =
    codes "{\"flow\":" ++ (flow_json d.hosts x.flow ++ (codes ",\"denied_by\":" ++ (array_json number_json x.by.items ++ codes "}")))

-- The answer of `network`: the version of the format, hosts, invariants, every flow, and the permitted flows without answers.
unfoldable pub network_json : Network → Policy → List Offence → (denials answer_denials : List Finding) → List ℕ
network_json d policy offences denials answer_denials =
    codes "{\"version\":1,\"hosts\":" ++ (array_json (host_entry_json d.hosts) (range_with_len 0 (length d.hosts))
    ++ (codes ",\"invariants\":" ++ (array_json (offence_json d) offences
    ++ (codes ",\"flows\":" ++ (array_json (pair_json d policy) denials
    ++ (codes ",\"without_answers\":" ++ (array_json (answer_denial_json d) answer_denials ++ codes "}\n")))))))
