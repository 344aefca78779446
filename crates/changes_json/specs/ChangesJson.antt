-- The answer of `changes` as JSON (docs/QUERIES.md).
use Rattle.std.specs.Prelude.{ℕ, List, ◌++◌, codes}
use Rattle.change_core.specs.declared.change.Change.{Change}
use Rattle.change_core.specs.declared.kind.ChangeKind.{ChangeKind}
use Rattle.change_core.specs.declared.kind.ChangeKind.TheVariants.{FlowComes, FlowGoes, AnswersCome, AnswersGo}
use Rattle.change_core.specs.declared.named_owner.NamedOwner.{NamedOwner}
use Rattle.change_core.specs.declared.named_owner.NamedOwner.TheVariants.{New, Old, Nobody}
use Rattle.host_net.specs.Host.{Host}
use Rattle.pass_core.specs.declared.passing_range.PassingRange.{PassingRange}
use Rattle.json_core.specs.Json.{array_json, flow_json, host_json, number_json, string_json}
use Rattle.range_json.specs.RangeJson.{header_json, header_or_null, range_json}
use Rattle.changes_json.specs.declared.weakened.Weakened.{Weakened}
use Rattle.changes_json.specs.declared.weakening.Weakening.{Weakening}

-- A host of the old description: {"old":"db"}.
unfoldable pub old_host_json : List Host → ℕ → List ℕ
old_host_json old j = codes "{\"old\":" ++ (host_json old j ++ codes "}")

-- An owner: a host of the new description by its name, a host of the old one, or null for the addresses that no host owns.
abbrev pub named_json : (new old : List Host) → NamedOwner → List ℕ
named_json new old (New i) = host_json new i
named_json new old (Old j) = old_host_json old j
named_json new old Nobody = codes "null"

-- A kind of change.
abbrev pub kind_text : ChangeKind → List ℕ
kind_text FlowComes = codes "flow comes"
kind_text FlowGoes = codes "flow goes"
kind_text AnswersCome = codes "answers come"
kind_text AnswersGo = codes "answers go"

-- A range of services: {"low":[6,80],"high":[6,90],"whole":true,"packet":{..},"other":null}.
unfoldable pub changed_range_json : PassingRange → List ℕ
changed_range_json r =
    range_json r ++ (codes ",\"packet\":" ++ (header_json r.passes ++ (codes ",\"other\":" ++ (header_or_null r.stays ++ codes "}"))))

-- A change: {"from":"web","to":{"old":"db"},"change":"flow comes","services":[..]}.
unfoldable pub change_json : (new old : List Host) → Change → List ℕ
change_json new old c =
    codes "{\"from\":" ++ (named_json new old c.from ++ (codes ",\"to\":" ++ (named_json new old c.to
    ++ (codes ",\"change\":" ++ (string_json (kind_text c.kind) ++ (codes ",\"services\":" ++ (array_json changed_range_json c.ranges.items ++ codes "}")))))))

-- A weaker flow, with the flow of the old network that its invariants with these numbers denied:
-- {"flow":["web","db"],"old":["www","db"],"denied_by":[2]}.
unfoldable pub weaker_json : (new old : List Host) → Weakened → List ℕ
weaker_json new old x =
    codes "{\"flow\":" ++ (flow_json new x.flows.flow ++ (codes ",\"old\":" ++ (flow_json old x.flows.old
    ++ (codes ",\"denied_by\":" ++ (array_json number_json x.denied_by.items ++ codes "}")))))

-- The answer of `changes`: the version of the format, all changes, all weaker flows, and all new gaps.
unfoldable pub changes_json : (new old : List Host) → List Change → Weakening → List ℕ
changes_json new old changes w =
    codes "{\"version\":1,\"changes\":" ++ (array_json (change_json new old) changes
    ++ (codes ",\"weaker\":" ++ (array_json (weaker_json new old) w.weaker.items
    ++ (codes ",\"gaps\":" ++ (array_json (flow_json new) w.gaps.flows ++ codes "}\n")))))
