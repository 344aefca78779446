use Rattle.json_core.specs.Json.{array_json, separated}
use Rattle.why_json.proofs.offence.push_no_flows.Goals as goal

pub returns : goal.returns
unfolding array_json separated
returns c = c.push.ensures
