use Rattle.std.proofs.Common.{◌∙◌, append_assoc}
use Rattle.std.proofs.lemmas.Result.{on_ok_weaker}
use Rattle.flows_json.specs.TableFlowsJson.{table_place_json}
use Rattle.flows_json.proofs.table_flows.push_table_place.Goals as goal

pub returns : goal.returns
unfolding table_place_json
returns c =
    on_ok_weaker c.push-3.result
    (λ last. last ∙ rw (c.in_ok-push_element.ensures, c.in_ok-push_rule_number.ensures, c.in_ok-push-2.ensures, c.in_ok-push_escaped.ensures, c.name_in.ensures, c.in_ok-push.ensures) (simp append_assoc))
    c.push-3.ensures
