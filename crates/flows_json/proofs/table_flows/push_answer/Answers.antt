use Rattle.std.proofs.Common.{◌∙◌, append_assoc}
use Rattle.std.proofs.lemmas.Result.{on_ok_weaker}
use Rattle.flows_json.specs.TableFlowsJson.{table_flows_json}
use Rattle.flows_json.proofs.table_flows.push_answer.Goals as goal

pub returns : goal.returns
unfolding table_flows_json
returns c =
    on_ok_weaker c.push-3.result
    (λ last. last ∙ rw (c.in_ok-push_array-2.ensures, c.in_ok-push-2.ensures, c.in_ok-push_array.ensures, c.in_ok-push.ensures) (simp append_assoc))
    c.push-3.ensures
