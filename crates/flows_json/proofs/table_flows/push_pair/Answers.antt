use Rattle.std.proofs.Common.{◌∙◌, append_assoc}
use Rattle.std.proofs.lemmas.Result.{on_ok_weaker}
use Rattle.flows_json.specs.TableFlowsJson.{table_pair_json}
use Rattle.flows_json.proofs.table_flows.push_pair.Goals as goal

pub returns : goal.returns
unfolding table_pair_json
returns c =
    on_ok_weaker c.push-4.result
    (λ last. last ∙ rw (c.in_ok-push_array.ensures, c.deref.ensures.value, c.in_ok-push-3.ensures, c.in_ok-push_owner-2.ensures, c.in_ok-push-2.ensures, c.in_ok-push_owner.ensures, c.in_ok-push.ensures) (simp append_assoc))
    c.push-4.ensures
