use Rattle.std.proofs.Common.{◌∙◌, append_assoc}
use Rattle.std.proofs.lemmas.Result.{on_ok_weaker}
use Rattle.flows_json.specs.TableFlowsJson.{table_range_json}
use Rattle.flows_json.proofs.table_flows.push_flow_range.Goals as goal

pub returns : goal.returns
unfolding table_range_json
returns c =
    on_ok_weaker c.push-5.result
    (λ last. last ∙ rw (c.in_ok-push_bool.ensures, c.in_ok-push-4.ensures, c.in_ok-push_array.ensures, c.deref.ensures.value, c.in_ok-push-3.ensures, c.in_ok-push_header_or_null.ensures, c.in_ok-push-2.ensures, c.in_ok-push_header.ensures, c.in_ok-push.ensures, c.in_ok-push_range.ensures) (simp append_assoc))
    c.push-5.ensures
