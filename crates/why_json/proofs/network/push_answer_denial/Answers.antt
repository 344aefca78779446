use Rattle.std.proofs.Common.{◌∙◌, append_assoc}
use Rattle.std.proofs.lemmas.Result.{on_ok_weaker}
use Rattle.why_json.specs.WhyJson.{answer_denial_json}
use Rattle.why_json.proofs.network.push_answer_denial.Goals as goal

pub returns : goal.returns
unfolding answer_denial_json
returns c =
    on_ok_weaker c.push-3.result
    (λ last. last ∙ rw (c.in_ok-push_numbers.ensures, c.in_ok-push-2.ensures, c.in_ok-push_flow.ensures, c.in_ok-push.ensures, c.hosts.ensures.value, c.deref.ensures.value) (simp append_assoc))
    c.push-3.ensures
