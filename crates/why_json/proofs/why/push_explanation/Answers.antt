use Rattle.std.proofs.Common.{◌∙◌, append_assoc}
use Rattle.std.proofs.lemmas.Result.{on_ok_weaker}
use Rattle.why_json.specs.WhyJson.{why_json}
use Rattle.why_json.proofs.why.push_explanation.Goals as goal

pub returns : goal.returns
unfolding why_json
returns c =
    on_ok_weaker c.push-4.result
    (λ last. last ∙ rw (c.in_ok-push_reasons-2.ensures, c.in_ok-push-3.ensures, c.in_ok-push_reasons.ensures, c.in_ok-push-2.ensures, c.in_ok-push_standing.ensures, c.in_ok-push.ensures, c.deref.ensures.value, c.deref-2.ensures.value) (simp append_assoc))
    c.push-4.ensures
