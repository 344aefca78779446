use Rattle.std.proofs.Common.{◌∙◌, append_assoc}
use Rattle.std.proofs.lemmas.Result.{on_ok_weaker}
use Rattle.why_json.specs.WhyJson.{invariant_json}
use Rattle.why_json.proofs.invariants.push_invariant.Goals as goal

pub returns : goal.returns
unfolding invariant_json
returns c =
    on_ok_weaker c.push_string-2.result
    (λ last. last ∙ rw (c.strategy_text.ensures, c.strategy.ensures, c.in_ok-push-3.ensures, c.in_ok-push_string.ensures, c.as_bytes.ensures.value, c.template_name.ensures, c.in_ok-push-2.ensures, c.in_ok-push_number.ensures, c.in_ok-push.ensures) (simp append_assoc))
    c.push_string-2.ensures
