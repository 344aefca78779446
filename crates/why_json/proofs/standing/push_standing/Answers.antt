use Rattle.std.proofs.Common.{◌∙◌, append_assoc}
use Rattle.std.proofs.lemmas.Result.{on_ok_weaker}
use Rattle.why_json.specs.WhyJson.{standing_json}
use Rattle.why_json.proofs.standing.push_standing.Goals as goal

pub returns : goal.returns
unfolding standing_json
returns c =
    on_ok_weaker c.push_array.result
    (λ last. last ∙ rw (c.of.ensures.list, c.services.ensures.value, c.in_ok-push-5.ensures, c.in_ok-push_bool-3.ensures, c.in_ok-push-4.ensures, c.in_ok-push_bool-2.ensures, c.in_ok-push-3.ensures, c.in_ok-push_bool.ensures, c.in_ok-push-2.ensures, c.in_ok-push_flow.ensures, c.in_ok-push.ensures, c.hosts.ensures.value) (simp append_assoc))
    c.push_array.ensures
