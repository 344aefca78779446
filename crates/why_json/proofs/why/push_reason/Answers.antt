use Rattle.std.proofs.Common.{◌∙◌, append_assoc}
use Rattle.std.proofs.lemmas.Result.{on_ok_weaker}
use Rattle.why_json.specs.WhyJson.{reason_json}
use Rattle.why_json.proofs.why.push_reason.Goals as goal

pub returns : goal.returns
unfolding reason_json
returns c =
    on_ok_weaker c.push-2.result
    (λ last. last ∙ rw (c.in_ok-push_flows.ensures, c.in_ok-push.ensures, c.in_ok-push_invariant_at.ensures, c.hosts.ensures.value) (simp append_assoc))
    c.push-2.ensures
