use Rattle.std.proofs.Common.{◌∙◌, append_assoc}
use Rattle.std.proofs.lemmas.Result.{on_ok_weaker}
use Rattle.why_json.specs.WhyJson.{offence_json}
use Rattle.why_json.proofs.offence.push_offence.Goals as goal

pub returns : goal.returns
unfolding offence_json
returns c =
    on_ok_weaker c.push-3.result
    (λ last. last ∙ rw (c.in_ok-push_offending.ensures, c.in_ok-push-2.ensures, c.in_ok-push_bool.ensures, c.has_no_offence.ensures, c.in_ok-push.ensures, c.in_ok-push_invariant_at.ensures, c.hosts.ensures.value) (simp append_assoc))
    c.push-3.ensures
