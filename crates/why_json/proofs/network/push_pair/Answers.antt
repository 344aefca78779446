use Rattle.std.proofs.Common.{◌∙◌, append_assoc}
use Rattle.std.proofs.lemmas.Result.{on_ok_weaker}
use Rattle.why_json.specs.WhyJson.{pair_json}
use Rattle.why_json.proofs.network.push_pair.Goals as goal

pub returns : goal.returns
unfolding pair_json
returns c =
    on_ok_weaker c.push-4.result
    (λ last. last ∙ rw (c.in_ok-push_bool.ensures, c.is_gap.ensures, c.in_ok-push-3.ensures, c.in_ok-push_numbers.ensures, c.in_ok-push-2.ensures, c.in_ok-push_standing.ensures, c.in_ok-push.ensures, c.standing_of-standing.ensures, c.deref.ensures.value, c.deref-2.ensures.value) (simp append_assoc))
    c.push-4.ensures
