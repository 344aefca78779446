use Rattle.std.proofs.Common.{◌∙◌, append_assoc}
use Rattle.std.proofs.lemmas.Result.{on_ok_weaker}
use Rattle.compare_json.specs.CompareJson.{events_json}
use Rattle.compare_json.proofs.compare.push_events.Goals as goal

pub returns : goal.returns
unfolding events_json
returns c =
    on_ok_weaker c.push-2.result
    (λ last. last ∙ rw (c.in_ok-push_later_packet-2.ensures, c.in_ok-push_later_packet.ensures, c.in_ok-push_packet.ensures, c.in_ok-push.ensures) (simp append_assoc))
    c.push-2.ensures
