use Rattle.std.proofs.Common.{◌∙◌, append_assoc}
use Rattle.std.proofs.lemmas.Result.{on_ok_weaker}
use Rattle.why_json.specs.WhyJson.{network_json}
use Rattle.why_json.proofs.network.push_network.Goals as goal

pub returns : goal.returns
unfolding network_json
returns c =
    on_ok_weaker c.push-5.result
    (λ last. last ∙ rw (c.in_ok-push_array-3.ensures, c.in_ok-push-4.ensures, c.in_ok-push_array-2.ensures, c.in_ok-push-3.ensures, c.in_ok-push_array.ensures, c.in_ok-push-2.ensures, c.in_ok-push_hosts.ensures, c.in_ok-push.ensures, c.hosts.ensures.value) (simp append_assoc))
    c.push-5.ensures
