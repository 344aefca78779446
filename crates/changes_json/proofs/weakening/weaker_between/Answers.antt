use Rattle.std.proofs.lemmas.Result.{IfOk-weaker}
use Rattle.net_core.specs.Network.{site_of}
use Rattle.changes_json.specs.Weakening.{flows_where, is_denied, is_free}
use Rattle.changes_json.proofs.WeakeningLaws.{are_weaker_alike}
use Rattle.changes_json.proofs.weakening.weaker_between.Goals as goal

pub returns : goal.returns
returns c =
    let are = rw (c.hosts-3.ensures.value, c.services.ensures.value, c.hosts-4.ensures.value, c.services-2.ensures.value) at c.weaker_flows.ensures in
    IfOk-weaker c.weaker_flows.result _ _
    (λ list kept.
    are_weaker_alike (site_of c.args.old.now) c.in_ok-denied.denied.flows (flows_where is_denied c.args.old_denials.now) c.in_ok-denied.ensures.flows
    (site_of c.args.new.now) c.in_ok-free.free.flows (flows_where is_free c.args.denials.now) c.in_ok-free.ensures.flows list.items kept)
    are
