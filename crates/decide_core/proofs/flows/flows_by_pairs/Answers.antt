use Rattle.std.proofs.lemmas.Result.{IfOk-weaker}
use Rattle.rules_space.specs.RulesView.{rules_of}
use Rattle.pass_core.specs.NewPackets.{LetsPass}
use Rattle.decide_core.specs.Flows.{AreFlows, AreFlowsOfEach}
use Rattle.decide_core.proofs.FlowLemmas.{listed_have_services}
use Rattle.decide_core.proofs.flows.flows_by_pairs.Goals as goal

pub decide_pairs-requires : goal.decide_pairs-requires
decide_pairs-requires c =
    rw c.deref.ensures.value
    (listed_have_services (LetsPass (rules_of c.args.text.now)) c.args.hosts.now c.in_ok-pairs.pairs.items c.in_ok-pairs.ensures)

pub returns : goal.returns
returns c =
    let rules = rules_of c.args.text.now in
    let hosts = c.args.hosts.now in
    IfOk-weaker c.decide_pairs.result (λ flows. AreFlowsOfEach rules hosts c.deref.result.now flows.items) (λ flows. AreFlows rules hosts flows.items)
    (λ flows each. record { services = c.in_ok-pairs.pairs.items; listed = c.in_ok-pairs.ensures; each = rw c.deref.ensures.value at each })
    c.decide_pairs.ensures
