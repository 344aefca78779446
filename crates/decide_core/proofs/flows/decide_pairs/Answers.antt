use Rattle.std.proofs.Common.{sym, subst}
use Rattle.rules_space.specs.RulesView.{rules_of}
use Rattle.decide_core.specs.inner.Flows.{HasServices}
use Rattle.decide_core.proofs.FlowLemmas.{flows_all, flows_more, flows_none}
use Rattle.decide_core.proofs.flows.decide_pairs.Goals as goal

pub loop-pair-init : goal.loop-pair-init
loop-pair-init c = flows_none (rules_of c.args.text.now) c.args.hosts.now c.new-flows.result.items c.new-flows.ensures.items

pub decide_pair-requires : goal.decide_pair-requires
decide_pair-requires c =
    subst HasServices (sym c.pair-item.is) (c.requires c.loop-pair.pair-index c.pair-item.result c.loop-pair-test.true)

pub loop-pair-preserved : goal.loop-pair-preserved
loop-pair-preserved c =
    flows_more (rules_of c.args.text.now) c.args.hosts.now c.args.pairs.now c.loop-pair.pair-index c.pair-item.result c.loop-pair.flows.items c.push.new.self.items
    c.in_ok-decided.decided c.loop-pair-test.true c.pair-item.is c.in_ok-push.ensures.items c.loop-pair.invariant c.in_ok-decided.ensures

pub returns : goal.returns
returns c =
    flows_all (rules_of c.args.text.now) c.args.hosts.now c.args.pairs.now c.loop-pair.pair-index c.loop-pair.flows.items c.loop-pair-test.false
    c.loop-pair.invariant
