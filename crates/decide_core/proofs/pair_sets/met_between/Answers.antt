use Rattle.std.proofs.lemmas.Result.{IfOk-weaker}
use Rattle.host_net.specs.declared.packet.CtState.TheVariants.{New}
use Rattle.rules_set.specs.Meeting.{AreMet}
use Rattle.decide_core.specs.inner.PairSets.{AreMetBetween}
use Rattle.decide_core.proofs.PairSetLemmas.{met_between_is}
use Rattle.decide_core.proofs.pair_sets.met_between.Goals as goal

pub returns : goal.returns
returns c =
    let mid = c.of.new.diagrams in
    let new = c.met_by.new.diagrams in
    let s = c.in_ok-sets.sets in
    IfOk-weaker c.met_by.result (λ m. AreMet mid new c.args.chains.now New c.args.within.now s.passing m)
    (λ m. AreMetBetween c.args.chains.now c.args.from.now c.args.to.now c.args.within.now new m)
    (λ m are. met_between_is mid new c.args.chains.now c.args.from.now c.args.to.now c.args.within.now s m c.in_ok-sets.ensures.sets are) c.met_by.ensures.met
