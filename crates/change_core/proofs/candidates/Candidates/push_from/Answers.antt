use Rattle.std.proofs.lemmas.List.{take_all}
use Rattle.header_space.specs.Owners.{GoesBetween}
use Rattle.pass_core.specs.Pairs.{IsListedFor}
use Rattle.pass_core.proofs.PairLemmas.{added_step}
use Rattle.change_core.specs.inner.Gaining.{IsGained}
use Rattle.change_core.proofs.candidates.Candidates.push_from.Goals as goal

pub loop-to-preserved : goal.loop-to-preserved
loop-to-preserved c =
    let q = c.args.self.now.gained in
    let from = c.args.from.now in
    added_step (λ to. IsListedFor (IsGained q.lost q.held) (GoesBetween from.ranges.items to.ranges.items) from.owner to.owner) c.args.named.now
    c.loop-to.to-index c.to-item.result c.args.list.now.items c.loop-to.list.items c.push_pair.new.list.items c.loop-to-test.true c.to-item.is
    c.loop-to.invariant c.in_ok-push_pair.ensures

pub returns : goal.returns
returns c = rw (take_all c.loop-to.to-index c.args.named.now c.loop-to-test.false) at c.loop-to.invariant
