use Rattle.std.proofs.lemmas.List.{take_all}
use Rattle.pass_core.specs.Pairs.{AreListedFrom}
use Rattle.pass_core.proofs.PairLemmas.{listed_step}
use Rattle.change_core.specs.inner.Gaining.{IsGained}
use Rattle.change_core.proofs.candidates.Candidates.gained_by_pairs.Goals as goal

pub loop-from-preserved : goal.loop-from-preserved
loop-from-preserved c =
    let q = c.args.self.now.gained in
    let named = c.deref-named.result.now in
    listed_step (λ from. AreListedFrom (IsGained q.lost q.held) named from) named c.loop-from.from-index c.from-item.result
    c.loop-from.list.items c.push_from.new.list.items c.loop-from-test.true c.from-item.is c.loop-from.invariant c.in_ok-push_from.ensures

pub returns : goal.returns
returns c = rw (take_all c.loop-from.from-index c.deref-named.result.now c.loop-from-test.false, c.deref-named.ensures.value) at c.loop-from.invariant
