use Rattle.std.proofs.Common.{refl, sym, ◌∙◌}
use Rattle.text_core.proofs.FirstsLemmas.{found_here, passed_here, nothing_left}
use Rattle.text_core.proofs.firsts.first_conflicting.Goals as goal

pub loop-index-init : goal.loop-index-init
loop-index-init g c = λ test is. refl

pub returns-then-conflicts : goal.returns-then-conflicts
returns-then-conflicts g c = λ test is.
    sym (found_here (test c.args.item.now) c.args.before.now c.loop-index.index c.index-before-index.result c.loop-index-test.true c.index-before-index.is
    (sym (is _ _ _ c.conflicts.ensures) ∙ c.if-conflicts.true))
    ∙ c.loop-index.invariant test is

pub loop-index-preserved : goal.loop-index-preserved
loop-index-preserved g c = λ test is.
    passed_here (test c.args.item.now) c.args.before.now c.loop-index.index c.index-before-index.result c.loop-index-test.true c.index-before-index.is
    (sym (is _ _ _ c.conflicts.ensures) ∙ c.if-conflicts.false)
    ∙ c.loop-index.invariant test is

pub returns : goal.returns
returns g c = λ test is.
    sym (nothing_left (test c.args.item.now) c.args.before.now c.loop-index.index c.loop-index-test.false) ∙ c.loop-index.invariant test is
