use Rattle.std.proofs.Common.{◌∙◌, false, refl}
use Rattle.pass_core.proofs.PairLemmas.{area_at, none_between, none_step, some_at}
use Rattle.pass_core.proofs.pairs.passes_some.Goals as goal

pub passes_in-requires : goal.passes_in-requires
passes_in-requires g c =
    area_at c.args.from.now c.args.to.now c.deref-area-items.result.now c.loop-area.area-index _
    (c.deref-area-items.ensures.value ∙ c.in_ok-areas.ensures) c.loop-area-test.true c.requires.from c.requires.to

pub loop-area-init : goal.loop-area-init
loop-area-init g c = λ p is there held. there

pub loop-area-preserved : goal.loop-area-preserved
loop-area-preserved g c =
    none_step (g.Q.Question.holds_of c.args.question.now) c.deref-area-items.result.now c.loop-area.area-index _ c.in_ok-passes.passes
    c.loop-area-test.true c.in_ok-passes.ensures c.if-passes.false c.loop-area.invariant

pub returns-then-passes : goal.returns-then-passes
returns-then-passes g c =
    let some =
    some_at (g.Q.Question.holds_of c.args.question.now) c.deref-area-items.result.now c.loop-area.area-index _ c.in_ok-passes.passes
    c.loop-area-test.true c.in_ok-passes.ensures c.args.from.now c.args.to.now
    (c.deref-area-items.ensures.value ∙ c.in_ok-areas.ensures) c.if-passes.true in
    (λ _. some, λ _. refl)

pub returns : goal.returns
returns g c =
    none_between (g.Q.Question.holds_of c.args.question.now) c.args.from.now c.args.to.now c.deref-area-items.result.now c.loop-area.area-index false
    (c.deref-area-items.ensures.value ∙ c.in_ok-areas.ensures) c.loop-area-test.false refl c.loop-area.invariant
