use Rattle.std.proofs.Common.{refl, sym, ◌∙◌}
use Rattle.decide_core.proofs.PairSetLemmas.{any_member, no_member, none_more}
use Rattle.decide_core.proofs.pair_sets.has_any.Goals as goal

pub returns-then-is_some : goal.returns-then-is_some
returns-then-is_some c = (
  λ on. any_member c.args.diagrams.now c.args.set c.args.boxes.now c.loop-within.within-index _ c.loop-within-test.true c.member.result
      (sym c.is_some.ensures ∙ c.if-is_some.true) c.member.ensures,
  λ any. refl,
)

pub loop-within-preserved : goal.loop-within-preserved
loop-within-preserved c =
    none_more c.args.diagrams.now c.args.set c.args.boxes.now c.loop-within.within-index _ c.loop-within-test.true c.loop-within.invariant
    (no_member c.args.diagrams.now c.args.set _ c.member.result (sym c.is_some.ensures ∙ c.if-is_some.false) c.member.ensures)
