use Rattle.std.proofs.Common.{◌+◌, ◌∙◌, List, take, get_or, subst, sym}
use Rattle.std.proofs.lemmas.List.{take_more}
use Rattle.audit_core.specs.declared.sources.Source.{Source}
use Rattle.audit_core.specs.inner.Pairs.{AreSources}
use Rattle.audit_core.proofs.SourceLaws.{sources_more, sources_same}
use Rattle.audit_core.proofs.part.Part.sources.Goals as goal
use Rattle.audit_core.proofs.part.Part.sources.Goals.{then-branch+in_ok-push, else-branch+in-Own-1, else-branch+in-Whole-1}

pub loop-range-preserved : goal.loop-range-preserved
loop-range-preserved c = elim c.if-branch.branch [
  | then-branch+in_ok-push w ↦
      sources_more c.args.self.now (take c.loop-range.range-index c.args.ranges.now) (take (c.loop-range.range-index + 1) c.args.ranges.now)
      c.loop-range.sources.items c.if-branch.sources.items (get_or c.args.ranges.now c.loop-range.range-index _) c.in_ok-source.source c.loop-range.invariant
      c.in_ok-source.ensures.source c.in_ok-source.ensures.range (take_more c.args.ranges.now c.loop-range.range-index _ c.loop-range-test.true)
      ((λ i. (w.sources-is i).items) ∙ w.in_ok-push.ensures.items)
  | else-branch+in-Own-1 w ↦ subst (λ (l : List Source). AreSources c.args.self.now (take (c.loop-range.range-index + 1) c.args.ranges.now) l) (λ i. (sym w.sources-is i).items) (
      sources_same c.args.self.now (take c.loop-range.range-index c.args.ranges.now) (take (c.loop-range.range-index + 1) c.args.ranges.now)
      c.loop-range.sources.items (get_or c.args.ranges.now c.loop-range.range-index _) c.in_ok-source.source c.in_ok-differs.field-0 c.loop-range.invariant
      c.in_ok-source.ensures.source c.in_ok-source.ensures.range c.in_ok-differs.ensures w.if-branch.false
      (take_more c.args.ranges.now c.loop-range.range-index _ c.loop-range-test.true))
  | else-branch+in-Whole-1 w ↦ subst (λ (l : List Source). AreSources c.args.self.now (take (c.loop-range.range-index + 1) c.args.ranges.now) l) (λ i. (sym w.sources-is i).items) (
      sources_same c.args.self.now (take c.loop-range.range-index c.args.ranges.now) (take (c.loop-range.range-index + 1) c.args.ranges.now)
      c.loop-range.sources.items (get_or c.args.ranges.now c.loop-range.range-index _) c.in_ok-source.source c.in_ok-differs.field-0 c.loop-range.invariant
      c.in_ok-source.ensures.source c.in_ok-source.ensures.range c.in_ok-differs.ensures w.if-branch.false
      (take_more c.args.ranges.now c.loop-range.range-index _ c.loop-range-test.true))
]
