use Rattle.std.proofs.Common.{Option, subst, sym}
use Rattle.std.specs.Prelude.{IfSome}
use Rattle.audit_core.specs.declared.list_end.Ends.{Ends}
use Rattle.audit_core.specs.inner.Pairs.{HaveSameEnds}
use Rattle.audit_core.proofs.SourceLaws.{source_part, source_whole}
use Rattle.audit_core.proofs.part.Part.source.Goals as goal
use Rattle.audit_core.proofs.part.Part.source.Goals.{in-None, in-Some}

pub returns-clause-source : goal.returns-clause-source
returns-clause-source c = elim c.match-branch-2.branch [
  | in-None w ↦
      source_whole c.args.self.now c.args.range c.every_address.result c.requires c.every_address.ensures c.box_between.result c.box_between.ensures.inside
      c.ends-whole.result c.ends-whole.ensures c.match-branch-2.ends w.ends-is
  | in-Some w ↦
      source_part c.args.self.now c.args.range c.every_address.result c.requires c.every_address.ensures c.box_between.result c.box_between.ensures.inside
      c.ends-whole.result c.ends-whole.ensures c.match-branch-2.ends
      (subst (λ (e : Ends). HaveSameEnds c.box_between.result c.ends-whole.result e) (sym w.ends-is)
      (subst (λ (ends : Option Ends). IfSome ends (HaveSameEnds c.box_between.result c.ends-whole.result)) w.in-Some.is c.in_ok-restrict.ensures))
]
