use Rattle.std.proofs.Common.{List, sym, ap, subst, ◌∙◌}
use Rattle.host_net.specs.declared.tuple_space.TupleSpaceIndex.{TupleSpaceIndex}
use Rattle.ipt_rules.specs.inner.Next.{AreIndexes}
use Rattle.ipt_rules.proofs.NextLemmas.{no_indexes}
use Rattle.ipt_rules.proofs.indexed_ruleset.IndexedRuleset.of.Goals as goal
use Rattle.ipt_rules.proofs.indexed_ruleset.IndexedRuleset.of.Goals.{then-packets-gt-FEW_PACKETS+in_ok-indexes, else-packets-gt-FEW_PACKETS}

pub invariant_of-result : goal.invariant_of-result
invariant_of-result c = elim c.if-packets-gt-FEW_PACKETS.branch [
  | then-packets-gt-FEW_PACKETS+in_ok-indexes w ↦
      let made : AreIndexes w.in_ok-indexes.indexes.items c.args.rules.now = subst (AreIndexes w.in_ok-indexes.indexes.items) (w.deref.ensures.value ∙ c.rules.view_is) w.in_ok-indexes.ensures in
      subst (λ (indexes : List TupleSpaceIndex). AreIndexes indexes c.args.rules.now) (sym (ap (λ v. v.items) w.indexes-is)) made
  | else-packets-gt-FEW_PACKETS w ↦
      no_indexes c.if-packets-gt-FEW_PACKETS.indexes.items c.args.rules.now (ap (λ v. v.items) w.indexes-is ∙ w.new-indexes.ensures.items)
]
