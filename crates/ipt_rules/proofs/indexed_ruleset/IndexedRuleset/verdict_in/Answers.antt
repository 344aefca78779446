use Rattle.std.proofs.Common.{List, length, sym, ap, subst, arith, ◌∙◌}
use Rattle.host_net.specs.declared.tuple_space.TupleSpaceIndex.{TupleSpaceIndex}
use Rattle.ipt_rules.specs.inner.Next.{AreIndexes}
use Rattle.ipt_rules.proofs.TableLaws.{has_built_in}
use Rattle.ipt_rules.proofs.indexed_ruleset.IndexedRuleset.verdict_in.Goals as goal

pub verdict_in-requires-clause-packets : goal.verdict_in-requires-clause-packets
verdict_in-requires-clause-packets c =
    subst (λ (indexes : List TupleSpaceIndex). AreIndexes indexes c.as_slice-chains.result.now) (sym c.deref.ensures.value)
    (subst (AreIndexes c.self.inside.indexes.items) (sym (c.as_slice-chains.ensures.value ∙ c.rules.view_is)) c.self.invariant)

pub verdict_in-requires-clause-there : goal.verdict_in-requires-clause-there
verdict_in-requires-clause-there c =
    let there = has_built_in c.rules.inside.chains.items c.args.chain (c.rules.invariant.list.table.built_in c.args.chain c.requires) in
    omega (arith, there, ap length c.as_slice-chains.ensures.value)
