use Rattle.std.proofs.Common.{◌≡◌, arith, subst, refl, Option, Some, None}
use Rattle.std.specs.Prelude.{IsNone}
use Rattle.ipt_rules.specs.declared.ruleset.BuildRefusal.{BuildRefusal}
use Rattle.ipt_rules.specs.Loops.{IsAcyclic}
use Rattle.ipt_rules.specs.inner.Writable.{IsWritable}
use Rattle.ipt_rules.proofs.NoLoopLemmas.{no_loop_in_order}
use Rattle.ipt_rules.proofs.WalkLemmas.{each_gives_one}
use Rattle.ipt_rules.proofs.TextLaws.{length-text_lines}
use Rattle.ipt_rules.proofs.ruleset.Ruleset.lines.Goals as goal

pub returns-clause-count : goal.returns-clause-count
returns-clause-count c =
    rw (← c.self.view_is) (omega (arith, c.len.ensures, c.self.invariant.list.counted, length-text_lines c.self.inside.chains.items))

pub returns-clause-table : goal.returns-clause-table
returns-clause-table c = rw (← c.self.view_is) c.self.invariant.list.table

pub returns-clause-accepted : goal.returns-clause-accepted
returns-clause-accepted c = rw (← c.self.view_is) c.self.invariant.accepted

pub returns-clause-acyclic : goal.returns-clause-acyclic
returns-clause-acyclic c =
    subst IsAcyclic c.self.view_is
    (no_loop_in_order c.self.inside.chains.items c.self.invariant.topological_order.order c.self.invariant.topological_order.places c.self.invariant.topological_order.is)

pub returns-clause-deterministic : goal.returns-clause-deterministic
returns-clause-deterministic c =
    rw (← c.self.view_is) (each_gives_one c.self.inside.chains.items c.self.invariant.topological_order)

none_is : (o : Option BuildRefusal) → IsNone o → o ≡ None
none_is None h = refl
none_is (Some why) h = cc

pub returns-clause-writable : goal.returns-clause-writable
returns-clause-writable c = subst IsWritable c.self.view_is (record {
  table = c.self.invariant.list.table;
  accepted = none_is _ c.self.invariant.accepted;
  acyclic = no_loop_in_order c.self.inside.chains.items c.self.invariant.topological_order.order c.self.invariant.topological_order.places c.self.invariant.topological_order.is;
  addresses = c.self.invariant.list.addresses;
  parts = c.self.invariant.list.parts;
})
