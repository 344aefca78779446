use Rattle.std.proofs.Common.{◌≡◌, sym, refl, subst, arith, List}
use Rattle.flow_set.specs.EveryFlow.{every_flow}
use Rattle.flow_set.specs.FlowSet.{IsFull}
use Rattle.flow_set.specs.declared.flow.Flow.{Flow}
use Rattle.flow_set.specs.inner.BitRows.{flows_of}
use Rattle.flow_set.specs.inner.FlowSetView.{IsFlowSet}
use Rattle.flow_set.specs.laws.FlowLaws.{set_ext}
use Rattle.flow_set.proofs.EveryFlowLaws.{IsFlowSet-every_flow, IsFull-every_flow}
use Rattle.flow_set.proofs.FullRows.{AreOthers, AreRows-others, flows_of-others}
use Rattle.flow_set.proofs.set.FlowSet.full.Goals as goal

all_rows : (c : goal.After-loop-from) → AreOthers c.args.size c.args.size c.loop-from.rows.items
all_rows c =
    let all : c.loop-from.from ≡ c.args.size = omega (arith, c.loop-from-test.false) in
    subst (λ n. AreOthers c.args.size n c.loop-from.rows.items) all c.loop-from.invariant

every : (c : goal.After-loop-from) → flows_of c.loop-from.rows.items c.args.size ≡ every_flow c.args.size
every c = flows_of-others c.args.size c.loop-from.rows.items c.requires (all_rows c)

pub invariant_of-result : goal.invariant_of-result
invariant_of-result c = AreRows-others c.args.size c.loop-from.rows.items c.requires (all_rows c)

pub returns-clause-every : goal.returns-clause-every
returns-clause-every c = set_ext _ _ refl (every c)

pub returns-clause-set : goal.returns-clause-set
returns-clause-set c =
    subst (λ (fs : List Flow). IsFlowSet c.args.size fs) (sym (every c)) (IsFlowSet-every_flow c.args.size c.requires)

pub returns-clause-full : goal.returns-clause-full
returns-clause-full c = subst (λ (fs : List Flow). IsFull c.args.size fs) (sym (every c)) (IsFull-every_flow c.args.size)
