use Rattle.std.proofs.Common.{◌≡◌, sym, ◌∙◌, ap}
use Rattle.std.specs.Prelude.{Some, IsTrue, IsFalse}
use Rattle.std.proofs.lemmas.Bool.{not-true, not-false}
use Rattle.flow_set.specs.declared.flow.Flow.{Flow}
use Rattle.flow_set.specs.FlowSet.{SetOfFlows, IsOrdered, has, with_flow}
use Rattle.flow_set.specs.laws.FlowLaws.{with_flow_there, without_flow-with_flow}
use Rattle.flow_set.specs.inner.Steps.{stepped}
use Rattle.flow_set.specs.inner.UndoRecord.{view_of}
use Rattle.flow_set.specs.declared.steps.UndoRecord.{UndoRecord}
use Rattle.flow_set.specs.declared.steps.UndoRecord.TheVariants.{Unchanged, Added}
use Rattle.flow_set.proofs.steps.UndoableFlowSet.step.Goals as goal
use Rattle.flow_set.proofs.steps.UndoableFlowSet.step.Goals.{then-insert, else-insert}

-- A new flow is removed again.
added : (e : SetOfFlows) (last : UndoRecord) (f : Flow) → IsOrdered e.flows → IsFalse (has e.flows f)
    → view_of (record e { flows = with_flow e.flows f }) (Added f) ≡ stepped (view_of e last) f
added e last f ordered absent =
    ap (λ fs. record { size = e.size; flows = with_flow e.flows f; before_step = Some fs })
    (without_flow-with_flow e.flows f ordered absent)

-- A flow that was present stays.
was_there : (e : SetOfFlows) (last : UndoRecord) (f : Flow) → IsOrdered e.flows → IsTrue (has e.flows f)
    → view_of (record e { flows = with_flow e.flows f }) Unchanged ≡ stepped (view_of e last) f
was_there e last f ordered there =
    ap (λ fs. record { size = e.size; flows = with_flow e.flows f; before_step = Some fs }) (with_flow_there e.flows f ordered there)

pub returns : goal.returns
returns c =
    let old = c.self.inside.flows in
    let last = c.self.inside.last in
    let f = c.args.f in
    elim c.if-insert.branch [
      | then-insert w ↦ (λ i. view_of (c.insert.ensures.set i) (w.self-is i)) ∙ added old last f c.size.ensures.set.ordered (not-true _ (sym c.insert.ensures.changed ∙ w.if-insert.true)) ∙ ap (λ t. stepped t f) c.self.view_is
      | else-insert w ↦ (λ i. view_of (c.insert.ensures.set i) (w.self-is i)) ∙ was_there old last f c.size.ensures.set.ordered (not-false _ (sym c.insert.ensures.changed ∙ w.if-insert.false)) ∙ ap (λ t. stepped t f) c.self.view_is
    ]
