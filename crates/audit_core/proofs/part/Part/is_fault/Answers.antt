use Rattle.std.proofs.Common.{◌∙◌, subst}
use Rattle.host_net.specs.declared.packet.CtState.{CtState}
use Rattle.header_space.proofs.BoxLaws.{narrows_in}
use Rattle.rules_space.specs.Rules.{filter_of}
use Rattle.audit_core.proofs.FaultLaws.{differs, fault_by}
use Rattle.audit_core.proofs.part.Part.is_fault.Goals as goal

pub expects-expected-requires-clause-flow : goal.expects-expected-requires-clause-flow
expects-expected-requires-clause-flow c = λ p inside.
    c.requires.flow p (narrows_in c.args.within.now c.is_asked.new.within p c.is_asked.ensures.part inside)

pub returns-clause-alike : goal.returns-clause-alike
returns-clause-alike c = λ p inside.
    let later = narrows_in c.expects-expected.new.within c.passes_within-passes.new.within p c.passes_within-passes.ensures.part inside in
    let first = narrows_in c.is_asked.new.within c.expects-expected.new.within p c.expects-expected.ensures.part later in
    fault_by c.args.self.now c.args.kind p c.passes_within-passes.result c.expects-expected.result _ c.gives_one.ensures
    (c.last-last.ensures.packets p inside) (c.is_asked.ensures.alike p first ∙ c.if-not-is_asked.false)
    (subst (λ (state : CtState). filter_of c.args.self.now.rules state p c.passes_within-passes.result) c.state_in.ensures
    (c.passes_within-passes.ensures.passes p inside))
    (c.expects-expected.ensures.alike p later) (differs c.passes_within-passes.result c.expects-expected.result)
