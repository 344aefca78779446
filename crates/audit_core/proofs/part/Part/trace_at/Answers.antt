use Rattle.std.proofs.Common.{Bool, sym, subst}
use Rattle.host_net.specs.declared.packet.CtState.{CtState}
use Rattle.header_space.proofs.BoxLaws.{least_in}
use Rattle.rules_space.specs.Rules.{filter_of}
use Rattle.audit_core.specs.inner.Faults.{Wrong}
use Rattle.audit_core.proofs.FaultLaws.{fault_said}
use Rattle.audit_core.proofs.part.Part.trace_at.Goals as goal

pub returns-clause-wrong : goal.returns-clause-wrong
returns-clause-wrong c =
    subst (λ (f : Bool). Wrong c.args.self.now c.args.kind c.args.packet f) (sym c.of.ensures.forwards)
    (fault_said c.args.self.now c.args.kind c.args.packet c.passes_within-forwards.result c.gives_one.ensures c.requires.packet
    (subst (λ (state : CtState). filter_of c.args.self.now.rules state c.args.packet c.passes_within-forwards.result) c.state_in.ensures
    (c.passes_within-forwards.ensures.passes c.args.packet
    (least_in _ c.passes_within-forwards.new.within c.passes_within-forwards.ensures.part)))
    c.requires.fault)
