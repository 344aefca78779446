use Rattle.std.proofs.Common.{sym, subst}
use Rattle.header_space.specs.declared.packet_box.PacketBox.{PacketBox}
use Rattle.header_space.specs.Boxes.{IsIn, swapped}
use Rattle.header_space.proofs.BoxLaws.{in_swapped}
use Rattle.host_net.specs.Packet.{swap_of}
use Rattle.policy_space.specs.inner.Flows.{HaveFlow}
use Rattle.policy_space.proofs.FlowLaws.{answers_have}
use Rattle.policy_space.proofs.policy_box.answers_are_of_within_flow.Goals as goal

pub is_of_within_flow-are-requires-clause-flow : goal.is_of_within_flow-are-requires-clause-flow
is_of_within_flow-are-requires-clause-flow c =
    let hosts = c.args.policy.now.site.hosts in
    subst (λ (b : PacketBox). HaveFlow hosts b c.flow_of_answers.result) (sym c.swap-answers.ensures)
    (subst (HaveFlow hosts (swapped c.args.within.now)) (sym c.flow_of_answers.ensures)
    (answers_have hosts c.args.within.now c.args.flow c.requires.flow))

pub returns-clause-alike : goal.returns-clause-alike
returns-clause-alike c = λ p inside.
    c.is_of_within_flow-are.ensures.alike (swap_of p)
    (in_swapped (swapped c.is_of_within_flow-are.new.within) p (subst (λ (b : PacketBox). IsIn b p) c.swap.ensures inside))
