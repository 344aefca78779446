-- Acceptance of packets of new connections.
use Rattle.std.proofs.Common.{◌↔◌, Bool, true, IsTrue, sym, subst, ◌∙◌}
use Rattle.host_net.specs.declared.packet.Packet.{Packet}
use Rattle.host_net.specs.declared.packet.CtState.TheVariants.{New}
use Rattle.host_net.specs.Packet.{IsPacket}
use Rattle.rules_space.specs.Rules.{AnyRules, filter_of}
use Rattle.rules_space.specs.Verdicts.{GivesOne}
use Rattle.pass_core.specs.NewPackets.{LetsPass}

pub passes_if : (rules : AnyRules) → GivesOne (filter_of rules) → (p : Packet) → IsPacket p → (b : Bool) → filter_of rules New p b → (IsTrue b ↔ LetsPass rules p)
passes_if rules gives p is b passes = (
  λ on. subst (λ (x : Bool). filter_of rules New p x) on passes,
  λ lets. (gives New p is).2 b passes ∙ sym ((gives New p is).2 true lets),
)
