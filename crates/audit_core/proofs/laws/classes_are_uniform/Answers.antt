use Rattle.host_net.specs.declared.packet.Packet.{Packet}
use Rattle.host_net.specs.Packet.{IsPacket}
use Rattle.audit_core.proofs.AlikeLemmas.{class_of_packet}
use Rattle.audit_core.specs.Cuts.{cuts_between, parts_between}
use Rattle.audit_core.specs.inner.Cuts.{AreOneClass}
use Rattle.audit_core.specs.Parts.{rules_parts, site_parts}
use Rattle.audit_core.specs.Sides.{Sides}
use Rattle.audit_core.proofs.PartLemmas.{AreAlikeFor, IsAlikeFor, all_parts, one_class_alike, swaps_alike}
use Rattle.audit_core.proofs.RulesLemmas.{filter_alike}
use Rattle.audit_core.proofs.SiteLemmas.{flow_alike, is_of_alike}
use Rattle.audit_core.proofs.laws.classes_are_uniform.Goals as goal

for_both : (sides : Sides) (p q : Packet) → IsPacket p → IsPacket q → AreOneClass (cuts_between sides) p q
    → AreAlikeFor (site_parts sides.policy.site) p q × AreAlikeFor (rules_parts sides.rules) p q
for_both sides p q is_p is_q one =
    all_parts (IsAlikeFor p q) (site_parts sides.policy.site) (rules_parts sides.rules) (one_class_alike (parts_between sides) p q is_p is_q one)

pub returns : goal.returns
returns c = record {
  flow = λ sides p q is_p is_q one. flow_alike sides.policy.site p q (for_both sides p q is_p is_q one).0;
  permitted = λ sides p q is_p is_q one. is_of_alike sides.policy.site sides.policy.permitted p q (for_both sides p q is_p is_q one).0;
  stateful = λ sides p q is_p is_q one. is_of_alike sides.policy.site sides.policy.stateful p q (for_both sides p q is_p is_q one).0;
  verdict = λ sides p q state passes is_p is_q one said. filter_alike sides.rules p q state passes (for_both sides p q is_p is_q one).1 said;
  swaps = swaps_alike;
  class = λ sides p is. let found = class_of_packet sides p is in (found.0, found.1, found.2, found.3);
}
