use Rattle.std.proofs.Common.{◌≡◌, drop}
use Rattle.std.specs.List.{list_any}
use Rattle.host_net.specs.declared.packet.Packet.{Packet}
use Rattle.host_net.specs.Service.{serves}
use Rattle.header_space.specs.Boxes.{IsIn, Narrows}
use Rattle.policy_space.proofs.policy_box.one_serves_within.Given as goal

abbrev pub invariant-loop-service : goal.invariant-loop-service
invariant-loop-service l = record {
  narrows : Narrows l.fn.within l.within;
  left : (p : Packet) → IsIn l.within p → list_any (λ s. serves s p) l.services ≡ list_any (λ s. serves s p) (drop l.service-index l.services);
}
