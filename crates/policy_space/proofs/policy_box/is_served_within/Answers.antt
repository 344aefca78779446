use Rattle.std.proofs.Common.{◌≡◌, Bool, false, ◌==◌, List, [], ◌∷◌, length, refl, ◌∙◌}
use Rattle.std.specs.List.{list_any}
use Rattle.host_net.specs.declared.packet.Packet.{Packet}
use Rattle.host_net.specs.declared.service.Service.{Service}
use Rattle.host_net.specs.Service.{is_served, serves}
use Rattle.policy_space.proofs.policy_box.is_served_within.Goals as goal

-- If there are services, a packet is served iff one of them serves it.
served_some : (ss : List Service) (p : Packet) (e : Bool) → e ≡ (length ss == 0) → e ≡ false → is_served ss p ≡ list_any (λ s. serves s p) ss
served_some [] p e empty none = cc
served_some (s ∷ ss) p e empty none = refl

pub returns-else-is_empty-clause-alike : goal.returns-else-is_empty-clause-alike
returns-else-is_empty-clause-alike c = λ p inside.
    served_some c.args.services.now p c.is_empty.result c.is_empty.ensures c.if-is_empty.false ∙ c.one_serves_within.ensures.alike p inside
