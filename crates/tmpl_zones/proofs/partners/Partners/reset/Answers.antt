use Rattle.std.proofs.Common.{◌<◌, length, refl, arith}
use Rattle.tmpl_zones.proofs.Receivers.{HasRooms-set, length_row, length_seen, map-partner_of-set}
use Rattle.tmpl_zones.proofs.partners.Partners.reset.Goals as goal

pub returns : goal.returns
returns c = map-partner_of-set _ _ _ _ _ c.self.view_is refl

pub invariant_of-self : goal.invariant_of-self
invariant_of-self c =
    let rows = c.self.inside.hosts.items in
    let hosts = length_seen rows c.args.self.now c.self.view_is in
    let within : c.args.host < length rows = omega (arith, hosts, c.requires) in
    HasRooms-set rows c.args.host _ c.self.invariant
    (length_row rows c.args.host c.index_mut-receiver.result.now c.self.invariant within c.index_mut-receiver.ensures.value) tt
