use Rattle.std.proofs.Common.{◌≡◌, ◌<◌, true, List, length, length-set, ap, sym, ◌∙◌, subst, arith}
use Rattle.std.specs.Prelude.{◌⊎◌, ◌↔◌}
use Rattle.tmpl_zones.specs.Partners.{Partner, PartnersPass, TakesFromOthers, with_sender}
use Rattle.tmpl_zones.specs.inner.PartnersView.{partner_of}
use Rattle.tmpl_zones.proofs.Masters.{PartnersPass-with_sender, TakesFromOthers-with_sender}
use Rattle.tmpl_zones.proofs.Receivers.{HasRooms-set, may_have_row, map-partner_of-set, partner_of_row, attribute_by-set, has_mark, length_row, length_seen}
use Rattle.tmpl_zones.proofs.partners.Partners.allow.Goals as goal

pub returns : goal.returns
returns c =
    let rows = c.self.inside.hosts.items in
    let partners = c.args.self.now in
    let sender = c.args.sender in
    let master = c.args.master in
    let row = c.index_mut-receiver.result.now in
    let before = partner_of_row rows partners master row c.self.view_is c.requires.hosts.1 c.index_mut-receiver.ensures.value in
    let hosts = length_seen rows partners c.self.view_is in
    let within : master < length rows = omega (arith, hosts, c.requires.hosts.1) in
    let marks = length_row rows master row c.self.invariant within c.index_mut-receiver.ensures.value in
    let in_row : sender < length row.from.items = omega (arith, marks, hosts, c.requires.hosts.0) in
    let list =
    map-partner_of-set rows partners master _ _ c.self.view_is
    (attribute_by-set row.taking row.from.items sender ∙ ap (λ partner. with_sender partner sender) before) in
    record {
      list = list;
      takes =
          λ number. subst (λ (xs : List Partner). PartnersPass xs number master ↔ ((number ≡ sender) ⊎ PartnersPass partners number master)) (sym list)
          (PartnersPass-with_sender partners sender master c.requires.hosts.1 c.requires.master (has_mark row _ sender before c.requires.master in_row) number);
    }

pub invariant_of-self : goal.invariant_of-self
invariant_of-self c =
    let rows = c.self.inside.hosts.items in
    let sender = c.args.sender in
    let master = c.args.master in
    let row = c.index_mut-receiver.result.now in
    let hosts = length_seen rows c.args.self.now c.self.view_is in
    let within : master < length rows = omega (arith, hosts, c.requires.hosts.1) in
    let marks = length_row rows master row c.self.invariant within c.index_mut-receiver.ensures.value in
    let before = may_have_row rows master row c.self.invariant within c.index_mut-receiver.ensures.value in
    HasRooms-set rows master _ c.self.invariant (length-set row.from.items sender true ∙ marks)
    (subst (TakesFromOthers (length rows) master) (sym (attribute_by-set row.taking row.from.items sender)) (TakesFromOthers-with_sender (length rows) master (partner_of row) sender c.requires.differ before))
