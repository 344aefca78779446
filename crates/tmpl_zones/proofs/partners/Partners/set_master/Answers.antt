use Rattle.std.proofs.Common.{◌≡◌, ◌<◌, Bool, false, List, length, replicate, ap, sym, ◌∙◌, subst, arith, vec_len}
use Rattle.std.proofs.lemmas.List.{length-replicate}
use Rattle.tmpl_zones.specs.Partners.{Partner, Master, PartnersPass, TakesFromOthers}
use Rattle.tmpl_zones.proofs.Masters.{PartnersPass-nobody, TakesFromOthers-nobody}
use Rattle.tmpl_zones.proofs.Receivers.{HasRooms-set, map-partner_of-set, length_row, length_seen}
use Rattle.tmpl_zones.proofs.partners.Partners.set_master.Goals as goal

pub returns : goal.returns
returns c =
    let rows = c.self.inside.hosts.items in
    let partners = c.args.self.now in
    let host = c.args.host in
    let row = c.index_mut-receiver.result.now in
    let hosts = length_seen rows partners c.self.view_is in
    let within : host < length rows = omega arith in
    let marks = length_row rows _ _ c.self.invariant within c.index_mut-receiver.ensures.value in
    let all : vec_len row.from ≡ length partners = omega (arith, row.from.ok.0) in
    let list =
    map-partner_of-set rows partners host _ _ c.self.view_is
    (ap Master (c.fill.ensures.items (λ y same. same) ∙ ap (λ n. replicate n false) all)) in
    record {
      list = list;
      nobody = λ sender is_host passes. PartnersPass-nobody partners (length partners) host c.requires sender is_host
          (subst (λ (xs : List Partner). PartnersPass xs sender host) list passes);
    }

pub invariant_of-self : goal.invariant_of-self
invariant_of-self c =
    let rows = c.self.inside.hosts.items in
    let host = c.args.host in
    let row = c.index_mut-receiver.result.now in
    let hosts = length_seen rows c.args.self.now c.self.view_is in
    let within : host < length rows = omega (arith, hosts, c.requires) in
    let marks = length_row rows host row c.self.invariant within c.index_mut-receiver.ensures.value in
    let all : vec_len row.from ≡ length rows = omega (arith, row.from.ok.0, marks) in
    let none : c.fill.new.self.items ≡ replicate (length rows) false =
    c.fill.ensures.items (λ y same. same) ∙ ap (λ n. replicate n false) all in
    HasRooms-set rows host _ c.self.invariant (ap length none ∙ length-replicate (length rows) false)
    (subst (λ (ms : List Bool). TakesFromOthers (length rows) host (Master ms)) (sym none) (TakesFromOthers-nobody (length rows) host within))
