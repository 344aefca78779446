use Rattle.std.proofs.Common.{◌≡◌, [], sym, ap, ◌∙◌}
use Rattle.std.specs.Global.{Global}
use Rattle.std.specs.Map.{lookup}
use Rattle.std.specs.Option.{option_copied, option_map_or}
use Rattle.std.specs.declared.vec.Vec.{Vec}
use Rattle.host_net.proofs.ServicesLemmas.{same_ends, services_found}
use Rattle.host_net.specs.declared.service.Service.{Service}
use Rattle.host_net.proofs.services.Services.of.Goals as goal

pub returns-in-Some-clause-list : goal.returns-in-Some-clause-list
returns-in-Some-clause-list c =
    let found : option_copied c.get.result ≡ lookup (same_ends (c.args.from, c.args.to)) c.self.inside.narrowed.entries = c.get.ensures.value in
    rw (← c.self.view_is, c.deref.ensures.value)
    (ap (λ o. option_map_or (λ (v : Vec Service Global). v.items) (option_copied o) []) (sym c.in-Some.is)
    ∙ ap (λ o. option_map_or (λ (v : Vec Service Global). v.items) o []) found
    ∙ sym (services_found c.self.inside.narrowed.entries c.args.from c.args.to))

pub returns-in-None-clause-list : goal.returns-in-None-clause-list
returns-in-None-clause-list c =
    let found : option_copied c.get.result ≡ lookup (same_ends (c.args.from, c.args.to)) c.self.inside.narrowed.entries = c.get.ensures.value in
    rw (← c.self.view_is)
    (ap (λ o. option_map_or (λ (v : Vec Service Global). v.items) (option_copied o) []) (sym c.in-None.is)
    ∙ ap (λ o. option_map_or (λ (v : Vec Service Global). v.items) o []) found
    ∙ sym (services_found c.self.inside.narrowed.entries c.args.from c.args.to))
