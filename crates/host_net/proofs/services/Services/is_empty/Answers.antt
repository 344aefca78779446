use Rattle.std.proofs.Common.{◌≡◌, [], subst}
use Rattle.std.specs.Prelude.{◌↔◌, IsTrue, List}
use Rattle.host_net.specs.Services.{RestrictedFlow}
use Rattle.host_net.proofs.ServicesLemmas.{none_narrowed}
use Rattle.host_net.proofs.services.Services.is_empty.Goals as goal

pub returns-clause-empty : goal.returns-clause-empty
returns-clause-empty c =
    let none = none_narrowed c.self.inside.narrowed.entries in
    subst (λ (ns : List RestrictedFlow). IsTrue c.is_empty.result ↔ (ns ≡ [])) c.self.view_is
    (λ yes. none.0 (c.is_empty.ensures.0 yes), λ empty. c.is_empty.ensures.1 (none.1 empty))
