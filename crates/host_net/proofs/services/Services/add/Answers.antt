use Rattle.std.proofs.Common.{ap, ◌∙◌}
use Rattle.host_net.proofs.ServicesLemmas.{services_added}
use Rattle.host_net.specs.Services.{services_of}
use Rattle.host_net.specs.inner.Services.{AreServices}
use Rattle.host_net.proofs.ServicesLaws.{services_of-with_service, services_of-others, still_services}
use Rattle.host_net.proofs.services.Services.add.Goals as goal

pub returns-clause-added : goal.returns-clause-added
returns-clause-added c =
    services_added c.args.self.now c.self.inside.narrowed.entries c.insert.new.self.entries c.args.from c.args.to c.in_ok-services.services c.args.service
    c.self.view_is c.in_ok-insert.ensures.entries c.in_ok-services.ensures

pub invariant_of-self-2 : goal.invariant_of-self-2
invariant_of-self-2 c =
    let known : AreServices c.args.self.now = rw c.self.view_is at c.self.invariant in
    rw (returns-clause-added c) (still_services c.args.self.now c.args.from c.args.to c.args.service known c.requires.room c.requires.service)

pub returns-clause-last : goal.returns-clause-last
returns-clause-last c =
    ap (λ ns. services_of ns c.args.from c.args.to) (returns-clause-added c)
    ∙ services_of-with_service c.args.self.now c.args.from c.args.to c.args.service

pub returns-clause-others : goal.returns-clause-others
returns-clause-others c = λ i j apart.
    ap (λ ns. services_of ns i j) (returns-clause-added c)
    ∙ services_of-others c.args.self.now c.args.from c.args.to c.args.service i j apart
