use Rattle.std.proofs.Common.{length, subst, sym}
use Rattle.tmpl_reach.specs.NoReach.{AreOthers}
use Rattle.tmpl_reach.specs.laws.NoReachLaws.{AreOthers-none}
use Rattle.tmpl_reach.proofs.DeniedHosts.{DenyOthers-set}
use Rattle.tmpl_reach.proofs.no_reach.NoReach.clear.Goals as goal

pub invariant_of-self : goal.invariant_of-self
invariant_of-self c =
    let denied = c.self.inside.denied.items in
    DenyOthers-set denied c.args.host c.empty.result c.self.invariant
    (subst (AreOthers (length denied) c.args.host) (sym c.empty.ensures) (AreOthers-none (length denied) c.args.host))
