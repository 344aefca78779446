use Rattle.std.proofs.Common.{◌≡◌, ◌<◌, length, ap, subst, sym, arith}
use Rattle.tmpl_reach.specs.NoReach.{AreOthers}
use Rattle.tmpl_reach.specs.laws.NoReachLaws.{AreOthers-insert}
use Rattle.tmpl_reach.proofs.DeniedHosts.{AreOthers-row, DenyOthers-set}
use Rattle.tmpl_reach.proofs.no_reach.NoReach.deny.Goals as goal

pub invariant_of-self : goal.invariant_of-self
invariant_of-self c =
    let denied = c.self.inside.denied.items in
    let host = c.args.host in
    let other = c.args.other in
    let row = c.index_mut-denied.result.now in
    let sized : length denied ≡ length c.args.self.now = ap length c.self.view_is in
    let is_host : host < length denied = omega (arith, sized, c.requires.host) in
    let is_other : other < length denied = omega (arith, sized, c.requires.other) in
    let before = AreOthers-row denied host row c.self.invariant is_host c.index_mut-denied.ensures.value in
    DenyOthers-set denied host c.insert.new.self c.self.invariant
    (subst (AreOthers (length denied) host) (sym c.insert.ensures) ((AreOthers-insert (length denied) host row other before).0 (is_other, c.requires.apart)))
