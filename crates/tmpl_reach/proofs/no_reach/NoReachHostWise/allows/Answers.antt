use Rattle.std.proofs.Common.{◌≡◌, ◌<◌, List, length, ◌∙◌, sym, ap, arith, subst}
use Rattle.std.proofs.lemmas.List.{get_or_read}
use Rattle.std.specs.FinSet as set
use Rattle.flow_set.specs.HostSet.{HostNumbers}
use Rattle.flow_set.specs.inner.Calls.{AreApart}
use Rattle.reach_core.specs.Walks.{Reaches}
use Rattle.tmpl_reach.specs.NoReach.{denied_by}
use Rattle.tmpl_reach.proofs.OtherHosts.{apart_but}
use Rattle.tmpl_reach.proofs.no_reach.NoReachHostWise.allows.Goals as goal

pub remove-requires : goal.remove-requires
remove-requires c = omega (arith, c.requires.host, ap length c.self.view_is, c.self.invariant.few)

pub returns : goal.returns
returns c e shows =
    let host = c.args.host in
    let within : host < length c.self.inside.denied.items =
    subst (λ (xs : List HostNumbers). host < length xs) (sym c.self.view_is) c.requires.host in
    let denied : c.index-denied.result.now ≡ denied_by c.args.self.now host =
    get_or_read c.self.inside.denied.items host c.index-denied.result.now within c.index-denied.ensures set.empty
    ∙ ap (λ (xs : List HostNumbers). denied_by xs host) c.self.view_is in
    let law = apart_but c.args.reached.now c.remove.new.self (denied_by c.args.self.now host) host (Reaches e host) shows (c.remove.ensures ∙ ap (λ (s : HostNumbers). set.remove s host) c.copy-others.ensures) in (
      λ yes. law.0 (subst (AreApart c.remove.new.self) denied (c.is_apart.ensures.0 yes)),
      λ none. c.is_apart.ensures.1 (subst (AreApart c.remove.new.self) (sym denied) (law.1 none)),
    )
