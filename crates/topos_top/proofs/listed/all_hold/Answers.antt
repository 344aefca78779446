use Rattle.std.proofs.Common.{All, List, arith, refl, subst}
use Rattle.std.proofs.lemmas.List.{take_all}
use Rattle.std.proofs.lemmas.List.Elements.{All-more}
use Rattle.inv_any.specs.declared.any_inv.AnyInv.{AnyInv}
use Rattle.net_core.specs.Policies.{holds_on}
use Rattle.topos_top.proofs.listed.all_hold.Goals as goal

pub loop-inv-preserved : goal.loop-inv-preserved
loop-inv-preserved c =
    let flows = c.args.flows.now.flows in
    All-more (λ (inv : AnyInv). holds_on inv flows) c.args.invariants.now c.loop-inv.inv-index c.inv-item.result c.loop-inv-test.true c.loop-inv.invariant
    (subst (λ (inv : AnyInv). holds_on inv flows) c.inv-item.is (c.in_ok-holds.ensures.0 c.if-not-branch.false))

pub returns : goal.returns
returns c = (
  λ held. subst (λ (invs : List AnyInv). All (λ inv. holds_on inv c.args.flows.now.flows) invs) (take_all c.loop-inv.inv-index c.args.invariants.now (omega (arith, c.loop-inv-test.false))) c.loop-inv.invariant,
  λ all. refl,
)
