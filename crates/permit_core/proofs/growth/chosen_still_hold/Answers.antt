use Rattle.std.proofs.Common.{refl, subst, ◌∙◌}
use Rattle.std.specs.Prelude.{IsTrue}
use Rattle.std.proofs.lemmas.Bool.{both_ways}
use Rattle.std.proofs.lemmas.List.{take_all}
use Rattle.std.proofs.lemmas.List.Elements.{All-more}
use Rattle.permit_core.specs.inner.Trials.{ChosenHold}
use Rattle.permit_core.proofs.growth.chosen_still_hold.Goals as goal
use Rattle.permit_core.proofs.growth.chosen_still_hold.Goals.{then-chooses+in_ok-still_holds+else-not-branch, else-chooses}

pub loop-inv-preserved : goal.loop-inv-preserved
loop-inv-preserved g c =
    let chosen = g.C.Choice.chosen c.args.choice.now in
    let Holds = λ (inv : g.row.I.Denot). IsTrue (chosen inv) → g.I.Invariant.holds_on inv c.args.set.now.flows in
    let here : Holds c.inv-item.result =
    elim c.if-chooses.branch [
      | then-chooses+in_ok-still_holds+else-not-branch w ↦ λ _. w.in_ok-still_holds.ensures.0 w.if-not-branch.false
      | else-chooses w ↦ λ is. absurd (both_ways _ w.if-chooses.false (c.chooses.ensures ∙ is))
    ] in
    All-more Holds c.args.invs.now c.loop-inv.inv-index c.inv-item.result c.loop-inv-test.true c.loop-inv.invariant
    (subst Holds c.inv-item.is here)

pub returns : goal.returns
returns g c = (
  λ _. subst (λ invs. ChosenHold (g.C.Choice.chosen c.args.choice.now) g.I.Invariant.holds_on invs c.args.set.now.flows) (take_all c.loop-inv.inv-index c.args.invs.now c.loop-inv-test.false) c.loop-inv.invariant,
  λ _. refl,
)
