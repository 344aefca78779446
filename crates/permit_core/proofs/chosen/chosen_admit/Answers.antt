use Rattle.std.proofs.Common.{◌&&◌, [], ◌∷◌, refl, subst, ◌∙◌}
use Rattle.std.specs.Prelude.{IsTrue}
use Rattle.std.proofs.lemmas.Bool.{both_ways}
use Rattle.std.proofs.lemmas.List.{take_all}
use Rattle.std.proofs.lemmas.List.Elements.{All-more}
use Rattle.permit_core.specs.inner.Trials.{ChosenHold}
use Rattle.permit_core.proofs.chosen.chosen_admit.Goals as goal
use Rattle.permit_core.proofs.chosen.chosen_admit.Goals.{then-is_chosen_edge_wise+else-not-admits, else-is_chosen_edge_wise}

pub loop-inv-preserved : goal.loop-inv-preserved
loop-inv-preserved g c =
    let Holds = λ (inv : g.row.I.Denot).
    IsTrue (g.C.Choice.chosen c.args.choice.now inv && g.I.Invariant.edge_mark inv) → g.I.Invariant.holds_on inv (c.args.f ∷ []) in
    let here : Holds c.inv-item.result =
    elim c.if-is_chosen_edge_wise.branch [
      | then-is_chosen_edge_wise+else-not-admits w ↦ λ _. w.admits.ensures.0 w.if-not-admits.false
      | else-is_chosen_edge_wise w ↦ λ is. absurd (both_ways _ w.if-is_chosen_edge_wise.false (c.is_chosen_edge_wise.ensures ∙ is))
    ] in
    All-more Holds c.args.invs.now c.loop-inv.inv-index c.inv-item.result c.loop-inv-test.true c.loop-inv.invariant
    (subst Holds c.inv-item.is here)

pub returns : goal.returns
returns g c = (
  λ _. subst
      (λ invs. ChosenHold (λ inv. g.C.Choice.chosen c.args.choice.now inv && g.I.Invariant.edge_mark inv) g.I.Invariant.holds_on invs (c.args.f ∷ []))
      (take_all c.loop-inv.inv-index c.args.invs.now c.loop-inv-test.false) c.loop-inv.invariant,
  λ _. refl,
)
