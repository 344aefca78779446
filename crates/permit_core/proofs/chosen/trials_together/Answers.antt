use Rattle.std.proofs.Common.{◌&&◌, not, sym, ◌∙◌}
use Rattle.permit_core.proofs.TriedLaws.{ChosenTried-skip, ChosenTried-with}
use Rattle.permit_core.proofs.chosen.trials_together.Goals as goal
use Rattle.permit_core.proofs.chosen.trials_together.Goals.{then-is_chosen_path_based+in_ok-new+in_ok-push, else-is_chosen_path_based}

pub loop-inv-preserved : goal.loop-inv-preserved
loop-inv-preserved g c =
    let together = λ (inv : g.row.I.Denot). g.C.Choice.chosen c.args.choice.now inv && not (g.I.Invariant.edge_mark inv) in
    let trials = c.loop-inv.trials.items in
    elim c.if-is_chosen_path_based.branch [
      | then-is_chosen_path_based+in_ok-new+in_ok-push w ↦
          rw (w.trials-is, w.in_ok-push.ensures.items)
          (ChosenTried-with g.I.Stepwise.fits g.I.Tried.Trial.tried together c.args.invs.now trials c.args.e.now.flows c.loop-inv.inv-index c.inv-item.result w.in_ok-new.field-0
          c.loop-inv.invariant c.loop-inv-test.true c.inv-item.is (sym c.is_chosen_path_based.ensures ∙ w.if-is_chosen_path_based.true)
          w.in_ok-new.ensures.invariant w.in_ok-new.ensures.fits w.in_ok-new.ensures.flows)
      | else-is_chosen_path_based w ↦
          rw w.trials-is
          (ChosenTried-skip g.I.Stepwise.fits g.I.Tried.Trial.tried together c.args.invs.now trials c.args.e.now.flows c.loop-inv.inv-index c.inv-item.result
          c.loop-inv.invariant c.loop-inv-test.true c.inv-item.is (sym c.is_chosen_path_based.ensures ∙ w.if-is_chosen_path_based.false))
    ]
