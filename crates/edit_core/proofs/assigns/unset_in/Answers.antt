use Rattle.std.proofs.Common.{Bor, List, Err, option_map, sym, ap, subst, ◌∙◌}
use Rattle.std.proofs.lemmas.Result.{err_from_is_err_and}
use Rattle.toml.specs.Data.{Data}
use Rattle.toml.specs.View.{table_view, view}
use Rattle.toml.specs.declared.value.Value.{Value}
use Rattle.edit_core.proofs.AssignLemmas.{assigns_given}
use Rattle.edit_core.specs.Edited.{edited, is_of_host, others}
use Rattle.edit_core.specs.inner.EditFaults.{Gives}
use Rattle.edit_core.proofs.assigns.unset_in.Goals as goal

pub returns-in_err-assigns : goal.returns-in_err-assigns
unfolding edited
returns-in_err-assigns c =
    let p = err_from_is_err_and c.from_residual.result c.from_residual.ensures.1 in
    rw (p.1, p.2)
    (assigns_given c.args.number (table_view c.args.document.now) (others (is_of_host c.args.host.now)) (view c.in-Some.invariant.now)
    (ap (option_map (λ (value : Bor Value). view value.now)) (sym c.in-Some.is) ∙ c.invariant_at.ensures) c.in_err-assigns.field-0.0
    (subst (λ (ds : List Data). Gives {A = List Data} (others (is_of_host c.args.host.now) ds) (Err c.in_err-assigns.field-0.0)) c.assigns_of.ensures c.in_err-assigns.ensures))
