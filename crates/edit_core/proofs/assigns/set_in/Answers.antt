use Rattle.std.proofs.Common.{Bor, List, Ok, codes, map, option_map, sym, ap, ◌∙◌}
use Rattle.desc_form.specs.RawDescription.{text_in}
use Rattle.toml.specs.Data.{Data}
use Rattle.toml.specs.View.{table_view, view}
use Rattle.toml.specs.declared.value.Value.{Value}
use Rattle.edit_core.proofs.AssignLemmas.{assigns_made}
use Rattle.edit_core.specs.Edited.{assigned, edited}
use Rattle.edit_core.proofs.assigns.set_in.Goals as goal

pub returns : goal.returns
unfolding edited
returns c =
    let assign = table_view c.args.assign.now in
    let host = text_in (codes "host") assign in
    assigns_made c.args.number (table_view c.args.document.now) (λ ds. Ok (assigned host assign ds)) (view c.in-Some.invariant.now)
    (ap (option_map (λ (value : Bor Value). view value.now)) (sym c.in-Some.is) ∙ c.invariant_at.ensures)
    (map view c.in_ok-assigns.assigns.items) (table_view c.in_ok-with_assigns.field-0)
    (ap (λ (ds : List Data). Ok ds) (sym (c.in_ok-assigns.ensures ∙ ap (assigned host assign) c.assigns_of.ensures))) c.in_ok-with_assigns.ensures
