use Rattle.std.proofs.Common.{◌≡◌, ℕ, List, Option, Some, None, Bor, refl, ap, sym, ◌∙◌}
use Rattle.std.specs.Option.{option_copied, option_map}
use Rattle.std.specs.Prelude.{is_some}
use Rattle.toml.specs.View.{table_view}
use Rattle.edit_core.proofs.TextLemmas.{assign_said, no_assign}
use Rattle.edit_core.proofs.line.read_assign.Goals as goal

copied : (r : Option (Bor (List ℕ))) → is_some (option_copied r) ≡ is_some r
copied None = refl
copied (Some x) = refl

pub returns-in_default : goal.returns-in_default
returns-in_default c = (no_assign c.args.text.now c.in_default.ensures.cases.0, refl)

pub returns : goal.returns
returns c =
    assign_said c.args.text.now c.in-Ok.text.now (table_view c.in_ok-document.document) (table_view c.in-Some.assign) c.in-Ok.ensures.cases.1
    c.in-Ok.ensures.cases.0 c.in_ok-document.ensures (sym c.value_in.ensures ∙ ap (option_map table_view) c.in-Some.is)
    (ap is_some (sym c.text_at.ensures) ∙ copied c.text_at.result ∙ c.if-is_none.ensures)
