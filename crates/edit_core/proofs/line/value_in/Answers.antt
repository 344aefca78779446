use Rattle.std.proofs.Common.{ap, codes, sym, ◌∙◌}
use Rattle.std.specs.Option.{option_map}
use Rattle.text_core.specs.Steps.{◌>>=◌}
use Rattle.toml.specs.Data.{as_table}
use Rattle.toml.specs.View.{view}
use Rattle.edit_core.proofs.TextLemmas.{held}
use Rattle.edit_core.proofs.line.value_in.Goals as goal

pub returns-in_err-value : goal.returns-in_err-value
returns-in_err-value c =
    rw c.from_residual.ensures
    (ap (λ o. option_map view o >>= as_table) (sym c.in_err-value.was)
    ∙ ap (λ o. o >>= as_table) (held c.remove.result (codes "v") c.args.document.entries c.remove.ensures.value))

pub returns : goal.returns
returns c =
    c.table_in.ensures ∙ ap (λ o. option_map view o >>= as_table) (sym c.in_ok-value.was)
    ∙ ap (λ o. o >>= as_table) (held c.remove.result (codes "v") c.args.document.entries c.remove.ensures.value)
