use Rattle.std.proofs.Common.{sym, ◌∙◌}
use Rattle.desc_core.proofs.DescribeLemmas.{form_passed, form_refused}
use Rattle.toml.specs.View.{table_view}
use Rattle.desc_core.proofs.description.read_described.Goals as goal

pub returns-in-Some : goal.returns-in-Some
returns-in-Some c = form_refused (table_view c.args.table.now) c.in-Some.refusal (sym c.form_refusal.ensures.first ∙ c.in-Some.is)

pub returns : goal.returns
returns c = rw (form_passed (table_view c.args.table.now) (sym c.form_refusal.ensures.first ∙ c.in_default.is), ← c.in_ok-written.ensures.read) c.read_network.ensures
