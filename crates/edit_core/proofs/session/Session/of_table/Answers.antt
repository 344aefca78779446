use Rattle.std.proofs.Common.{ap, ◌∙◌}
use Rattle.desc_core.specs.Description.{described_by_table}
use Rattle.edit_core.specs.inner.Kept.{table_of-entries_of}
use Rattle.edit_core.proofs.session.Session.of_table.Goals as goal

pub returns-clause-described : goal.returns-clause-described
returns-clause-described c =
    (c.in_ok-description.description, ap described_by_table (table_of-entries_of c.args.table) ∙ c.in_ok-description.ensures.given)
