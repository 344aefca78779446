use Rattle.std.proofs.Common.{ℕ, List, ap, ◌∙◌}
use Rattle.desc_core.proofs.MigrationLemmas.{inserted}
use Rattle.desc_core.specs.Migrated.{with_member}
use Rattle.toml.specs.View.{members_view, table_view, view}
use Rattle.sample_core.proofs.table.put.Goals as goal

pub returns : goal.returns
returns c =
    ap members_view c.in_ok-insert.ensures.entries
    ∙ inserted c.args.table.now.entries c.in_ok-from_str.field-0 c.args.value
    ∙ ap (λ (key : List ℕ). with_member key (view c.args.value) (table_view c.args.table.now)) c.in_ok-from_str.ensures.ok
