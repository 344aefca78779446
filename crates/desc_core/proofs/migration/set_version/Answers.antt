use Rattle.std.proofs.Common.{pos, ap, ◌∙◌}
use Rattle.toml.proofs.Views.{view-Integer}
use Rattle.toml.specs.View.{members_view}
use Rattle.desc_core.proofs.MigrationLemmas.{inserted}
use Rattle.desc_core.specs.Migrated.{with_member}
use Rattle.desc_core.proofs.migration.set_version.Goals as goal

pub returns : goal.returns
returns c =
    ap members_view c.in_ok-insert.ensures.entries
    ∙ inserted c.args.table.now.entries c.in_ok-key.key _
    ∙ (λ i. with_member (c.in_ok-key.ensures.ok i) (view-Integer (pos 2) i) (members_view c.args.table.now.entries))
