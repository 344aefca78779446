use Rattle.std.proofs.Common.{ap, ◌∙◌}
use Rattle.toml.proofs.Views.{view-Array}
use Rattle.toml.specs.View.{members_view}
use Rattle.desc_core.specs.Migrated.{with_member}
use Rattle.desc_core.proofs.MigrationLemmas.{inserted}
use Rattle.edit_core.proofs.values.with_list.Goals as goal

pub returns : goal.returns
returns c =
    ap members_view c.in_ok-insert.ensures.entries
    ∙ inserted c.in_ok-copy.copy.entries c.in_ok-from_str.field-0 _
    ∙ (λ i. with_member (c.in_ok-from_str.ensures.ok i) (view-Array c.args.values i) (c.in_ok-copy.ensures i))
