use Rattle.std.proofs.Common.{ap, codes, map, ◌∙◌}
use Rattle.desc_core.specs.Migrated.{with_member}
use Rattle.sample_core.specs.SampleTable.{level_table, sample_name}
use Rattle.sample_core.proofs.TableLemmas.{made_more}
use Rattle.toml.specs.Data.{member, no_members, string, table}
use Rattle.toml.specs.View.{view}
use Rattle.sample_core.proofs.table.levels.Goals as goal

pub loop-host-preserved : goal.loop-host-preserved
loop-host-preserved c =
    ap (map view) c.in_ok-push.ensures.items
    ∙ made_more level_table c.loop-host.values.items c.in_ok-assign.field-0 c.loop-host.host c.loop-host.invariant
    (c.in_ok-assign.ensures
    ∙ ap (λ d. table (with_member (codes "level") d (member (codes "host") (string (sample_name c.loop-host.host)) no_members)))
    c.level.ensures)
