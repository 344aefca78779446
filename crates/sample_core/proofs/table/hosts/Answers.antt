use Rattle.std.proofs.Common.{ap, map, ◌∙◌}
use Rattle.sample_core.specs.SampleTable.{host_table}
use Rattle.sample_core.proofs.TableLemmas.{made_more}
use Rattle.toml.specs.View.{view}
use Rattle.sample_core.proofs.table.hosts.Goals as goal

pub loop-host-preserved : goal.loop-host-preserved
loop-host-preserved c =
    ap (map view) c.in_ok-push.ensures.items
    ∙ made_more host_table c.loop-host.values.items c.in_ok-host_value.field-0 c.loop-host.host c.loop-host.invariant
    c.in_ok-host_value.ensures
