use Rattle.std.proofs.Common.{map}
use Rattle.sample_core.specs.SampleTable.{care_table}
use Rattle.sample_core.proofs.TableLemmas.{care_more}
use Rattle.toml.specs.View.{view}
use Rattle.sample_core.proofs.table.cares.Goals as goal

pub loop-host-preserved : goal.loop-host-preserved
loop-host-preserved c =
    care_more care_table (map view c.loop-host.values.items)
    (map view c.push_care.new.values.items) c.loop-host.host c.loop-host.invariant c.in_ok-push_care.ensures
