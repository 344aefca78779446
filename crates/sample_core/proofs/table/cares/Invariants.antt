use Rattle.std.proofs.Common.{◌≡◌, map}
use Rattle.sample_core.specs.inner.TableParts.{table_value}
use Rattle.sample_core.specs.SampleTable.{care_table, hosts_in_care}
use Rattle.toml.specs.View.{view}
use Rattle.sample_core.proofs.table.cares.Given as goal

-- There is a table for each host so far.
abbrev pub invariant-loop-host : goal.invariant-loop-host
invariant-loop-host l = map view l.values.items ≡ map (table_value care_table) (hosts_in_care l.host)
