use Rattle.std.proofs.Common.{◌≤◌, drop}
use Rattle.ipt_rules.specs.Semantics.{PassesChains}
use Rattle.pkt_core.specs.inner.ConnectionTable.{kept_in}
use Rattle.sample_core.proofs.RunLemmas.{Leaves}
use Rattle.sample_core.proofs.run.forwarded.Given as goal

abbrev pub invariant-loop-place : goal.invariant-loop-place
invariant-loop-place l = record {
  -- At most each packet was forwarded.
  few : l.count ≤ l.place;
  -- The number of forwarded packets among the remaining ones is added.
  left : Leaves (PassesChains l.indexed) l.packets (kept_in l.track) (drop l.place l.packets) l.count;
}
