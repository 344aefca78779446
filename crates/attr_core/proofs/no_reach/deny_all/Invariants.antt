use Rattle.std.proofs.Common.{◌≡◌, length, map, option_map, slice_set, drop}
use Rattle.std.specs.FinSet as set
use Rattle.toml.specs.View.{view}
use Rattle.tmpl_reach.specs.NoReach.{denied_by}
use Rattle.table_core.specs.inner.Listing.{grow}
use Rattle.attr_core.proofs.PeersWalk.{with_peer}
use Rattle.attr_core.specs.NoReach.{all_denied}
use Rattle.attr_core.proofs.no_reach.deny_all.Given as goal

abbrev pub invariant-loop-value : goal.invariant-loop-value
invariant-loop-value l = record {
  sized : length l.rule ≡ length l.hosts;
  grown : option_map (slice_set l.rule l.host) (grow (with_peer set.insert l.hosts l.host) (denied_by l.rule l.host) (map view (drop l.value-index l.listed)))
      ≡ option_map (slice_set l.fn.rule l.host) (all_denied l.hosts l.host (map view l.listed));
}
