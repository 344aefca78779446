use Rattle.std.proofs.Common.{◌≡◌, length, map, option_map, slice_set, slice_index_or, drop}
use Rattle.toml.specs.View.{view}
use Rattle.tmpl_zones.specs.Partners.{DontCare, with_sender}
use Rattle.tmpl_zones.specs.inner.PartnersView.{IsMaster}
use Rattle.table_core.specs.inner.Listing.{grow}
use Rattle.attr_core.proofs.PeersWalk.{with_peer}
use Rattle.attr_core.specs.Partners.{master_of}
use Rattle.attr_core.proofs.partners.allow_all.Given as goal

abbrev pub invariant-loop-value : goal.invariant-loop-value
invariant-loop-value l = record {
  sized : length l.rule ≡ length l.hosts;
  master : IsMaster (slice_index_or l.rule l.host DontCare);
  grown : option_map (slice_set l.rule l.host) (grow (with_peer with_sender l.hosts l.host) (slice_index_or l.rule l.host DontCare) (map view (drop l.value-index l.listed)))
      ≡ option_map (slice_set l.fn.rule l.host) (master_of l.hosts l.host (map view l.listed));
}
