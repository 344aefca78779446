use Rattle.std.proofs.Common.{◌<◌, List, length, map, drop, ◌+◌, option_map, slice_set, ap, sym, ◌∙◌, length-set}
use Rattle.std.specs.FinSet as set
use Rattle.toml.specs.Data.{Data}
use Rattle.toml.specs.View.{view}
use Rattle.flow_set.specs.HostSet.{HostNumbers}
use Rattle.table_core.specs.inner.Listing.{grow}
use Rattle.tmpl_reach.specs.NoReach.{denied_by}
use Rattle.attr_core.proofs.AtHost.{begun_at, grown_at, rest_from}
use Rattle.attr_core.proofs.PeersWalk.{grow_denied, with_peer}
use Rattle.attr_core.proofs.no_reach.deny_all.Goals as goal

pub loop-value-init : goal.loop-value-init
loop-value-init c =
    let rule = c.args.rule.now in
    let host = c.args.host in
    let step = with_peer set.insert c.args.hosts.now host in
    let ds = map view c.args.listed.now in
    let within : host < length rule = rw c.requires.size c.requires.host in
    record {
      sized = ap length c.clear.ensures ∙ length-set rule host set.empty ∙ c.requires.size;
      grown = ap (λ (xs : List HostNumbers). option_map (slice_set xs host) (grow step (denied_by xs host) ds)) c.clear.ensures
          ∙ begun_at step rule host set.empty set.empty ds within
          ∙ ap (option_map (slice_set rule host)) (grow_denied c.args.hosts.now host ds);
    }

pub loop-value-preserved : goal.loop-value-preserved
loop-value-preserved c =
    let rule = c.loop-value.rule in
    let host = c.args.host in
    let step = with_peer set.insert c.args.hosts.now host in
    let value = c.value-item.result in
    let listed = c.args.listed.now in
    let rest = map view (drop (c.loop-value.value-index + 1) listed) in
    let denied = set.insert (denied_by rule host) c.in-Some.other in
    let within : host < length rule = rw c.loop-value.invariant.sized c.requires.host in
    record {
      sized = ap length c.deny.ensures ∙ length-set rule host denied ∙ c.loop-value.invariant.sized;
      grown = ap (λ (xs : List HostNumbers). option_map (slice_set xs host) (grow step (denied_by xs host) rest)) c.deny.ensures
          ∙ grown_at step rule host denied set.empty (view value) rest within (ap (option_map (set.insert (denied_by rule host))) (sym c.in-Some.ensures.value))
          ∙ ap (λ (ds : List Data). option_map (slice_set rule host) (grow step (denied_by rule host) ds)) (rest_from view listed c.loop-value.value-index value c.loop-value-test.true c.value-item.is)
          ∙ c.loop-value.invariant.grown;
    }
