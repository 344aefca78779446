use Rattle.std.proofs.Common.{◌≡◌, ◌<◌, ℕ, false, List, replicate, length, map, drop, ◌+◌, option_map, slice_set, slice_index_or, ap, sym, subst, ◌∙◌, length-set}
use Rattle.std.proofs.lemmas.List.{get_or-set_same}
use Rattle.toml.specs.Data.{Data}
use Rattle.toml.specs.View.{view}
use Rattle.table_core.specs.inner.Listing.{grow}
use Rattle.table_core.proofs.ListingLaws.{grow_each}
use Rattle.tmpl_zones.specs.Partners.{Partner, DontCare, Care, Master, with_sender}
use Rattle.tmpl_zones.specs.inner.PartnersView.{IsMaster}
use Rattle.attr_core.specs.Partners.{master_of}
use Rattle.attr_core.specs.Peers.{peer}
use Rattle.attr_core.proofs.AtHost.{begun_at, grown_at, rest_from}
use Rattle.attr_core.proofs.PeersWalk.{with_peer}
use Rattle.attr_core.proofs.partners.allow_all.Goals as goal

IsMaster-with_sender : (p : Partner) (sender : ℕ) → IsMaster p → IsMaster (with_sender p sender)
IsMaster-with_sender DontCare sender h = h
IsMaster-with_sender Care sender h = h
IsMaster-with_sender (Master marks) sender h = h

-- The attribute of the host that was set.
IsMaster-set : (xs new : List Partner) (i : ℕ) (p : Partner) → i < length xs → IsMaster p → new ≡ slice_set xs i p → IsMaster (slice_index_or new i DontCare)
IsMaster-set xs new i p within is_master is = subst IsMaster (sym (ap (λ (ys : List Partner). slice_index_or ys i DontCare) is ∙ get_or-set_same xs i p DontCare within)) is_master

pub loop-value-init : goal.loop-value-init
unfolding master_of
loop-value-init c =
    let rule = c.args.rule.now in
    let host = c.args.host in
    let step = with_peer with_sender c.args.hosts.now host in
    let ds = map view c.args.listed.now in
    let within : host < length rule = rw c.requires.size c.requires.host in
    let none = Master (replicate (length rule) false) in
    record {
      sized = ap length c.set_master.ensures.list ∙ length-set rule host none ∙ c.requires.size;
      master = IsMaster-set rule c.set_master.new.self host none within tt c.set_master.ensures.list;
      grown = ap (λ (xs : List Partner). option_map (slice_set xs host) (grow step (slice_index_or xs host DontCare) ds)) c.set_master.ensures.list
          ∙ begun_at step rule host none DontCare ds within
          ∙ ap (λ (n : ℕ). option_map (slice_set rule host) (grow step (Master (replicate n false)) ds)) c.requires.size
          ∙ ap (option_map (slice_set rule host)) (grow_each (peer c.args.hosts.now host) with_sender (Master (replicate (length c.args.hosts.now) false)) ds);
    }

pub loop-value-preserved : goal.loop-value-preserved
loop-value-preserved c =
    let rule = c.loop-value.rule in
    let host = c.args.host in
    let step = with_peer with_sender c.args.hosts.now host in
    let value = c.value-item.result in
    let listed = c.args.listed.now in
    let rest = map view (drop (c.loop-value.value-index + 1) listed) in
    let before = slice_index_or rule host DontCare in
    let master = with_sender before c.in-Some.sender in
    let within : host < length rule = rw c.loop-value.invariant.sized c.requires.host in
    record {
      sized = ap length c.allow.ensures.list ∙ length-set rule host master ∙ c.loop-value.invariant.sized;
      master = IsMaster-set rule c.allow.new.self host master within (IsMaster-with_sender before c.in-Some.sender c.loop-value.invariant.master) c.allow.ensures.list;
      grown = ap (λ (xs : List Partner). option_map (slice_set xs host) (grow step (slice_index_or xs host DontCare) rest)) c.allow.ensures.list
          ∙ grown_at step rule host master DontCare (view value) rest within (ap (option_map (with_sender before)) (sym c.in-Some.ensures.value))
          ∙ ap (λ (ds : List Data). option_map (slice_set rule host) (grow step before ds)) (rest_from view listed c.loop-value.value-index value c.loop-value-test.true c.value-item.is)
          ∙ c.loop-value.invariant.grown;
    }
