use Rattle.std.proofs.Common.{◌∙◌, sym, subst}
use Rattle.change_core.specs.Weaker.{AreWeaker}
use Rattle.net_core.specs.Network.{site_of}
use Rattle.changes_json.specs.Weakening.{flows_where, is_denied, is_free, is_gap_of}
use Rattle.changes_json.proofs.WeakeningLaws.{all_denied_as, are_gaps_alike, flows_fit, old_flows_fit}
use Rattle.changes_json.proofs.weakening.weakening_of.Goals as goal

pub weaker_between-requires-clause-old : goal.weaker_between-requires-clause-old
weaker_between-requires-clause-old c =
    rw c.deref.ensures.value (flows_fit c.args.old.now c.args.before.now c.in_ok-old_denials.old_denials.items c.in_ok-old_denials.ensures.fit)

pub weaker_between-requires-clause-new : goal.weaker_between-requires-clause-new
weaker_between-requires-clause-new c =
    rw c.deref-2.ensures.value (flows_fit c.args.new.now c.args.after.now c.in_ok-denials.denials.items c.in_ok-denials.ensures.fit)

pub with_denials-requires-clause-every : goal.with_denials-requires-clause-every
with_denials-requires-clause-every c = rw (c.deref-4.ensures.value, c.count.ensures.value, c.hosts.ensures.value) c.in_ok-old_denials.ensures.denials.flows

pub with_denials-requires-clause-flows : goal.with_denials-requires-clause-flows
with_denials-requires-clause-flows c =
    let weaker = rw (c.deref.ensures.value, c.deref-2.ensures.value) at c.in_ok-weaker.ensures in
    rw (c.deref-3.ensures.value, c.count.ensures.value, c.hosts.ensures.value)
    (old_flows_fit c.args.old.now c.args.before.now (site_of c.args.new.now) (flows_where is_free c.in_ok-denials.denials.items)
    c.in_ok-old_denials.old_denials.items c.in_ok-weaker.weaker.items c.in_ok-old_denials.ensures.denials weaker)

pub flows_where-requires-clause-flows : goal.flows_where-requires-clause-flows
flows_where-requires-clause-flows c =
    rw (c.deref-5.ensures.value, c.hosts-2.ensures.value)
    (flows_fit c.args.old.now c.args.before.now c.in_ok-old_denials.old_denials.items c.in_ok-old_denials.ensures.fit)

pub flows_where-requires-clause-judged : goal.flows_where-requires-clause-judged
flows_where-requires-clause-judged c =
    rw c.deref-5.ensures.value
    (λ k x below. let one = c.in_ok-old_denials.ensures.fit k x below in (one.is_policy, one.finding.flow))

pub returns : goal.returns
returns c =
    let old = c.args.old.now in
    let new = c.args.new.now in
    let old_found = c.in_ok-old_denials.old_denials.items in
    let found = c.in_ok-denials.denials.items in
    let listed = c.in_ok-weaker-2.weaker.items in
    let weaker = rw (c.deref.ensures.value, c.deref-2.ensures.value) at c.in_ok-weaker.ensures in
    let flows = c.in_ok-weaker-2.ensures.flows ∙ c.deref-3.ensures.value in
    let denied = rw c.deref-4.ensures.value at c.in_ok-weaker-2.ensures.denied_by in
    let old_gaps = rw c.deref-5.ensures.value at c.in_ok-old_gaps.ensures.flows in
    let gaps = rw c.deref-6.ensures.value at c.in_ok-gaps.ensures.flows in
    let exact = rw (c.hosts-4.ensures.value, c.hosts-5.ensures.value) at c.in_ok-gaps-2.ensures.exact in
    record {
      old_denials = old_found;
      are_old_denials = c.in_ok-old_denials.ensures.denials;
      denials = found;
      are_denials = c.in_ok-denials.ensures.denials;
      weaker = subst (AreWeaker (site_of old) (flows_where is_denied old_found) (site_of new) (flows_where is_free found)) (sym flows) weaker;
      denied_by = all_denied_as old c.args.before.now old_found c.in_ok-old_denials.ensures.denials listed denied;
      ordered = c.size.ensures.set.ordered;
      gaps =
          are_gaps_alike old.hosts c.in_ok-old_gaps.old_gaps.flows (flows_where (is_gap_of old c.args.before.now) old_found) old_gaps new.hosts
          c.in_ok-gaps.gaps.flows (flows_where (is_gap_of new c.args.after.now) found) gaps c.in_ok-gaps-2.gaps.flows exact;
    }
