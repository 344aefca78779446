use Rattle.std.proofs.Common.{ℕ, ◌<◌, ◌↔◌, List, refl, arith}
use Rattle.std.specs.FinSet as set
use Rattle.std.specs.Prelude.{IsTrue}
use Rattle.std.proofs.lemmas.Bool.{both_ways, false≢true}
use Rattle.flow_set.proofs.SubsetLaws.{IsFlowSet-with_flow}
use Rattle.flow_set.specs.declared.flow.Flow.{Flow}
use Rattle.flow_set.specs.Flow.{IsFlow}
use Rattle.flow_set.specs.FlowSet.{with_flow}
use Rattle.flow_set.specs.HostSet.{HostNumbers}
use Rattle.flow_set.specs.inner.FlowSetView.{IsFlowSet}
use Rattle.reach_core.specs.inner.Opening.{ReachesOnlyWith}
use Rattle.reach_core.specs.laws.ReachLaws.{Reaches-below}
use Rattle.tmpl_reach.specs.inner.EachOf.{EachOf}
use Rattle.tmpl_reach.proofs.EachHost.{upto_end, upto_next}
use Rattle.tmpl_reach.proofs.Still.{everywhere}
use Rattle.tmpl_reach.proofs.host_wise.still_allowed.Goals as goal

-- A host that reaches more with a flow is one of the hosts.
opened_below : (n : ℕ) (e : List Flow) (f : Flow) (hosts : HostNumbers) → IsFlowSet n e → IsFlow n f
    → ((host : ℕ) → IsTrue (set.contains hosts host) ↔ ReachesOnlyWith f e host f.to) → EachOf hosts (λ host. host < n)
opened_below n e f hosts is_set is_flow opened host there =
    (Reaches-below n (with_flow e f) (IsFlowSet-with_flow n e f is_set is_flow) host f.to ((opened host).0 there).0).0

pub returns-then-not-allows : goal.returns-then-not-allows
returns-then-not-allows g c = (
  λ no. absurd (false≢true no),
  λ holds. absurd (both_ways _ c.if-not-allows.true
      ((c.allows.ensures (with_flow c.args.closure.now.flows c.args.f) c.reached_with.ensures).1 (holds c.in-Some.host))),
)

pub loop-host-preserved : goal.loop-host-preserved
loop-host-preserved g c =
    let e = with_flow c.args.closure.now.flows c.args.f in
    upto_next c.newly_reaching-hosts.result (g.R.HostWise.allows_on c.args.rule.now e) c.loop-host.from c.in-Some.host
    c.loop-host.invariant c.in-Some.ensures ((c.allows.ensures e c.reached_with.ensures).0 c.if-not-allows.false)

pub reached_with-requires-clause-host : goal.reached_with-requires-clause-host
reached_with-requires-clause-host g c =
    let e = c.args.closure.now in
    opened_below e.size e.flows c.args.f c.newly_reaching-hosts.result c.size.ensures.set c.requires.flow c.newly_reaching-hosts.ensures.hosts c.in-Some.host c.in-Some.ensures.passes

pub allows-requires-clause-host : goal.allows-requires-clause-host
allows-requires-clause-host g c =
    let e = c.args.closure.now in
    let below = opened_below e.size e.flows c.args.f c.newly_reaching-hosts.result c.size.ensures.set c.requires.flow c.newly_reaching-hosts.ensures.hosts c.in-Some.host c.in-Some.ensures.passes in
    omega (arith, c.requires.size, below)

pub returns : goal.returns
returns g c =
    let e = c.args.closure.now in
    let f = c.args.f in
    let P = g.R.HostWise.allows_on c.args.rule.now in
    let hosts = c.newly_reaching-hosts.result in
    let below = opened_below e.size e.flows f hosts c.size.ensures.set c.requires.flow c.newly_reaching-hosts.ensures.hosts in
    let each = upto_end hosts (P (with_flow e.flows f)) c.loop-host.from e.size c.loop-host.invariant c.in_default.ensures below c.size.ensures.set.small in
    (λ yes. everywhere P e.flows f hosts (g.met.R.HostWise.allows_fewer c.args.rule.now) c.newly_reaching-hosts.ensures.others c.requires.held each, λ holds. refl)
