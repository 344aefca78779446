use Rattle.std.proofs.Common.{◌<◌, refl, arith}
use Rattle.flow_set.proofs.SubsetLaws.{IsFlowSet-with_flow}
use Rattle.flow_set.specs.FlowSet.{with_flow}
use Rattle.reach_core.specs.laws.ReachLaws.{Joined-below}
use Rattle.tmpl_reach.specs.laws.NonInterferenceLaws.{IsNonInterfering-nothing_new, StaysIsolated-with_flow}
use Rattle.tmpl_reach.proofs.Still.{still_isolated}
use Rattle.tmpl_reach.proofs.non_interference.NonInterference.still_isolated.Goals as goal

pub has_one_at_most-requires-clause-hosts : goal.has_one_at_most-requires-clause-hosts
has_one_at_most-requires-clause-hosts c host there =
    let e = c.args.closure.now in
    let f = c.args.f in
    let below : host < e.size =
    (Joined-below e.size (with_flow e.flows f) (IsFlowSet-with_flow e.size e.flows f c.size.ensures.set c.requires.flow) f.from host ((c.joined_by-hosts.ensures host).0 there)).1 in
    omega (arith, below, c.requires.size)

pub has_one_at_most-requires-clause-small : goal.has_one_at_most-requires-clause-small
has_one_at_most-requires-clause-small c = omega (arith, c.size.ensures.set.small, c.requires.size)

pub returns-then-joined : goal.returns-then-joined
returns-then-joined c = (
  λ _. IsNonInterfering-nothing_new c.args.self.now c.args.closure.now.flows c.args.f (c.joined.ensures.0 c.if-joined.true) c.requires.held,
  λ _. refl,
)

pub returns : goal.returns
returns c =
    let kinds = c.args.self.now in
    let e = c.args.closure.now.flows in
    let f = c.args.f in
    let law =
    still_isolated kinds (with_flow e f) f.from c.joined_by-hosts.result c.joined_by-hosts.ensures (StaysIsolated-with_flow kinds e f c.requires.held) in
    (λ yes. law.0 (c.has_one_at_most.ensures.0 yes), λ holds. c.has_one_at_most.ensures.1 (law.1 holds))
