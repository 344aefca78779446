use Rattle.std.proofs.Common.{◌≡◌, List, [], ◌∷◌, sym, ◌∙◌, ap, subst}
use Rattle.std.specs.Prelude.{IsTrue}
use Rattle.flow_set.specs.declared.flow.Flow.{Flow}
use Rattle.flow_set.specs.Flow.{IsFlow}
use Rattle.flow_set.specs.FlowSet.{SetOfFlows, has, with_flow}
use Rattle.flow_set.specs.inner.FlowSetView.{IsFlowSet}
use Rattle.flow_set.specs.inner.Downward.{IsDownwardClosed, IsEdgeWise}
use Rattle.flow_set.specs.laws.FlowLaws.{has_first, has-with_flow}
use Rattle.flow_set.proofs.SubsetLaws.{IsFlowSet-subset, IsFlowSet-with_flow}
use Rattle.std.proofs.lemmas.Bool.{or_right}
use Rattle.explain_core.specs.inner.Transitions.{AreNarrowed}
use Rattle.explain_core.proofs.LeastLaws.{least_end}
use Rattle.explain_core.proofs.MinimalLaws.{minimal_alone, narrowed_start, narrowed_next, narrowed_end, transition_member}
use Rattle.explain_core.proofs.minimal.minimal_failing_set.Goals as goal

pub loop-rest-init : goal.loop-rest-init
loop-rest-init g c =
    let Holds = g.I.Invariant.holds_on c.args.inv.now in
    let e : SetOfFlows = c.args.e.now in
    let f = c.args.f in
    let first : c.insert.new.self.flows ≡ f ∷ [] =
    ap (λ (s : SetOfFlows). s.flows) c.insert.ensures.set ∙ ap (λ (s : SetOfFlows). with_flow s.flows f) c.in_ok-needed.ensures in
    let downward : IsDownwardClosed e.size Holds = subst (λ n. IsDownwardClosed n Holds) (sym c.requires.size) (g.met.I.Invariant.downward c.args.inv.now) in
    record {
      needed_size = ap (λ (s : SetOfFlows). s.size) c.insert.ensures.set ∙ ap (λ (s : SetOfFlows). s.size) c.in_ok-needed.ensures ∙ c.size.ensures.size;
      rest_size = ap (λ (s : SetOfFlows). s.size) c.in_ok-rest.ensures.same;
      narrowed = subst (λ (fs : List Flow). AreNarrowed Holds (with_flow e.flows f) fs c.in_ok-rest.rest.flows) (sym first)
          (subst (λ (s : SetOfFlows). AreNarrowed Holds (with_flow e.flows f) (f ∷ []) s.flows) (sym c.in_ok-rest.ensures.same)
          (narrowed_start e.size Holds e.flows f c.size.ensures.set downward c.requires.held c.requires.fails));
      with = subst (λ (fs : List Flow). IsTrue (has fs f)) (sym first) (has_first f []);
    }

pub insert-requires-in-Some : goal.insert-requires-in-Some
insert-requires-in-Some g c =
    let Holds = g.I.Invariant.holds_on c.args.inv.now in
    let e : SetOfFlows = c.args.e.now in
    let all : IsFlowSet e.size (with_flow e.flows c.args.f) = IsFlowSet-with_flow e.size e.flows c.args.f c.size.ensures.set c.requires.flow in
    subst (λ n. IsFlow n c.in-Some.found.flow) (sym c.loop-rest.invariant.needed_size)
    (all.flows c.in-Some.found.flow
    (transition_member Holds (with_flow e.flows c.args.f) c.loop-rest.needed.flows c.loop-rest.rest.flows c.in-Some.found.before.flows c.in-Some.found.flow
    c.loop-rest.invariant.narrowed (rw c.in-Some.is at c.in_ok-found.ensures.transition)))

pub loop-rest-preserved : goal.loop-rest-preserved
loop-rest-preserved g c =
    let Holds = g.I.Invariant.holds_on c.args.inv.now in
    let e : SetOfFlows = c.args.e.now in
    let next = c.in-Some.found.flow in
    let downward : IsDownwardClosed e.size Holds = subst (λ n. IsDownwardClosed n Holds) (sym c.requires.size) (g.met.I.Invariant.downward c.args.inv.now) in
    let put : c.insert-in-Some.new.self.flows ≡ with_flow c.loop-rest.needed.flows next = ap (λ (s : SetOfFlows). s.flows) c.insert-in-Some.ensures.set in
    record {
      needed_size = ap (λ (s : SetOfFlows). s.size) c.insert-in-Some.ensures.set ∙ c.loop-rest.invariant.needed_size;
      rest_size = rw c.in-Some.is at c.in_ok-found.ensures.size ∙ c.loop-rest.invariant.rest_size;
      narrowed = subst (λ (fs : List Flow). AreNarrowed Holds (with_flow e.flows c.args.f) fs c.in-Some.found.before.flows) (sym put)
          (narrowed_next e.size Holds (with_flow e.flows c.args.f) c.loop-rest.needed.flows c.loop-rest.rest.flows c.in-Some.found.before.flows next
          (IsFlowSet-with_flow e.size e.flows c.args.f c.size.ensures.set c.requires.flow) downward
          c.loop-rest.invariant.narrowed (rw c.in-Some.is at c.in_ok-found.ensures.transition));
      with = subst (λ (fs : List Flow). IsTrue (has fs c.args.f)) (sym put) (has-with_flow c.loop-rest.needed.flows next c.args.f ∙ or_right _ _ c.loop-rest.invariant.with);
    }

pub returns-clause-set : goal.returns-clause-set
returns-clause-set g c =
    let Holds = g.I.Invariant.holds_on c.args.inv.now in
    let e : SetOfFlows = c.args.e.now in
    subst (λ n. IsFlowSet n c.loop-rest.needed.flows) (sym c.loop-rest.invariant.needed_size)
    (IsFlowSet-subset e.size c.loop-rest.needed.flows (with_flow e.flows c.args.f) (IsFlowSet-with_flow e.size e.flows c.args.f c.size.ensures.set c.requires.flow)
    (narrowed_end Holds (with_flow e.flows c.args.f) c.loop-rest.needed.flows c.loop-rest.rest.flows c.loop-rest.invariant.narrowed (rw c.in_default.is at c.in_ok-found.ensures.none)).within)

pub returns-clause-minimal : goal.returns-clause-minimal
returns-clause-minimal g c =
    let Holds = g.I.Invariant.holds_on c.args.inv.now in
    narrowed_end Holds (with_flow c.args.e.now.flows c.args.f) c.loop-rest.needed.flows c.loop-rest.rest.flows c.loop-rest.invariant.narrowed (rw c.in_default.is at c.in_ok-found.ensures.none)

pub returns-clause-least : goal.returns-clause-least
returns-clause-least g c =
    let Holds = g.I.Invariant.holds_on c.args.inv.now in
    let fails = rw c.in_default.is at c.in_ok-found.ensures.none in
    least_end Holds (with_flow c.args.e.now.flows c.args.f) c.loop-rest.needed.flows c.loop-rest.rest.flows c.loop-rest.invariant.narrowed
    (narrowed_end Holds (with_flow c.args.e.now.flows c.args.f) c.loop-rest.needed.flows c.loop-rest.rest.flows c.loop-rest.invariant.narrowed fails).within
    fails

pub returns-clause-alone : goal.returns-clause-alone
returns-clause-alone g c marked =
    let Holds = g.I.Invariant.holds_on c.args.inv.now in
    let e : SetOfFlows = c.args.e.now in
    minimal_alone e.size Holds e.flows c.loop-rest.needed.flows c.args.f
    (subst (λ n. IsEdgeWise n Holds) (sym c.requires.size) (g.met.I.Invariant.mark_is_right c.args.inv.now marked))
    c.size.ensures.set c.requires.flow c.requires.held c.requires.fails
    (narrowed_end Holds (with_flow e.flows c.args.f) c.loop-rest.needed.flows c.loop-rest.rest.flows c.loop-rest.invariant.narrowed (rw c.in_default.is at c.in_ok-found.ensures.none))
    c.loop-rest.invariant.with
