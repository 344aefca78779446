use Rattle.std.proofs.Common.{◌≡◌, inl, inr, ◌≤◌, length, Bool, ap, arith, refl, sym, subst, ◌∙◌, true, Some, None, List}
use Rattle.std.specs.Prelude.{◌&&◌}
use Rattle.host_net.specs.declared.packet.Verdict.{Verdict}
use Rattle.host_net.specs.declared.packet.Verdict.TheVariants.{Forward as Forwarded, Drop as Dropped}
use Rattle.ipt_rules.specs.declared.rule.Rule.{Rule}
use Rattle.ipt_rules.specs.Chain.{rules_of}
use Rattle.ipt_rules.specs.Semantics.{Ends, step_of}
use Rattle.ipt_rules.proofs.WalkingLemmas.{shallow_some}
use Rattle.packet_set.specs.Nodes.{has}
use Rattle.packet_set.proofs.BranchLaws.{keeps_both}
use Rattle.packet_set.proofs.KeptLaws.{keeps_self}
use Rattle.rules_set.specs.declared.met.Flow.{Flow}
use Rattle.rules_set.specs.inner.Walks.{AreFlowSets, IsPassed}
use Rattle.rules_set.proofs.WalkLaws.{flow_still, both_same, idle, met_is, passed_ends, passed_jumps, passed_returns, rule_is, rule_shallow, stepped, way_all, with_false}
use Rattle.rules_set.proofs.met.+walk.Goals as goal

pub passed-returns-in_ok-left-in-Accept-clause-passed : goal.passed-returns-in_ok-left-in-Accept-clause-passed
passed-returns-in_ok-left-in-Accept-clause-passed t c =
    let old = c.args.diagrams.now in
    let new = c.combine.new.self in
    let keeps = c.in_ok-left-in-Accept.ensures.keeps in
    let set = c.in_ok-left-in-Accept.ensures.set in
    let after : Flow = record { left = c.in_ok-left-in-Accept.left; returned = c.args.flow.returned } in
    let sets : AreFlowSets new after = record { left = set.there; returned = (flow_still old new c.args.flow keeps c.requires.flow).returned } in
    let ends : (v : Verdict) → step_of true c.args.target ≡ Ends (Some v)
    → IsPassed old new c.args.entering.now.rules.now c.args.entering.now.state c.args.entering.now.within c.args.target c.args.met c.args.flow c.args.sets.now.items c.args.sets.now.items after =
    λ v is.
    passed_ends old c.args.entering.now.rules.now c.args.entering.now.state c.args.entering.now.within c.args.target c.args.met c.args.flow c.args.sets.now.items
    c.requires.flow c.requires.met c.requires.sets new keeps (Some v) is after set.exact v refl refl sets in
    elim c.in-Accept.is [
      | inl accept ↦ ends Forwarded (ap (step_of true) accept)
      | inr other ↦ elim other [ inl drops ↦ ends Dropped (ap (step_of true) drops) | inr rejects ↦ ends Dropped (ap (step_of true) rejects) ]
    ]

pub passed-returns-in_ok-returned-in-Return-clause-passed : goal.passed-returns-in_ok-returned-in-Return-clause-passed
passed-returns-in_ok-returned-in-Return-clause-passed t c =
    let old = c.args.diagrams.now in
    let mid = c.combine-in-Return.new.self in
    let new = c.combine-in-Return-2.new.self in
    let first = c.in_ok-left-in-Return.ensures in
    let second = c.in_ok-returned-in-Return.ensures in
    let a = first.set.there in
    let b = second.keeps.longer in
    let after : Flow = record { left = c.in_ok-left-in-Return.left; returned = c.in_ok-returned-in-Return.returned } in
    passed_returns old c.args.entering.now.rules.now c.args.entering.now.state c.args.entering.now.within c.args.target c.args.met c.args.flow c.args.sets.now.items
    c.requires.flow c.requires.met c.requires.sets new (keeps_both old mid new first.keeps second.keeps) None (ap (step_of true) c.in-Return.is) after
    (λ p. second.keeps.same c.in_ok-left-in-Return.left first.set.there p ∙ first.set.exact p) refl
    (record { left = omega (arith, a, b); returned = second.set.there })
    (λ p. second.set.exact p ∙ both_same (first.keeps.same c.args.flow.returned c.requires.flow.returned p) (first.keeps.same c.args.met c.requires.met p))

pub passed-returns-in_ok-left-in-Jump-2-clause-passed : goal.passed-returns-in_ok-left-in-Jump-2-clause-passed
passed-returns-in_ok-left-in-Jump-2-clause-passed t c =
    passed_jumps c.args.diagrams.now c.args.entering.now.rules.now c.args.entering.now.state c.args.entering.now.within c.args.target c.args.met c.args.flow
    c.args.sets.now.items c.requires.flow c.requires.met c.requires.sets c.in-Jump.chain c.combine-in-Jump.new.self c.walk.new.diagrams c.combine-in-Jump-2.new.self
    c.in_ok-left-in-Jump.left c.in_ok-back-in-Jump.back c.walk.new.sets.items (record { left = c.in_ok-left-in-Jump-2.left; returned = c.args.flow.returned }) c.in-Jump.is c.requires.part c.in_ok-left-in-Jump.ensures.keeps
    c.in_ok-back-in-Jump.ensures.keeps c.in_ok-left-in-Jump-2.ensures.keeps c.in_ok-left-in-Jump.ensures.set c.in_ok-back-in-Jump.ensures.sets
    c.in_ok-back-in-Jump.ensures.walked c.in_ok-left-in-Jump-2.ensures.set refl

pub step-returns-in_default-clause-stepped : goal.step-returns-in_default-clause-stepped
step-returns-in_default-clause-stepped t c =
    let old = c.args.diagrams.now in
    let state = c.args.entering.now.state in
    let r = c.args.rule.now in
    idle old old c.args.entering.now.rules.now state c.args.entering.now.within c.args.place r c.args.flow c.args.sets.now.items (keeps_self old)
    c.requires.flow c.requires.sets
    (λ p inside. ap (λ (x : Bool). has old c.args.flow.left p && x) (c.header_of.ensures.none c.in_default.is p inside) ∙ with_false (has old c.args.flow.left p))

pub step-returns-then-is_empty-2-clause-stepped : goal.step-returns-then-is_empty-2-clause-stepped
step-returns-then-is_empty-2-clause-stepped t c =
    let old = c.args.diagrams.now in
    let mid = c.matching.new.self in
    let new = c.combine.new.self in
    let state = c.args.entering.now.state in
    let r = c.args.rule.now in
    let one = c.in_ok-fitting.ensures in
    let two = c.in_ok-met.ensures in
    idle old new c.args.entering.now.rules.now state c.args.entering.now.within c.args.place r c.args.flow c.args.sets.now.items (keeps_both old mid new one.keeps two.keeps)
    c.requires.flow c.requires.sets
    (λ p inside. sym (met_is (one.keeps.same c.args.flow.left c.requires.flow.left p) (one.set.exact p) (c.in-Some.ensures.header p inside) (two.set.exact p))
    ∙ c.is_empty-2.ensures c.if-is_empty-2.true p)

pub step-returns-clause-stepped : goal.step-returns-clause-stepped
step-returns-clause-stepped t c =
    let old = c.args.diagrams.now in
    let mid = c.matching.new.self in
    let new = c.combine.new.self in
    let state = c.args.entering.now.state in
    let r = c.args.rule.now in
    let one = c.in_ok-fitting.ensures in
    let two = c.in_ok-met.ensures in
    stepped old new c.args.entering.now.rules.now state c.args.entering.now.within c.args.place r c.args.flow c.args.sets.now.items (keeps_both old mid new one.keeps two.keeps)
    c.requires.flow c.requires.sets c.passed.new.diagrams (record { place = c.args.place; ends = c.is_verdict.result; set = c.in_ok-met.met }) c.push.new.self.items
    c.passed.new.sets.items c.in_ok-after.after
    (λ p inside. met_is (one.keeps.same c.args.flow.left c.requires.flow.left p) (one.set.exact p) (c.in-Some.ensures.header p inside) (two.set.exact p))
    refl c.in_ok-push.ensures.items c.in_ok-after.ensures.passed

pub walk-step-requires : goal.walk-step-requires
walk-step-requires t c =
    let chains = c.args.entering.now.rules.now in
    let rs = c.rules_in-rules.result.now in
    let n = c.loop-number.number in
    let r = c.index-rules-number.result in
    let some = shallow_some chains c.args.depth c.args.chain c.requires.shallow in (
      omega (arith, some, c.decreases),
      (
        rule_is rs (rules_of chains c.args.chain) n r r c.rules_in-rules.ensures c.loop-number-test.true c.index-rules-number.is,
        (
          rule_shallow chains c.args.depth c.args.chain rs n r r c.rules_in-rules.ensures c.loop-number-test.true c.index-rules-number.is c.requires.shallow,
          (c.loop-number.invariant.way.sets, c.loop-number.invariant.sets),
        ),
      ),
    )

pub walk-returns-clause-walked : goal.walk-returns-clause-walked
walk-returns-clause-walked t c =
    let chains = c.args.entering.now.rules.now in
    way_all c.args.diagrams.now chains c.args.entering.now.state c.args.entering.now.within c.args.chain c.args.incoming c.args.sets.now.items
    c.loop-number.diagrams c.combine.new.self c.loop-number.number c.in_ok-back.back c.loop-number.sets.items c.loop-number.flow
    (subst (λ (rs : List Rule). length rs ≤ c.loop-number.number) c.rules_in-rules.ensures c.loop-number-test.false) c.loop-number.invariant.sets
    c.in_ok-back.ensures.keeps c.loop-number.invariant.way c.in_ok-back.ensures.set
