use Rattle.std.proofs.Common.{◌≡◌, ◌++◌, ◌-◌, ℕ, List, Option, drop, sym, subst, take, arith}
use Rattle.std.specs.Prelude.{IsSome}
use Rattle.std.specs.List.{All}
use Rattle.std.proofs.lemmas.List.{take_all}
use Rattle.ipt_rules.specs.declared.rule.Rule.{Rule}
use Rattle.ipt_rules.proofs.WalkingLemmas.{shallow_some, shallow_there}
use Rattle.packet_set.proofs.BranchLaws.{keeps_both}
use Rattle.packet_set.specs.declared.node.Node.{Node}
use Rattle.packet_set.specs.Sets.{Keeps}
use Rattle.rules_set.specs.declared.effect.Effect.{Effect}
use Rattle.rules_set.specs.inner.Effects.{IsEffect}
use Rattle.rules_set.specs.inner.Known.{JumpsShallow, KnowsMore, effect_at}
use Rattle.rules_set.proofs.EffectLaws.{effect_still}
use Rattle.rules_set.proofs.KnownLaws.{effect_all, effect_part, known_more, known_still, leads_step, part_within, shallow_rules, some_at, still_some}
use Rattle.rules_set.proofs.known.+learn.Goals.{learn_targets-in-Jump+in_ok-learn, learn_targets-in_default}
use Rattle.rules_set.proofs.known.+learn.Goals as goal

pub effect_in_order-decides_all-requires-clause-sets : goal.effect_in_order-decides_all-requires-clause-sets
effect_in_order-decides_all-requires-clause-sets t c =
    let chains = c.args.traversal.now.rules.now in
    let first = take c.loop-done.done c.args.rules.now in
    let before =
    effect_still c.loop-done.diagrams c.learn_targets.new.diagrams chains c.args.traversal.now.state c.args.traversal.now.within first c.loop-done.effect
    c.in_ok-learn_targets.ensures.keeps c.loop-done.invariant.effect in
    (c.in_ok-effect.ensures.effect first before).sets

pub effect_in_order-loop-done-preserved-then-all : goal.effect_in_order-loop-done-preserved-then-all
effect_in_order-loop-done-preserved-then-all t c =
    let chains = c.args.traversal.now.rules.now in
    let state = c.args.traversal.now.state in
    let b = c.args.traversal.now.within in
    let rules = c.args.rules.now in
    let first = take c.loop-done.done rules in
    let mid = c.learn_targets.new.diagrams in
    let with = c.with_rules.new.diagrams in
    let new = c.decides_all.new.diagrams in
    let inv = c.loop-done.invariant in
    let learnt = c.in_ok-learn_targets.ensures in
    let before = effect_still c.loop-done.diagrams mid chains state b first c.loop-done.effect learnt.keeps inv.effect in
    record {
      within = omega arith;
      keeps = keeps_both _ _ _ (keeps_both _ _ _ (keeps_both _ _ _ inv.keeps learnt.keeps) c.in_ok-effect.ensures.keeps) c.in_ok-all.ensures.keeps;
      known = known_still mid new chains state b c.learn_targets.new.known (keeps_both _ _ _ c.in_ok-effect.ensures.keeps c.in_ok-all.ensures.keeps) learnt.known;
      more = λ d is. learnt.more d (inv.more d is);
      effect = effect_all with new chains state b rules c.loop-done.done c.end_of_part.result c.in_ok-effect.effect c.count-count.ensures.deterministic
          c.in_ok-all.ensures.keeps (c.in_ok-all.ensures.all c.if-all.true) (c.in_ok-effect.ensures.effect first before);
    }

pub effect_in_order-loop-done-preserved : goal.effect_in_order-loop-done-preserved
effect_in_order-loop-done-preserved t c =
    let chains = c.args.traversal.now.rules.now in
    let state = c.args.traversal.now.state in
    let b = c.args.traversal.now.within in
    let rules = c.args.rules.now in
    let first = take c.loop-done.done rules in
    let mid = c.learn_targets.new.diagrams in
    let with = c.with_rules.new.diagrams in
    let new = c.decides_all.new.diagrams in
    let inv = c.loop-done.invariant in
    let learnt = c.in_ok-learn_targets.ensures in
    let before = effect_still c.loop-done.diagrams mid chains state b first c.loop-done.effect learnt.keeps inv.effect in
    let e = c.in_ok-effect.effect in
    let end = c.end_of_part.result in
    record {
      within = part_within rules c.loop-done.done end c.end_of_part.ensures.after c.end_of_part.ensures.within;
      keeps = keeps_both _ _ _ (keeps_both _ _ _ (keeps_both _ _ _ inv.keeps learnt.keeps) c.in_ok-effect.ensures.keeps) c.in_ok-all.ensures.keeps;
      known = known_still mid new chains state b c.learn_targets.new.known (keeps_both _ _ _ c.in_ok-effect.ensures.keeps c.in_ok-all.ensures.keeps) learnt.known;
      more = λ d is. learnt.more d (inv.more d is);
      effect = effect_part new chains state b rules c.loop-done.done end e c.end_of_part.ensures.after c.end_of_part.ensures.within
          (effect_still with new chains state b (first ++ take (end - c.loop-done.done) (drop c.loop-done.done rules)) e c.in_ok-all.ensures.keeps
          (c.in_ok-effect.ensures.effect first before));
    }

pub learn-effect_in_order-requires : goal.learn-effect_in_order-requires
learn-effect_in_order-requires t c =
    let chains = c.args.traversal.now.rules.now in
    let some = shallow_some chains c.args.depth c.args.number c.requires.shallow in (
      omega (arith, some, c.decreases),
      (
        subst (λ (rs : List Rule). All (JumpsShallow chains (c.args.depth - 1)) rs) (sym c.rules_in-rules.ensures)
            (shallow_rules chains c.args.depth c.args.number c.requires.shallow),
        (c.requires.room, (c.requires.area, c.requires.known)),
      ),
    )

pub learn-returns-clause-known : goal.learn-returns-clause-known
learn-returns-clause-known t c =
    let chains = c.args.traversal.now.rules.now in
    let state = c.args.traversal.now.state in
    let b = c.args.traversal.now.within in
    let new = c.effect_in_order.new.diagrams in
    let e = c.in_ok-effect.effect in
    known_more new chains state b c.effect_in_order.new.known c.args.number e c.in_ok-effect.ensures.known
    (subst (λ (rs : List Rule). IsEffect new chains state b rs e) c.rules_in-rules.ensures c.in_ok-effect.ensures.effect)

pub learn-returns-clause-more : goal.learn-returns-clause-more
learn-returns-clause-more t c = λ d is.
    still_some c.effect_in_order.new.known c.args.number d c.in_ok-effect.effect (c.in_ok-effect.ensures.more d is)

pub learn-returns-clause-chain : goal.learn-returns-clause-chain
learn-returns-clause-chain t c =
    let there = shallow_there c.args.traversal.now.rules.now c.args.depth c.args.number c.requires.shallow in
    let room = c.requires.room in
    let same = c.effect_in_order.auto.known in
    some_at c.effect_in_order.new.known c.args.number c.in_ok-effect.effect (omega (arith, there, room, same))

pub learn_targets-loop-rule-preserved : goal.learn_targets-loop-rule-preserved
learn_targets-loop-rule-preserved t c =
    let rules = c.args.rules.now in
    let at = c.loop-rule.rule-index in
    let r = c.rule-item.result in
    let inv = c.loop-rule.invariant in
    elim c.match-rule.branch [
      | learn_targets-in-Jump+in_ok-learn w ↦
          let new = w.in_ok-learn.ensures in
          let more : KnowsMore c.loop-rule.known c.match-rule.known = subst (λ (xs : List (Option Effect)). KnowsMore c.loop-rule.known xs) (sym w.known-is) new.more in
          record {
            keeps = subst (λ (nodes : List Node). Keeps c.args.diagrams.now nodes) (sym w.diagrams-is) (keeps_both _ _ _ inv.keeps new.keeps);
            known = rw (w.diagrams-is, w.known-is) new.known;
            more = λ d is. more d (inv.more d is);
            jumps = leads_step c.loop-rule.known c.match-rule.known rules at r c.loop-rule-test.true c.rule-item.is more inv.jumps
                (λ d jump. let same : w.in-Jump.chain ≡ d = cc in
                rw w.known-is (subst (λ (n : ℕ). IsSome (effect_at w.learn.new.known n)) same new.chain));
          }
      | learn_targets-in_default w ↦
          let more : KnowsMore c.loop-rule.known c.match-rule.known = λ d is. rw w.known-is is in
          record {
            keeps = rw w.diagrams-is inv.keeps;
            known = rw (w.diagrams-is, w.known-is) inv.known;
            more = λ d is. more d (inv.more d is);
            jumps = leads_step c.loop-rule.known c.match-rule.known rules at r c.loop-rule-test.true c.rule-item.is more inv.jumps
                (λ d jump. absurd (w.in_default.not-Jump d jump));
          }
    ]

pub learn_targets-returns-clause-targets : goal.learn_targets-returns-clause-targets
learn_targets-returns-clause-targets t c = rw (take_all c.loop-rule.rule-index c.args.rules.now c.loop-rule-test.false) at c.loop-rule.invariant.jumps
