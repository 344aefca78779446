use Rattle.std.proofs.Common.{◌∙◌, sym, arith, true≢false}
use Rattle.pass_core.proofs.PlaceLaws.{passes_chain, passes_place, pushes}
use Rattle.decide_core.specs.inner.Marked.{IsMarked}
use Rattle.decide_core.proofs.MarkedLemmas.{marked_rules}
use Rattle.decide_core.proofs.marked.push_marked.Goals as goal
use Rattle.decide_core.proofs.marked.push_marked.Goals.{then-is_marked+in_ok-push, else-is_marked}

pub loop-rule-preserved : goal.loop-rule-preserved
loop-rule-preserved c =
    let Holds = IsMarked c.args.marks.now in
    elim c.if-is_marked.branch [
      | then-is_marked+in_ok-push w ↦
          pushes Holds c.loop-rule.places.items c.if-is_marked.places.items c.args.chain c.loop-rule.rule (sym c.is_marked.ensures ∙ w.if-is_marked.true)
          ((λ i. (w.places-is i).items) ∙ w.in_ok-push.ensures.items) c.loop-rule.invariant
      | else-is_marked w ↦
          rw w.places-is
          (passes_place Holds c.loop-rule.places.items c.args.chain c.loop-rule.rule
          (λ on. true≢false (sym on ∙ sym c.is_marked.ensures ∙ w.if-is_marked.false)) c.loop-rule.invariant)
    ]

pub returns : goal.returns
returns c =
    passes_chain (IsMarked c.args.marks.now) c.loop-rule.places.items c.args.chain c.loop-rule.rule
    (marked_rules c.args.marks.now c.args.chain c.loop-rule.rule (omega (arith, c.requires.count, c.loop-rule-test.false))) c.loop-rule.invariant
