use Rattle.std.proofs.Common.{◌≡◌, ◌<◌, ◌^◌, ◌∙◌, length, ap, arith, sym, true≢false}
use Rattle.ipt_rules.specs.ChainTable.{rule_count}
use Rattle.ipt_rules.proofs.NextLemmas.{chain_few}
use Rattle.ipt_rules.proofs.RuleLemmas.{length-all_rules}
use Rattle.pass_core.specs.inner.Meeting.{IsUnmarked}
use Rattle.pass_core.proofs.PlaceLaws.{passes_place, pushes}
use Rattle.pass_core.proofs.dead.push_unmarked.Goals as goal
use Rattle.pass_core.proofs.dead.push_unmarked.Goals.{then-not-is_marked+in_ok-push, else-not-is_marked}

pub overflow_cast-place : goal.overflow_cast-place
overflow_cast-place c =
    let few = chain_few c.args.rules.now c.args.chain in
    let same = ap length c.rules_in-count.ensures in
    let count : c.rules-count.result ≡ rule_count c.args.rules.now = c.rules-count.ensures.count ∙ length-all_rules c.args.rules.now in
    let small : c.rules-count.result < 2 ^ 32 = c.rules-count.type_inv in
    omega (arith, few, same, count, small, c.loop-rule-test.true)

pub loop-rule-preserved : goal.loop-rule-preserved
loop-rule-preserved c =
    let Holds = IsUnmarked c.args.rules.now c.args.marks.now in
    let same = ap length c.rules_in-count.ensures in
    elim c.if-not-is_marked.branch [
      | then-not-is_marked+in_ok-push w ↦
          pushes Holds c.loop-rule.places.items c.if-not-is_marked.places.items c.args.chain c.loop-rule.rule (
            record {
              there = omega (arith, same, c.loop-rule-test.true);
              not_input = c.if-chain-eq-INPUT.false;
              not_output = c.if-chain-eq-OUTPUT.false;
            },
            sym c.is_marked.ensures ∙ w.if-not-is_marked.true,
          )
          ((λ i. (w.places-is i).items) ∙ w.in_ok-push.ensures.items) c.loop-rule.invariant
      | else-not-is_marked w ↦
          rw w.places-is
          (passes_place Holds c.loop-rule.places.items c.args.chain c.loop-rule.rule
          (λ is. true≢false (sym w.if-not-is_marked.false ∙ c.is_marked.ensures ∙ is.1)) c.loop-rule.invariant)
    ]
