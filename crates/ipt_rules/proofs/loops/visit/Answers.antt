use Rattle.std.proofs.Common.{◌<◌, ◌∙◌, ap, length, get_or, arith}
use Rattle.std.proofs.lemmas.List.Elements.{All-get_or}
use Rattle.ipt_rules.proofs.SearchLemmas.{row_seen, row_new}
use Rattle.ipt_rules.proofs.loops.visit.Goals as goal
use Rattle.ipt_rules.proofs.loops.visit.Goals.{then-not-index+in_ok-push, else-not-index}

pub loop-chain-preserved : goal.loop-chain-preserved
loop-chain-preserved c =
    let inside : get_or c.args.row.now c.loop-chain.chain-index 0 < length c.args.seen.now.items = All-get_or (λ d. d < length c.args.seen.now.items) c.args.row.now c.loop-chain.chain-index 0 c.loop-chain-test.true c.requires.inside in
    let there : get_or c.args.row.now c.loop-chain.chain-index 0 < length c.loop-chain.seen.items = omega (arith, inside, c.loop-chain.invariant.long) in
    elim c.if-not-index.branch [
      | then-not-index+in_ok-push w ↦
          row_new c.args.row.now c.loop-chain.chain-index c.args.seen.now.items c.args.left.now.items c.loop-chain.seen.items c.loop-chain.left.items c.if-not-index.seen.items c.if-not-index.left.items c.index.result.now
          c.loop-chain-test.true c.loop-chain.invariant there c.index.ensures w.if-not-index.true (ap (λ v. v.items) w.seen-is) (ap (λ v. v.items) w.left-is ∙ w.in_ok-push.ensures.items)
      | else-not-index w ↦
          row_seen c.args.row.now c.loop-chain.chain-index c.args.seen.now.items c.args.left.now.items c.loop-chain.seen.items c.loop-chain.left.items c.if-not-index.seen.items c.if-not-index.left.items c.index.result.now
          c.loop-chain-test.true c.loop-chain.invariant there c.index.ensures w.if-not-index.false (ap (λ v. v.items) w.seen-is) (ap (λ v. v.items) w.left-is)
    ]
