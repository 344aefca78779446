use Rattle.std.proofs.Common.{◌∙◌, ◌+◌, ℕ, List, Vec, Global, map, drop, sym, ap}
use Rattle.nft_rules.specs.declared.table.Chain.{Chain}
use Rattle.nft_space.specs.inner.Checks.{are_distinct}
use Rattle.nft_space.proofs.CheckLaws.{seen_again, seen_first}
use Rattle.nft_space.proofs.LoopLaws.{drop_item}
use Rattle.nft_space.proofs.check.are_distinct.Goals as goal

pub returns-then-not-branch : goal.returns-then-not-branch
returns-then-not-branch c =
    let chains = c.args.chains.now in
    seen_again c.loop-chain.seen.keys c.in_ok-name.name c.chain-item.result (drop (c.loop-chain.chain-index + 1) chains) c.in_ok-insert.field-0
    (c.in_ok-name.ensures.items ∙ c.deref.ensures.value) c.in_ok-insert.ensures.added c.if-not-branch.true
    ∙ ap (λ (xs : List Chain). are_distinct (map (λ (k : Vec ℕ Global). k.items) c.loop-chain.seen.keys) xs)
    (sym (drop_item chains c.loop-chain.chain-index c.chain-item.result c.loop-chain-test.true c.chain-item.is))
    ∙ c.loop-chain.invariant

pub loop-chain-preserved : goal.loop-chain-preserved
loop-chain-preserved c =
    let chains = c.args.chains.now in
    ap (λ (ks : List (Vec ℕ Global)). are_distinct (map (λ (k : Vec ℕ Global). k.items) ks) (drop (c.loop-chain.chain-index + 1) chains)) c.in_ok-insert.ensures.keys
    ∙ seen_first c.loop-chain.seen.keys c.in_ok-name.name c.chain-item.result (drop (c.loop-chain.chain-index + 1) chains) c.in_ok-insert.field-0
    (c.in_ok-name.ensures.items ∙ c.deref.ensures.value) c.in_ok-insert.ensures.added c.if-not-branch.false
    ∙ ap (λ (xs : List Chain). are_distinct (map (λ (k : Vec ℕ Global). k.items) c.loop-chain.seen.keys) xs)
    (sym (drop_item chains c.loop-chain.chain-index c.chain-item.result c.loop-chain-test.true c.chain-item.is))
    ∙ c.loop-chain.invariant
