use Rattle.std.proofs.Common.{◌≡◌, ◌<◌, ◌^◌, List, Some, arith, length, refl, subst, sym}
use Rattle.std.specs.Prelude.{slice_get}
use Rattle.std.proofs.lemmas.Option.{slice_get_read}
use Rattle.nft_rules.specs.declared.table.Rule.{Rule}
use Rattle.nft_chains.specs.Translation.{rules_of_rules}
use Rattle.nft_chains.proofs.JumpLaws.{length-chains_of}
use Rattle.nft_flows.specs.inner.ChainRules.{HaveChainRules}
use Rattle.nft_flows.proofs.SpanLaws.{chain_rules_few, rules_have_chain_rules}
use Rattle.nft_flows.proofs.span.spans_of.Goals as goal

pub push_rules-requires-clause-rules : goal.push_rules-requires-clause-rules
push_rules-requires-clause-rules c =
    let table = c.args.table.now in
    subst HaveChainRules (sym c.deref.ensures.value) (rules_have_chain_rules (length table.chains.items) table.forward.items c.requires.loadable.forward)

pub push_rules-requires-in-loop-index-clause-chain : goal.push_rules-requires-in-loop-index-clause-chain
push_rules-requires-in-loop-index-clause-chain c =
    omega (arith, c.loop-index-test.true, c.len-index-end.ensures, c.requires.chains, length-chains_of c.args.table.now)

pub push_rules-requires-in-loop-index-clause-rules : goal.push_rules-requires-in-loop-index-clause-rules
push_rules-requires-in-loop-index-clause-rules c =
    let chains = c.args.table.now.chains.items in
    let low : c.loop-index.index < length chains = omega (arith, c.loop-index-test.true, c.len-index-end.ensures) in
    let there : slice_get chains c.loop-index.index ≡ Some c.index.result.now =
    slice_get_read chains (length chains) c.loop-index.index c.index.result.now refl low c.index.ensures in
    subst HaveChainRules (sym c.deref-in-loop-index.ensures.value)
    (rules_have_chain_rules c.loop-index.index c.index.result.now.rules.items (c.requires.loadable.back c.loop-index.index c.index.result.now there))

pub push_rules-requires-in-loop-index-clause-few : goal.push_rules-requires-in-loop-index-clause-few
push_rules-requires-in-loop-index-clause-few c =
    let chains = c.args.table.now.chains.items in
    let low : c.loop-index.index < length chains = omega (arith, c.loop-index-test.true, c.len-index-end.ensures) in
    let there : slice_get chains c.loop-index.index ≡ Some c.index.result.now =
    slice_get_read chains (length chains) c.loop-index.index c.index.result.now refl low c.index.ensures in
    subst (λ (rules : List Rule). length (rules_of_rules rules) < 2 ^ 32) (sym c.deref-in-loop-index.ensures.value)
    (chain_rules_few c.args.table.now c.loop-index.index c.index.result.now (2 ^ 32) there c.requires.rules)
