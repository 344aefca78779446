use Rattle.std.proofs.Common.{◌≡◌, ◌∙◌, ◌<◌, ◌≤◌, Bool, List, Some, arith, length, refl, subst, sym}
use Rattle.std.specs.Prelude.{slice_get}
use Rattle.std.proofs.lemmas.Option.{slice_get_read}
use Rattle.nft_rules.specs.declared.table.Rule.{Rule}
use Rattle.nft_rules.specs.Loadable.{AreRules}
use Rattle.nft_chains.specs.Translation.{chain_of, rules_of_rules}
use Rattle.nft_chains.specs.inner.Building.{Adds, table_limit}
use Rattle.nft_chains.proofs.FillLaws.{are_rules_more, first_chains, length_first, too_long}
use Rattle.nft_chains.proofs.NameLaws.{unused}
use Rattle.nft_chains.proofs.chains.filled_chains.Goals as goal

pub built_in_chains-requires : goal.built_in_chains-requires
built_in_chains-requires c =
    let table = c.args.table.now in
    subst (λ (rules : List Rule). AreRules table_limit rules) (sym c.deref.ensures.value)
    (are_rules_more (length table.chains.items) table_limit table.forward.items c.requires.few c.requires.loadable.forward)

pub add_chain-requires-clause-rules : goal.add_chain-requires-clause-rules
add_chain-requires-clause-rules c =
    let chains = c.args.table.now.chains.items in
    let place = c.loop-place.place in
    let below : place < length chains = omega (arith, c.loop-place-test.true, c.len-place-end.ensures) in
    let there : slice_get chains place ≡ Some c.index.result.now =
    slice_get_read chains (length chains) place c.index.result.now refl below c.index.ensures in
    are_rules_more place table_limit c.index.result.now.rules.items (let few = c.requires.few in omega (arith, below, few))
    (c.requires.loadable.back place c.index.result.now there)

pub add_chain-requires-clause-unused : goal.add_chain-requires-clause-unused
add_chain-requires-clause-unused c =
    let table = c.args.table.now in
    let few = c.requires.few in
    let below : c.loop-place.place < length table.chains.items = omega (arith, c.loop-place-test.true, c.len-place-end.ensures) in
    unused (rules_of_rules table.forward.items) table.chains.items c.loop-place.place c.loop-place.filled.chains (omega (arith, below))
    (omega (arith, below, few)) c.loop-place.invariant.0

pub add_chain-requires-clause-few : goal.add_chain-requires-clause-few
add_chain-requires-clause-few c =
    let table = c.args.table.now in
    let within : c.loop-place.place ≤ length table.chains.items = omega (arith, c.loop-place-test.true, c.len-place-end.ensures) in
    length_first (rules_of_rules table.forward.items) table.chains.items c.loop-place.place c.loop-place.filled.chains within c.loop-place.invariant.0

pub returns-then-not-branch-clause-many : goal.returns-then-not-branch-clause-many
returns-then-not-branch-clause-many c =
    let table = c.args.table.now in
    let old = c.loop-place.filled.chains in
    let x = c.index.result.now in
    let below : c.loop-place.place < length table.chains.items = omega (arith, c.loop-place-test.true, c.len-place-end.ensures) in
    let long = subst (λ (b : Bool). Adds old (chain_of c.loop-place.place x) c.add_chain.new.filled.chains c.add_chain.new.filled.count b)
    c.if-not-branch.true c.in_ok-add_chain.ensures in
    too_long (rules_of_rules table.forward.items) table.chains.items c.loop-place.place x old below c.index.ensures c.loop-place.invariant.0 long

pub loop-place-preserved : goal.loop-place-preserved
loop-place-preserved c =
    let table = c.args.table.now in
    let old = c.loop-place.filled.chains in
    let x = c.index.result.now in
    let below : c.loop-place.place < length table.chains.items = omega (arith, c.loop-place-test.true, c.len-place-end.ensures) in
    let added = subst (λ (b : Bool). Adds old (chain_of c.loop-place.place x) c.add_chain.new.filled.chains c.add_chain.new.filled.count b)
    c.if-not-branch.false c.in_ok-add_chain.ensures in (
      added.0 ∙ first_chains (rules_of_rules table.forward.items) table.chains.items c.loop-place.place x old below c.index.ensures c.loop-place.invariant.0,
      added.1,
    )
