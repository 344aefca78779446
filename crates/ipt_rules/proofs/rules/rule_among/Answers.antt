use Rattle.std.proofs.Common.{◌≡◌, ◌+◌, ◌-◌, ◌<◌, arith, ap, length, get_or, take, subst, sym, ◌∙◌, ℕ, List}
use Rattle.std.specs.List.Sorted.{IsNonDecreasingBy}
use Rattle.ipt_rules.specs.ChainTable.{rule_count}
use Rattle.ipt_rules.proofs.RuleLemmas.{rule_there, some_chain, within_chain}
use Rattle.ipt_rules.proofs.StartLemmas.{length-starts, start_at, starts_rise}
use Rattle.ipt_rules.proofs.rules.rule_among.Goals as goal

pub chain_at-place-requires-clause-rising : goal.chain_at-place-requires-clause-rising
chain_at-place-requires-clause-rising c =
    subst (λ (starts : List ℕ). IsNonDecreasingBy (λ n. n) starts) (sym c.requires.starts) (starts_rise c.args.chains.now)

pub chain_at-place-requires-clause-some : goal.chain_at-place-requires-clause-some
chain_at-place-requires-clause-some c =
    omega (arith, some_chain c.args.chains.now c.args.number c.requires.there, ap length c.requires.starts, length-starts 0 c.args.chains.now)

pub chain_at-place-requires-clause-first : goal.chain_at-place-requires-clause-first
chain_at-place-requires-clause-first c =
    let zero : get_or c.args.starts.now 0 0 ≡ 0 + rule_count (take 0 c.args.chains.now) =
    ap (λ (starts : List ℕ). get_or starts 0 0) c.requires.starts ∙ start_at 0 c.args.chains.now 0 0 (some_chain c.args.chains.now c.args.number c.requires.there) in
    omega (arith, zero)

pub bounds-chains-place : goal.bounds-chains-place
bounds-chains-place c =
    omega (arith, c.chain_at-place.ensures.there, ap length c.requires.starts, length-starts 0 c.args.chains.now)

pub offset_bounds-chains-place : goal.offset_bounds-chains-place
offset_bounds-chains-place c =
    omega (arith, c.chain_at-place.ensures.there, ap length c.requires.starts, length-starts 0 c.args.chains.now, c.requires.few)

pub bounds-rules-number : goal.bounds-rules-number
bounds-rules-number c =
    omega (
      arith,
      ap length c.rules-rules.ensures,
      within_chain c.args.chains.now c.args.starts.now c.chain_at-place.result c.args.number c.index-chains-place.result c.requires.starts
          (omega (arith, c.chain_at-place.ensures.there, ap length c.requires.starts, length-starts 0 c.args.chains.now)) c.index-chains-place.is
          c.chain_at-place.ensures.begun (λ more. c.chain_at-place.ensures.last (omega (arith, more, ap length c.requires.starts, length-starts 0 c.args.chains.now)))
          c.requires.there,
    )

pub returns : goal.returns
returns c =
    let within : c.args.number - get_or c.args.starts.now c.chain_at-place.result 0 < length c.rules-rules.result.now =
    omega (
      arith,
      ap length c.rules-rules.ensures,
      within_chain c.args.chains.now c.args.starts.now c.chain_at-place.result c.args.number c.index-chains-place.result c.requires.starts
          (omega (arith, c.chain_at-place.ensures.there, ap length c.requires.starts, length-starts 0 c.args.chains.now)) c.index-chains-place.is
          c.chain_at-place.ensures.begun (λ more. c.chain_at-place.ensures.last (omega (arith, more, ap length c.requires.starts, length-starts 0 c.args.chains.now)))
          c.requires.there,
    ) in
    rule_there c.args.chains.now c.args.starts.now c.chain_at-place.result c.args.number c.index-chains-place.result c.rules-rules.result.now c.index-rules-number.result
    c.requires.starts (omega (arith, c.chain_at-place.ensures.there, ap length c.requires.starts, length-starts 0 c.args.chains.now)) c.index-chains-place.is c.rules-rules.ensures
    c.chain_at-place.ensures.begun within c.index-rules-number.is
