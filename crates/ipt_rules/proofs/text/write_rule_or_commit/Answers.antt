use Rattle.std.proofs.Common.{◌≡◌, ◌+◌, ◌-◌, ◌<◌, ◌≤◌, sym, ap, subst, ◌∙◌, arith, length, take, drop, get_or, inl, inr, List, ℕ, Some}
use Rattle.std.specs.List.Sorted.{IsNonDecreasingBy}
use Rattle.std.proofs.lemmas.Bool.{cases_lt}
use Rattle.ipt_rules.specs.ChainTable.{rule_count}
use Rattle.ipt_rules.specs.inner.RuleParts.{is_rule}
use Rattle.ipt_rules.specs.Text.{rule_line}
use Rattle.ipt_rules.proofs.TextLemmas.{rule_there, rule_later, commit_there, jump_in, rest_lines, rule_in}
use Rattle.ipt_rules.proofs.BuildLemmas.{rules_left}
use Rattle.ipt_rules.proofs.StartLemmas.{length-starts, start_at, starts_rise, count_next, count_split, begins, line_from}
use Rattle.ipt_rules.proofs.text.write_rule_or_commit.Goals as goal

pub chain_at-place-requires-clause-rising : goal.chain_at-place-requires-clause-rising
chain_at-place-requires-clause-rising c =
    subst (λ (starts : List ℕ). IsNonDecreasingBy (λ n. n) starts) (sym c.requires.starts) (starts_rise c.args.chains.now)

pub chain_at-place-requires-clause-some : goal.chain_at-place-requires-clause-some
chain_at-place-requires-clause-some c =
    omega (arith, c.requires.some, ap length c.requires.starts, length-starts 0 c.args.chains.now)

pub chain_at-place-requires-clause-first : goal.chain_at-place-requires-clause-first
chain_at-place-requires-clause-first c =
    let zero : get_or c.args.starts.now 0 0 ≡ 0 + rule_count (take 0 c.args.chains.now) =
    ap (λ (starts : List ℕ). get_or starts 0 0) c.requires.starts ∙ start_at 0 c.args.chains.now 0 0 c.requires.some in
    omega (arith, zero)

pub bounds-chains-place : goal.bounds-chains-place
bounds-chains-place c =
    omega (arith, c.chain_at-place.ensures.there, ap length c.requires.starts, length-starts 0 c.args.chains.now)

pub offset_bounds-chains-place : goal.offset_bounds-chains-place
offset_bounds-chains-place c =
    omega (arith, c.chain_at-place.ensures.there, ap length c.requires.starts, length-starts 0 c.args.chains.now, c.requires.few)

pub write_rule_line-requires-clause-jump : goal.write_rule_line-requires-clause-jump
write_rule_line-requires-clause-jump c =
    jump_in c.args.chains.now c.chain_at-place.result c.index-chains-place.result c.rules-rules.result.now (c.args.number - get_or c.args.starts.now c.chain_at-place.result 0) c.index-rules-left.result c.requires.jumps
    (omega (arith, c.chain_at-place.ensures.there, ap length c.requires.starts, length-starts 0 c.args.chains.now)) c.index-chains-place.is c.rules-rules.ensures c.if-left-rules.true c.index-rules-left.is

pub write_rule_line-requires-clause-parts : goal.write_rule_line-requires-clause-parts
write_rule_line-requires-clause-parts c =
    rule_in is_rule c.args.chains.now c.chain_at-place.result c.index-chains-place.result c.rules-rules.result.now (c.args.number - get_or c.args.starts.now c.chain_at-place.result 0) c.index-rules-left.result c.requires.parts
    (omega (arith, c.chain_at-place.ensures.there, ap length c.requires.starts, length-starts 0 c.args.chains.now)) c.index-chains-place.is c.rules-rules.ensures c.if-left-rules.true c.index-rules-left.is

pub returns-then-left-rules-clause-line : goal.returns-then-left-rules-clause-line
unfolding rest_lines
returns-then-left-rules-clause-line c =
    let place = c.chain_at-place.result in
    let left = c.args.number - get_or c.args.starts.now place 0 in
    let there : place < length c.args.chains.now = omega (arith, c.chain_at-place.ensures.there, ap length c.requires.starts, length-starts 0 c.args.chains.now) in
    line_from c.args.chains.now c.args.starts.now place c.args.number c.requires.starts there c.chain_at-place.ensures.begun
    ∙ (rule_there c.args.chains.now place c.index-chains-place.result c.rules-rules.result.now left there c.index-chains-place.is c.rules-rules.ensures c.index-rules-left.result c.if-left-rules.true c.index-rules-left.is
    ∙ (ap (λ (name : List ℕ). Some (rule_line c.args.chains.now name c.index-rules-left.result)) (sym c.name.ensures.value)
    ∙ ap (λ (l : List ℕ). Some l) (sym c.write_rule_line.ensures.line)))

-- The rules of the next chain, or the last line, follow the rules of the chain.
pub returns-clause-line : goal.returns-clause-line
unfolding rest_lines
returns-clause-line c =
    let chains = c.args.chains.now in
    let place = c.chain_at-place.result in
    let rules = c.rules-rules.result.now in
    let left = c.args.number - get_or c.args.starts.now place 0 in
    let there : place < length chains = omega (arith, c.chain_at-place.ensures.there, ap length c.requires.starts, length-starts 0 chains) in
    let last : length chains ≤ place + 1 =
    elim (cases_lt (place + 1) (length chains)) [
      | inl more ↦
          let behind = c.chain_at-place.ensures.last (omega (arith, more, ap length c.requires.starts, length-starts 0 chains)) in
          absurd (omega (
            arith,
            behind,
            begins chains c.args.starts.now place c.requires.starts there,
            begins chains c.args.starts.now (place + 1) c.requires.starts more,
            count_next chains place c.index-chains-place.result there c.index-chains-place.is,
            ap length c.rules-rules.ensures,
            c.if-left-rules.false,
            c.chain_at-place.ensures.begun,
          ))
      | inr end ↦ end
    ] in
    let few : left - length rules ≤ rule_count (drop (place + 1) chains) =
    omega (
      arith,
      c.requires.there,
      count_split chains place,
      begins chains c.args.starts.now place c.requires.starts there,
      rules_left chains place c.index-chains-place.result there c.index-chains-place.is,
      ap length c.rules-rules.ensures,
    ) in
    line_from chains c.args.starts.now place c.args.number c.requires.starts there c.chain_at-place.ensures.begun
    ∙ (rule_later chains place c.index-chains-place.result rules left there c.index-chains-place.is c.rules-rules.ensures c.if-left-rules.false
    ∙ (commit_there chains (place + 1) (left - length rules) last few ∙ ap (λ (l : List ℕ). Some l) (sym c.write_commit_line.ensures.line)))
