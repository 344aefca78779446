use Rattle.std.proofs.Common.{◌≡◌, ◌+◌, ◌-◌, ◌<◌, sym, ap, subst, ◌∙◌, arith, length, take, List, ℕ, Some}
use Rattle.std.specs.Prelude.{slice_get}
use Rattle.ipt_rules.specs.Chain.{Chain}
use Rattle.ipt_rules.specs.Text.{text_lines}
use Rattle.ipt_rules.proofs.TextLaws.{length-text_lines}
use Rattle.ipt_rules.proofs.TextLemmas.{chain_there, rest_there, rest_lines}
use Rattle.ipt_rules.proofs.ruleset.Ruleset.write_line.Goals as goal

-- A line after the first, found by the preceding number.
behind : (chains xs : List Chain) (i : ℕ) (line : List ℕ) → xs ≡ chains → (i ≡ 0 → ⊥) → slice_get (text_lines xs) (i - 1 + 1) ≡ Some line → slice_get (text_lines chains) i ≡ Some line
behind chains xs i line same later found =
    let number : i - 1 + 1 ≡ i = omega arith in
    subst (λ (cs : List Chain). slice_get (text_lines cs) i ≡ Some line) same (ap (slice_get (text_lines xs)) (sym number) ∙ found)

pub returns-then-place-chains-clause-line : goal.returns-then-place-chains-clause-line
returns-then-place-chains-clause-line c =
    behind c.args.self.now c.as_slice-chains.result.now c.args.i (take c.write_chain_line.result c.write_chain_line.new.buffer) (c.as_slice-chains.ensures.value ∙ c.self.view_is) c.if-i-eq0.false (chain_there c.as_slice-chains.result.now (c.args.i - 1) c.index-chains-place.result c.if-place-chains.true c.index-chains-place.is ∙ ap (λ (l : List ℕ). Some l) (sym c.write_chain_line.ensures.line))

pub write_rule_or_commit-requires-clause-there : goal.write_rule_or_commit-requires-clause-there
write_rule_or_commit-requires-clause-there c =
    omega (arith, length-text_lines c.as_slice-chains.result.now, c.if-i-eq0.false, subst (λ (cs : List Chain). c.args.i < length (text_lines cs)) (sym (c.as_slice-chains.ensures.value ∙ c.self.view_is)) c.requires)

pub returns-clause-line : goal.returns-clause-line
unfolding rest_lines
returns-clause-line c =
    behind c.args.self.now c.as_slice-chains.result.now c.args.i (take c.write_rule_or_commit.result c.write_rule_or_commit.new.buffer) (c.as_slice-chains.ensures.value ∙ c.self.view_is) c.if-i-eq0.false (rest_there c.as_slice-chains.result.now (c.args.i - 1) c.if-place-chains.false ∙ c.write_rule_or_commit.ensures.line)
