-- Chains that are found exist.
use Rattle.std.proofs.Common.{◌≡◌, ℕ, ◌+◌, ◌<◌, Bool, true, false, cond, List, [], ◌∷◌, Option, Some, None, length, refl, arith, subst, inl, inr}
use Rattle.std.specs.Prelude.{Result, Ok, Err, bytes_eq, codes}
use Rattle.std.specs.List.{position_from}
use Rattle.text_core.specs.Lines.{begins_with}
use Rattle.text_core.proofs.StepsLaws.{if_parts}
use Rattle.ipt_rules.specs.declared.rule.Rule.{Rule}
use Rattle.ipt_rules.specs.Chain.{Chain, number_of}
use Rattle.ipt_read.specs.declared.fault.IptWhy.{IptWhy}
use Rattle.ipt_read.specs.declared.fault.IptWhy.TheVariants.{BadLine}
use Rattle.ipt_read.specs.declared.option.Place.TheVariants.{AtOption}
use Rattle.ipt_rules.specs.inner.RuleParts.{is_rule}
use Rattle.ipt_read.specs.inner.Counts.{is_count}
use Rattle.ipt_read.proofs.LineLaws.{rule_line_of_read}
use Rattle.ipt_read.specs.Options.{PartialRule, empty_rule}
use Rattle.ipt_read.specs.inner.OptionSteps.{rule_of}
use Rattle.ipt_read.proofs.PartLaws.{line_is_rule}
use Rattle.ipt_read.specs.inner.RuleLine.{goes_on, word_by_word, rule_in, append_of, rule_line_of}

within_first : (t : Bool) (i c n : ℕ) (r : Option ℕ) → (r ≡ Some c → c < i + 1 + n) → cond t (Some i) r ≡ Some c → c < i + (n + 1)
within_first true i c n r others h = let e : i ≡ c = cc in omega arith
within_first false i c n r others h = let e : c < i + 1 + n = others h in omega arith

within_from : {A : Type 0} (p : A → Bool) (i c : ℕ) (xs : List A) → position_from p i xs ≡ Some c → c < i + length xs
within_from p i c [] h = cc
within_from p i c (x ∷ xs) h = let e : c < i + (length xs + 1) = within_first (p x) i c (length xs) (position_from p (i + 1) xs) (within_from p (i + 1) c xs) h in omega arith

pub number_of_within : (xs : List Chain) (name : List ℕ) (c : ℕ) → number_of xs name ≡ Some c → c < length xs
number_of_within xs name c h = let e : c < 0 + length xs = within_from (λ x. bytes_eq x.name name) 0 c xs h in omega arith

rule_within : (chains : List Chain) (c k : ℕ) (rule : Rule) (o : Result PartialRule IptWhy)
    → goes_on {B = ℕ × Rule} o (λ given. Ok (c, rule_of given)) ≡ Ok (k, rule) → c ≡ k
rule_within chains c k rule (Err why) h = cc
rule_within chains c k rule (Ok given) h = let e : ◌≡◌ {A = ℕ × Rule} (c, rule_of given) (k, rule) = cc in λ i. (e i).0

in_within : (chains : List Chain) (name : List ℕ) (ws : List (List ℕ)) (k : ℕ) (rule : Rule) (o : Option ℕ) → number_of chains name ≡ o
    → rule_in chains o ws ≡ Ok (k, rule) → k < length chains
in_within chains name ws k rule None found h = cc
in_within chains name ws k rule (Some c) found h =
    subst (λ (n : ℕ). n < length chains) (rule_within chains c k rule (word_by_word chains empty_rule AtOption ws) h) (number_of_within chains name c found)

append_within : (chains : List Chain) (ws : List (List ℕ)) (k : ℕ) (rule : Rule) → append_of chains ws ≡ Ok (k, rule) → k < length chains
append_within chains [] k rule h = cc
append_within chains (a ∷ []) k rule h = cc
append_within chains (a ∷ name ∷ ws) k rule h = elim (if_parts (bytes_eq a (codes "-A")) (rule_in chains (number_of chains name) ws) (Err BadLine) (Ok (k, rule)) h) [
  | inl yes' ↦ in_within chains name ws k rule (number_of chains name) refl yes'.1
  | inr no' ↦ cc
]

pub rule_line_within : (chains : List Chain) (ws : List (List ℕ)) (k : ℕ) (rule : Rule) → rule_line_of chains ws ≡ Ok (k, rule)
    → k < length chains
unfolding rule_line_of
rule_line_within chains [] k rule h = cc
rule_line_within chains (w ∷ ws) k rule h = elim (if_parts (begins_with 91 w) _ _ (Ok (k, rule)) h) [
  | inr plain ↦ append_within chains (w ∷ ws) k rule plain.1
  | inl counted ↦ elim (if_parts (is_count w) (append_of chains ws) (Err BadLine) (Ok (k, rule)) counted.1) [
    | inl count ↦ append_within chains ws k rule count.1
    | inr bad ↦ cc
  ]
]

-- The protocol and port matches of a parsed rule are valid.
pub rule_line_is : (chains : List Chain) (ws : List (List ℕ)) (k : ℕ) (rule : Rule) → rule_line_of chains ws ≡ Ok (k, rule) → is_rule rule ≡ true
rule_line_is chains ws k rule h = line_is_rule chains ws k rule (rule_line_of_read chains ws k rule h)
