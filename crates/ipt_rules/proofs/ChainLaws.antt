-- Lemmas on chains: what a change of one chain preserves.
use Rattle.std.proofs.Common.{◌≡◌, ℕ, zero, suc, ◌+◌, ◌<◌, ◌∙◌, ap, refl, List, [], ◌∷◌, ◌++◌, Some, length, get_or, set, arith, length-append}
use Rattle.ipt_rules.specs.declared.rule.Rule.{Rule}
use Rattle.ipt_rules.specs.declared.rule.Policy.{Policy}
use Rattle.ipt_rules.specs.Chain.{Chain, changed_at, with_policy, with_rule, user_chain}
use Rattle.ipt_rules.specs.ChainTable.{rule_count}

-- A write at an index is a change there.
pub set_changed : (xs : List Chain) (c : ℕ) (old new : Chain) (change : Chain → Chain) → c < length xs → old ≡ get_or xs c old → new ≡ change old → set xs c new ≡ changed_at xs c change
set_changed [] c old new change h was is = absurd (omega arith)
set_changed (x ∷ xs) zero old new change h was is = ap (λ y. y ∷ xs) (is ∙ ap change was)
set_changed (x ∷ xs) (suc c) old new change h was is =
    ap (λ ys. x ∷ ys) (set_changed xs c old new change (omega arith) was is)

pub changed_nowise : (xs : List Chain) (c : ℕ) → changed_at xs c (λ x. x) ≡ xs
changed_nowise [] c = refl
changed_nowise (x ∷ xs) zero = refl
changed_nowise (x ∷ xs) (suc c) = ap (λ ys. x ∷ ys) (changed_nowise xs c)

pub length-changed_at : (xs : List Chain) (c : ℕ) (change : Chain → Chain) → length (changed_at xs c change) ≡ length xs
length-changed_at [] c change = refl
length-changed_at (x ∷ xs) zero change = refl
length-changed_at (x ∷ xs) (suc c) change = ap suc (length-changed_at xs c change)

-- The number of chains and rules after each change.
pub length_with_policy : (xs : List Chain) (c : ℕ) (policy : Policy) → length (with_policy xs c policy) ≡ length xs
unfolding with_policy
length_with_policy xs c policy = length-changed_at xs c (λ x. record x { policy = Some policy })

pub length_with_rule : (xs : List Chain) (c : ℕ) (rule : Rule) → length (with_rule xs c rule) ≡ length xs
unfolding with_rule
length_with_rule xs c rule = length-changed_at xs c (λ x. record x { rules = x.rules ++ rule ∷ [] })

pub rule_count-append : (xs ys : List Chain) → rule_count (xs ++ ys) ≡ rule_count xs + rule_count ys
rule_count-append [] ys = omega arith
rule_count-append (x ∷ xs) ys = omega (arith, rule_count-append xs ys)

pub rule_count_with_rule : (xs : List Chain) (c : ℕ) (rule : Rule) → c < length xs → rule_count (with_rule xs c rule) ≡ rule_count xs + 1
unfolding with_rule
rule_count_with_rule [] c rule h = absurd (omega arith)
rule_count_with_rule (x ∷ xs) zero rule h = omega (arith, length-append x.rules (rule ∷ []))
rule_count_with_rule (x ∷ xs) (suc c) rule h = omega (arith, rule_count_with_rule xs c rule (omega arith))

pub rule_count_with_policy : (xs : List Chain) (c : ℕ) (policy : Policy) → rule_count (with_policy xs c policy) ≡ rule_count xs
unfolding with_policy
rule_count_with_policy [] c policy = refl
rule_count_with_policy (x ∷ xs) zero policy = refl
rule_count_with_policy (x ∷ xs) (suc c) policy = ap (λ n. length x.rules + n) (rule_count_with_policy xs c policy)

pub length_added : (xs : List Chain) (name : List ℕ) → length (xs ++ user_chain name ∷ []) ≡ length xs + 1
length_added xs name = length-append xs (user_chain name ∷ [])

pub rule_count_added : (xs : List Chain) (name : List ℕ) → rule_count (xs ++ user_chain name ∷ []) ≡ rule_count xs
rule_count_added xs name = omega (arith, rule_count-append xs (user_chain name ∷ []))
