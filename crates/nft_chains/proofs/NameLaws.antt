-- The names of the chains are different and legal.
use Rattle.std.proofs.Common.{◌≡◌, ℕ, ◌+◌, ◌^◌, ◌%◌, ◌<◌, ◌≤◌, Bool, true, false, List, [], ◌∷◌, ◌++◌, Option, None, length, take, refl, sym, subst, ◌∙◌, arith}
use Rattle.std.specs.Prelude.{IsNone, IsTrue, bytes_eq, codes, decimal}
use Rattle.std.specs.List.{list_all, position_from}
use Rattle.std.proofs.lemmas.Bool.{and_from}
use Rattle.std.proofs.lemmas.Bool.Decides.{nat_tests}
use Rattle.std.proofs.lemmas.Fmt.{decimal_by_steps, decimal_injective, length-decimal-le}
use Rattle.std.proofs.lemmas.List.{append_cancel_left, length-take-le}
use Rattle.std.proofs.lemmas.List.Folds.{list_all-append}
use Rattle.std.proofs.lemmas.Slice.Eq.{bytes_eq-Decides}
use Rattle.ipt_rules.specs.declared.rule.Rule.{Rule as ChainRule}
use Rattle.ipt_rules.specs.Chain.{Chain, number_of}
use Rattle.ipt_rules.specs.Name.{has_name_length, is_printing, is_reserved, is_user_name}
use Rattle.nft_rules.specs.declared.table.Chain.{Chain as TableChain}
use Rattle.nft_chains.specs.Translation.{built_in_of, chain_name, chains_from}

chain_name_injective : (i j : ℕ) → i < 2 ^ 16 → j < 2 ^ 16 → chain_name i ≡ chain_name j → i ≡ j
chain_name_injective i j i_fits j_fits same =
    decimal_injective i j (omega arith) (omega arith) (append_cancel_left (codes "chain_") (decimal i) (decimal j) same)

other_name : (i j : ℕ) → i < j → j < 2 ^ 16 → bytes_eq (chain_name i) (chain_name j) ≡ false
other_name i j before fits = by_test (bytes_eq (chain_name i) (chain_name j)) refl
  where
    by_test : (b : Bool) → bytes_eq (chain_name i) (chain_name j) ≡ b → b ≡ false
    by_test true is =
        let same = chain_name_injective i j (omega arith) fits ((bytes_eq-Decides (chain_name i) (chain_name j)).0 is) in
        absurd (omega arith)
    by_test false is = refl

name_later : (at k i : ℕ) (xs : List TableChain) → k + length xs ≤ i → i < 2 ^ 16
    → position_from (λ x. bytes_eq x.name (chain_name i)) at (chains_from k xs) ≡ None
name_later at k i [] before fits = refl
name_later at k i (x ∷ xs) before fits =
    rw (other_name k i (omega arith) fits) (name_later (at + 1) (k + 1) i xs (omega arith) fits)

-- No chain before chain i has its name.
name_unused : (rules : List ChainRule) (xs : List TableChain) (i : ℕ) → length xs ≤ i → i < 2 ^ 16
    → number_of (built_in_of rules ++ chains_from 0 xs) (chain_name i) ≡ None
name_unused rules xs i before fits = name_later 3 0 i xs (omega arith) fits

none_is : {A : Type 0} (o : Option A) → o ≡ None → IsNone o
none_is o is = rw is refl

pub unused : (rules : List ChainRule) (xs : List TableChain) (i : ℕ) (old : List Chain) → i ≤ length xs → i < 2 ^ 16
    → old ≡ built_in_of rules ++ chains_from 0 (take i xs) → IsNone (number_of old (chain_name i))
unused rules xs i old within fits is =
    let before : length (take i xs) ≤ i = omega (arith, length-take-le i xs within) in
    subst (λ (x : List Chain). IsNone (number_of x (chain_name i))) (sym is)
    (none_is (number_of (built_in_of rules ++ chains_from 0 (take i xs)) (chain_name i)) (name_unused rules (take i xs) i before fits))

digit_in_name : (d : ℕ) → d < 10 → list_all is_printing ((48 + d) ∷ []) ≡ true
digit_in_name d small = grind (arith, nat_tests)

digits_in_name : (n : ℕ) → n < 2 ^ 64 → list_all is_printing (decimal n) ≡ true
digits_in_name n fits =
    decimal_by_steps (λ m ds. list_all is_printing ds ≡ true) (λ m small. digit_in_name m small)
    (λ m ds large front. list_all-append is_printing ds ((48 + m % 10) ∷ []) ∙ and_from _ _ front (digit_in_name (m % 10) (omega arith)))
    n fits

pub name_legal : (i : ℕ) → i < 2 ^ 16 → IsTrue (is_user_name (chain_name i))
unfolding is_user_name is_reserved
name_legal i fits =
    let short : length (decimal i) ≤ 5 = length-decimal-le 5 i (omega arith) (omega arith) (omega arith) in
    let long : has_name_length (chain_name i) ≡ true = grind (arith, nat_tests) in
    and_from _ _ long (and_from _ _ (and_from _ _ refl (digits_in_name i (omega arith))) refl)
