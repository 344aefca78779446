-- The index of a rule among the rules of all chains.
use Rattle.std.proofs.Common.{◌≡◌, ℕ, zero, suc, ◌+◌, ◌-◌, ◌<◌, ◌≤◌, ◌∙◌, inl, inr, sym, ap, refl, List, [], ◌∷◌, ◌++◌, Some, length, get_or, take, drop, arith, length-append, take-append-drop}
use Rattle.std.specs.Prelude.{slice_get}
use Rattle.std.proofs.lemmas.Bool.{cases_lt}
use Rattle.std.proofs.lemmas.Grind.{flat_map-append}
use Rattle.std.proofs.lemmas.Option.{slice_get-get_or}
use Rattle.ipt_rules.specs.declared.rule.Rule.{Rule}
use Rattle.ipt_rules.specs.Chain.{Chain}
use Rattle.ipt_rules.specs.ChainTable.{rule_count}
use Rattle.ipt_rules.specs.Rules.{all_rules}
use Rattle.ipt_rules.specs.inner.Starts.{starts_from}
use Rattle.ipt_rules.proofs.BuildLemmas.{chains_at}
use Rattle.ipt_rules.proofs.StartLemmas.{begins, count_next}
use Rattle.ipt_rules.proofs.TextLemmas.{slice_get_after, slice_get_in}

pub length-all_rules : (chains : List Chain) → length (all_rules chains) ≡ rule_count chains
length-all_rules [] = refl
length-all_rules (x ∷ xs) = omega (arith, length-append x.rules (all_rules xs), length-all_rules xs)

-- The chain of a rule exists.
pub some_chain : (chains : List Chain) (number : ℕ) → number < length (all_rules chains) → 0 < length chains
some_chain [] number there = absurd (omega arith)
some_chain (x ∷ xs) number there = omega arith

-- The rules of the last chain that begins at the number or before it extend beyond the number.
pub within_chain : (chains : List Chain) (starts : List ℕ) (place number : ℕ) (x : Chain) → starts ≡ starts_from 0 chains → place < length chains
    → x ≡ get_or chains place x → get_or starts place 0 ≤ number → (place + 1 < length chains → number < get_or starts (place + 1) 0)
    → number < length (all_rules chains) → number - get_or starts place 0 < length x.rules
within_chain chains starts place number x is here at begun last there =
    let first = begins chains starts place is here in
    let next = count_next chains place x here at in
    elim (cases_lt (place + 1) (length chains)) [
      | inl more ↦ omega (arith, begun, first, next, last more, begins chains starts (place + 1) is more)
      | inr end ↦ omega (arith, begun, first, next, there, length-all_rules chains, all_before chains (place + 1) end)
    ]
  where
    all_before : (xs : List Chain) (n : ℕ) → length xs ≤ n → rule_count (take n xs) ≡ rule_count xs
    all_before [] zero h = refl
    all_before [] (suc n) h = refl
    all_before (y ∷ ys) zero h = absurd (omega arith)
    all_before (y ∷ ys) (suc n) h = ap (λ (m : ℕ). length y.rules + m) (all_before ys n (omega arith))

-- The rule is at this offset from the start of its chain.
pub rule_there : (chains : List Chain) (starts : List ℕ) (place number : ℕ) (x : Chain) (rules : List Rule) (r : Rule) → starts ≡ starts_from 0 chains
    → place < length chains → x ≡ get_or chains place x → rules ≡ x.rules → get_or starts place 0 ≤ number
    → number - get_or starts place 0 < length rules → r ≡ get_or rules (number - get_or starts place 0) r → slice_get (all_rules chains) number ≡ Some r
rule_there chains starts place number x rules r is here at same begun within read =
    let left = number - get_or starts place 0 in
    let front = all_rules (take place chains) in
    let behind = all_rules (drop (place + 1) chains) in
    let long : length front ≡ get_or starts place 0 = length-all_rules (take place chains) ∙ sym (begins chains starts place is here) in
    let cut : all_rules chains ≡ front ++ (x.rules ++ behind) =
    ap all_rules (sym (take-append-drop place chains)) ∙ flat_map-append (λ (y : Chain). y.rules) (take place chains) (drop place chains)
    ∙ ap (λ (ys : List Chain). front ++ all_rules ys) (chains_at chains place x here at) in
    ap (λ (rs : List Rule). slice_get rs number) cut
    ∙ slice_get_after front (x.rules ++ behind) number (omega (arith, long, begun))
    ∙ ap (λ (n : ℕ). slice_get (x.rules ++ behind) (number - n)) long
    ∙ slice_get_in x.rules behind left (omega (arith, within, ap length same))
    ∙ ap (λ (rs : List Rule). slice_get rs left) (sym same) ∙ slice_get-get_or rules left r within ∙ ap (λ (s : Rule). Some s) (sym read)
