-- Chains that are filled with rules, and the number of their rules.
use Rattle.std.proofs.Common.{◌≡◌, ℕ, zero, suc, ◌+◌, ◌≤◌, ◌<◌, Bool, true, false, List, [], ◌∷◌, ◌++◌, None, length, take, get_or, sym, ap, subst, ◌∙◌, arith, length-append}
use Rattle.std.specs.Prelude.{slice_index_or}
use Rattle.std.specs.List.{list_all}
use Rattle.std.proofs.lemmas.Bool.{and_from, and_parts}
use Rattle.std.proofs.lemmas.List.{length-take-le, take_more}
use Rattle.std.proofs.lemmas.List.Folds.{list_all-append}
use Rattle.ipt_rules.specs.declared.rule.Policy.TheVariants.{Drop as Dropping}
use Rattle.ipt_rules.specs.declared.rule.Rule.{Rule as ChainRule}
use Rattle.ipt_rules.specs.Chain.{Chain, built_in_chains, user_chain, with_policy, with_rule}
use Rattle.ipt_rules.specs.declared.rule.Target.TheVariants.{Drop as ToDrop}
use Rattle.ipt_rules.specs.ChainTable.{rule_count, rule_limit}
use Rattle.ipt_rules.specs.inner.RuleParts.{is_rule}
use Rattle.ipt_rules.proofs.ChainLaws.{length_with_rule, rule_count-append, rule_count_with_rule}
use Rattle.emit_core.specs.inner.Filling.{with_rules}
use Rattle.emit_core.proofs.FillingLaws.{with_rules-changed}
use Rattle.emit_core.proofs.FillingLemmas.{with_rules-last}
use Rattle.nft_rules.specs.declared.table.Chain.{Chain as TableChain}
use Rattle.nft_rules.specs.declared.table.Rule.{Rule}
use Rattle.nft_rules.specs.declared.table.Verdict.{Verdict}
use Rattle.nft_rules.specs.declared.table.Verdict.TheVariants.{Accept, Drop, Goto}
use Rattle.nft_rules.specs.declared.table.Element.{Element}
use Rattle.nft_rules.specs.declared.table.Rule.TheVariants.{Map, Match}
use Rattle.nft_rules.specs.Loadable.{AreRules, IsRule, LeadBelow, LeadsBelow}
use Rattle.nft_chains.specs.Translation.{built_in_of, chain_name, chain_of, chains_from, every_packet, rules_of_rules}
use Rattle.nft_chains.specs.inner.Building.{Adds, Fills}
use Rattle.nft_chains.proofs.JumpLaws.{length-chains_from}

pub rule_count_with_rules : (xs : List Chain) (c : ℕ) (rules : List ChainRule) → c < length xs
    → rule_count (with_rules xs c rules) ≡ rule_count xs + length rules
rule_count_with_rules xs c [] there = omega arith
rule_count_with_rules xs c (r ∷ rules) there =
    let later = rule_count_with_rules (with_rule xs c r) c rules (omega (arith, there, length_with_rule xs c r)) in
    omega (arith, later, rule_count_with_rule xs c r there)

-- The built-in chains, of which FORWARD drops, without rules and with them.
pub no_rules_yet : (start : List Chain) → start ≡ with_policy built_in_chains 1 Dropping → (length start ≡ 3) × (rule_count start ≡ 0)
unfolding with_policy
no_rules_yet start is = (ap length is, ap rule_count is)

pub forward_filled : (start : List Chain) (rules : List ChainRule) → start ≡ with_policy built_in_chains 1 Dropping
    → with_rules start 1 rules ≡ built_in_of rules
unfolding with_policy
forward_filled start rules is = rw is (with_rules-changed (with_policy built_in_chains 1 Dropping) 1 rules)

-- ---- The first chains of a table

pub chains_more : (k : ℕ) (xs : List TableChain) (i : ℕ) (x : TableChain) → i < length xs → x ≡ get_or xs i x
    → chains_from k (take (i + 1) xs) ≡ chains_from k (take i xs) ++ chain_of (k + i) x ∷ []
chains_more k xs i x there is =
    ap (chains_from k) (take_more xs i x there ∙ ap (λ (y : TableChain). take i xs ++ y ∷ []) (sym is)) ∙ chains_then k (take i xs) x
    ∙ ap (λ (n : ℕ). chains_from k (take i xs) ++ chain_of (k + n) x ∷ []) (length-take-le i xs (omega (arith, there)))
  where
    chains_then : (j : ℕ) (ys : List TableChain) (y : TableChain) → chains_from j (ys ++ y ∷ []) ≡ chains_from j ys ++ chain_of (j + length ys) y ∷ []
    chains_then j [] y = let same : j ≡ j + 0 = omega arith in ap (λ (n : ℕ). chain_of n y ∷ []) same
    chains_then j (z ∷ ys) y =
        let same : j + 1 + length ys ≡ j + suc (length ys) = omega arith in
        ap (λ (rest : List Chain). chain_of j z ∷ rest)
        (chains_then (j + 1) ys y ∙ ap (λ (n : ℕ). chains_from (j + 1) ys ++ chain_of n y ∷ []) same)

-- The rules of the first chains are not more than those of all chains.
pub fewer_before : (rules : List ChainRule) (k : ℕ) (xs : List TableChain) (i : ℕ)
    → rule_count (built_in_of rules ++ chains_from k (take i xs)) ≤ rule_count (built_in_of rules ++ chains_from k xs)
fewer_before rules k xs i =
    omega (arith, rule_count-append (built_in_of rules) (chains_from k (take i xs)), rule_count-append (built_in_of rules) (chains_from k xs), fewer k xs i)
  where
    fewer : (j : ℕ) (ys : List TableChain) (m : ℕ) → rule_count (chains_from j (take m ys)) ≤ rule_count (chains_from j ys)
    fewer j [] zero = omega arith
    fewer j [] (suc m) = omega arith
    fewer j (y ∷ ys) zero = omega arith
    fewer j (y ∷ ys) (suc m) = omega (arith, fewer (j + 1) ys m)

-- ---- Jumps below a greater limit

pub leads_below_more : (n m : ℕ) (v : Verdict) → n ≤ m → LeadsBelow n v → LeadsBelow m v
leads_below_more n m Accept more below = tt
leads_below_more n m Drop more below = tt
leads_below_more n m (Goto c) more below = omega (arith, more, below)

lead_below_more : (n m : ℕ) (es : List Element) → n ≤ m → LeadBelow n es → LeadBelow m es
lead_below_more n m [] more below = tt
lead_below_more n m (e ∷ es) more below = (leads_below_more n m e.verdict more below.0, lead_below_more n m es more below.1)

is_rule_more : (n m : ℕ) (rule : Rule) → n ≤ m → IsRule n rule → IsRule m rule
is_rule_more n m (Map map) more is = (is.0, is.1, lead_below_more n m map.elements.items more is.2)
is_rule_more n m (Match r) more is = (is.0, leads_below_more n m r.verdict more is.1)

pub are_rules_more : (n m : ℕ) (rules : List Rule) → n ≤ m → AreRules n rules → AreRules m rules
are_rules_more n m [] more are = tt
are_rules_more n m (rule ∷ rules) more are = (is_rule_more n m rule more are.0, are_rules_more n m rules more are.1)

pub are_rules_at : (n : ℕ) (rules : List Rule) (i : ℕ) (rule : Rule) → i < length rules → rule ≡ get_or rules i rule → AreRules n rules → IsRule n rule
are_rules_at n [] i rule there is are = absurd (omega (arith, there))
are_rules_at n (r ∷ rules) zero rule there is are = subst (IsRule n) (sym is) are.0
are_rules_at n (r ∷ rules) (suc i) rule there is are = are_rules_at n rules i rule (omega (arith, there)) is are.1

pub lead_below_at : (n : ℕ) (es : List Element) (i : ℕ) (d : Element) → i < length es → LeadBelow n es → LeadsBelow n (slice_index_or es i d).verdict
lead_below_at n [] i d there below = absurd (omega (arith, there))
lead_below_at n (e ∷ es) zero d there below = below.0
lead_below_at n (e ∷ es) (suc i) d there below = lead_below_at n es i d (omega (arith, there)) below.1

-- ---- Rules that are valid

pub valid_more : (old new more : List ChainRule) → new ≡ old ++ more → list_all is_rule old ≡ true → list_all is_rule more ≡ true
    → list_all is_rule new ≡ true
valid_more old new more is first second =
    ap (list_all is_rule) is ∙ list_all-append is_rule old more ∙ and_from (list_all is_rule old) (list_all is_rule more) first second

pub valid_front : (now later whole : List ChainRule) → now ++ later ≡ whole → list_all is_rule whole ≡ true → list_all is_rule now ≡ true
valid_front now later whole all valid =
    (and_parts (list_all is_rule now) (list_all is_rule later) (sym (list_all-append is_rule now later) ∙ ap (list_all is_rule) all ∙ valid)).0

-- ---- A chain that is added

-- The chains up to the next one.
pub first_chains : (rules : List ChainRule) (xs : List TableChain) (i : ℕ) (x : TableChain) (old : List Chain) → i < length xs → x ≡ get_or xs i x
    → old ≡ built_in_of rules ++ chains_from 0 (take i xs) → old ++ chain_of i x ∷ [] ≡ built_in_of rules ++ chains_from 0 (take (i + 1) xs)
first_chains rules xs i x old there is before =
    let same : 0 + i ≡ i = omega arith in
    ap (λ (ys : List Chain). ys ++ chain_of i x ∷ []) before
    ∙ ap (λ (ys : List Chain). built_in_of rules ++ ys)
    (ap (λ (n : ℕ). chains_from 0 (take i xs) ++ chain_of n x ∷ []) (sym same) ∙ sym (chains_more 0 xs i x there is))

pub length_first : (rules : List ChainRule) (xs : List TableChain) (i : ℕ) (old : List Chain) → i ≤ length xs
    → old ≡ built_in_of rules ++ chains_from 0 (take i xs) → length old ≡ i + 3
length_first rules xs i old within is =
    omega (arith, ap length is, length-chains_from 0 (take i xs), length-take-le i xs within)

pub too_long : (rules : List ChainRule) (xs : List TableChain) (i : ℕ) (x : TableChain) (old : List Chain) → i < length xs → x ≡ get_or xs i x
    → old ≡ built_in_of rules ++ chains_from 0 (take i xs) → rule_limit < rule_count (old ++ chain_of i x ∷ [])
    → rule_limit < rule_count (built_in_of rules ++ chains_from 0 xs)
too_long rules xs i x old there is before long =
    omega (arith, long, ap rule_count (first_chains rules xs i x old there is before), fewer_before rules 0 xs (i + 1))

pub built_in_long : (rules : List ChainRule) (xs : List TableChain) → rule_limit < length rules
    → rule_limit < rule_count (built_in_of rules ++ chains_from 0 xs)
built_in_long rules xs long = omega (arith, long, rule_count-append (built_in_of rules) (chains_from 0 xs))

-- Rules that fill the new chain, the last of the chains.
pub fills_adds : (old mid new : List Chain) (c n : ℕ) (x : TableChain) (rules : List ChainRule) (count : ℕ) (b : Bool)
    → mid ≡ old ++ user_chain (chain_name c) ∷ [] → n ≡ length old → rules ≡ rules_of_rules x.rules.items ++ every_packet ToDrop ∷ []
    → Fills mid n rules new count b → Adds old (chain_of c x) new count b
fills_adds old mid new c n x rules count true is last all fills = (
  fills.0
      ∙ ap (λ (ys : List Chain). with_rules ys n rules) is
      ∙ ap (λ (m : ℕ). with_rules (old ++ user_chain (chain_name c) ∷ []) m rules) last
      ∙ with_rules-last old (user_chain (chain_name c)) rules
      ∙ ap (λ (rs : List ChainRule). old ++ record { name = chain_name c; policy = None; rules = rs } ∷ []) all,
  fills.1,
)
fills_adds old mid new c n x rules count false is last all fills =
    omega (
      arith,
      fills,
      ap rule_count is,
      ap length all,
      rule_count-append old (user_chain (chain_name c) ∷ []),
      rule_count-append old (chain_of c x ∷ []),
    )

pub chain_long : (old : List Chain) (c : ℕ) (x : TableChain) → rule_limit < length (rules_of_rules x.rules.items)
    → rule_limit < rule_count (old ++ chain_of c x ∷ [])
chain_long old c x long =
    omega (arith, long, rule_count-append old (chain_of c x ∷ []), length-append (rules_of_rules x.rules.items) (every_packet ToDrop ∷ []))
