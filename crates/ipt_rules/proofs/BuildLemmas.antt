-- The first invalid jump, found chain by chain, and the properties of chains that are not refused.
use Rattle.std.proofs.Common.{◌≡◌, ℕ, zero, suc, ◌+◌, ◌<◌, ◌≤◌, ◌∙◌, sym, ap, refl, Bool, true, false, cond, not, List, [], ◌∷◌, Option, Some, None, length, get_or, drop, arith}
use Rattle.std.proofs.Math.Seq.{drop-cons}
use Rattle.std.proofs.Math.Numerals.{add-one}
use Rattle.std.proofs.lemmas.Bool.{and_from}
use Rattle.std.proofs.lemmas.Bool.Decides.{nat_tests}
use Rattle.std.specs.Prelude.{is_some}
use Rattle.std.specs.List.{position_from, list_all}
use Rattle.ipt_rules.specs.declared.rule.Rule.{Rule}
use Rattle.ipt_rules.specs.declared.ruleset.BuildRefusal.{BuildRefusal}
use Rattle.ipt_rules.specs.declared.ruleset.BuildRefusal.TheVariants.{UnknownChain}
use Rattle.ipt_rules.specs.Chain.{Chain, rules_of}
use Rattle.ipt_rules.specs.ChainTable.{rule_count}
use Rattle.ipt_rules.specs.inner.ChainTable.{IsChainList}
use Rattle.ipt_rules.specs.inner.Build.{has_unknown_target, place_of_unknown, unknown_at, first_unknown, refusal_of}
use Rattle.ipt_rules.specs.inner.Jumps.{JumpsAreKnown, IsRuleset}
use Rattle.ipt_rules.specs.inner.Ranks.{HasTopologicalOrder}
use Rattle.ipt_rules.specs.inner.Starts.{starts_from}

pub chains_at : (xs : List Chain) (i : ℕ) (x : Chain) → i < length xs → x ≡ get_or xs i x → drop i xs ≡ x ∷ drop (i + 1) xs
chains_at xs i x h is = rw (add-one i) (drop-cons xs i x h ∙ ap (λ y. y ∷ drop (suc i) xs) (sym is))

unknown_in : (count i : ℕ) (xs : List Chain) (x : Chain) (rs : List Rule) (o : Option ℕ) → i < length xs → x ≡ get_or xs i x → rs ≡ x.rules → o ≡ place_of_unknown count rs → first_unknown count i (drop i xs) ≡ unknown_at i o (first_unknown count (i + 1) (drop (i + 1) xs))
unknown_in count i xs x rs o h is same found =
    ap (first_unknown count i) (chains_at xs i x h is) ∙ ap (λ (p : Option ℕ). unknown_at i p (first_unknown count (i + 1) (drop (i + 1) xs))) (sym (found ∙ ap (place_of_unknown count) same))

-- If a chain has a rule with an invalid jump, it is the first such rule.
pub unknown_here : (count i : ℕ) (xs : List Chain) (x : Chain) (rs : List Rule) (k : ℕ) → i < length xs → x ≡ get_or xs i x → rs ≡ x.rules → Some k ≡ place_of_unknown count rs → first_unknown count i (drop i xs) ≡ Some (UnknownChain i k)
unknown_here count i xs x rs k h is same found = unknown_in count i xs x rs (Some k) h is same found

-- If a chain has none, the first such rule is in a later chain.
pub unknown_later : (count i : ℕ) (xs : List Chain) (x : Chain) (rs : List Rule) → i < length xs → x ≡ get_or xs i x → rs ≡ x.rules → None ≡ place_of_unknown count rs → first_unknown count i (drop i xs) ≡ first_unknown count (i + 1) (drop (i + 1) xs)
unknown_later count i xs x rs h is same found = unknown_in count i xs x rs None h is same found

pub rules_left : (xs : List Chain) (i : ℕ) (x : Chain) → i < length xs → x ≡ get_or xs i x → rule_count (drop i xs) ≡ length x.rules + rule_count (drop (i + 1) xs)
rules_left xs i x h is = ap rule_count (chains_at xs i x h is)

-- One more rule without an invalid jump.
pub known_first : (b : Bool) (i : ℕ) (o : Option ℕ) → cond b (Some i) o ≡ None → (b ≡ false) × (o ≡ None)
known_first true i o h = cc
known_first false i o h = (refl, h)

rules_known : (count i : ℕ) (rs : List Rule) → position_from (λ r. has_unknown_target count r.target) i rs ≡ None → list_all (λ r. not (has_unknown_target count r.target)) rs ≡ true
rules_known count i [] known = refl
rules_known count i (r ∷ rs) known =
    let here = known_first (has_unknown_target count r.target) i (position_from (λ s. has_unknown_target count s.target) (i + 1) rs) known in
    and_from _ _ (ap not here.0) (rules_known count (i + 1) rs here.1)

pub none_at : (n : ℕ) (o : Option ℕ) (others : Option BuildRefusal) → unknown_at n o others ≡ None → (o ≡ None) × (others ≡ None)
none_at n None others h = (refl, h)
none_at n (Some k) others h = cc

chain_known : (count n : ℕ) (xs : List Chain) (c : ℕ) → first_unknown count n xs ≡ None → place_of_unknown count (rules_of xs c) ≡ None
chain_known count n [] c known = refl
chain_known count n (x ∷ xs) zero known =
    (none_at n (place_of_unknown count x.rules) (first_unknown count (n + 1) xs) known).0
chain_known count n (x ∷ xs) (suc c) known =
    chain_known count (n + 1) xs c (none_at n (place_of_unknown count x.rules) (first_unknown count (n + 1) xs) known).1

record IsFine (xs : List Chain) : Type 0 where
  few_chains : length xs ≤ 4096
  few_rules : rule_count xs ≤ 1000000
  known : first_unknown (length xs) 0 xs ≡ None

fine_parts : (xs : List Chain) → refusal_of xs ≡ None → IsFine xs
unfolding refusal_of
fine_parts xs fine = grind (arith, nat_tests)

pub few_of : (xs : List Chain) → refusal_of xs ≡ None → length xs ≤ 4096
unfolding fine_parts
few_of xs fine = (fine_parts xs fine).few_chains

pub known_of : (xs : List Chain) → refusal_of xs ≡ None → JumpsAreKnown xs
unfolding fine_parts
known_of xs fine =
    record { from = λ c. rules_known (length xs) 0 (rules_of xs c) (chain_known (length xs) 0 xs c (fine_parts xs fine).known) }

pub few_rules_of : (xs : List Chain) → refusal_of xs ≡ None → rule_count xs ≤ 1000000
unfolding fine_parts
few_rules_of xs fine = (fine_parts xs fine).few_rules

pub built : (xs : List Chain) (n : ℕ) (starts : List ℕ) → IsChainList xs n → refusal_of xs ≡ None → starts ≡ starts_from 0 xs
    → HasTopologicalOrder xs → IsRuleset xs n starts
unfolding fine_parts
built xs n starts chains fine begin topological_order =
    let parts = fine_parts xs fine in
    record {
      list = chains;
      accepted = ap is_some fine;
      few_chains = parts.few_chains;
      few_rules = omega (arith, parts.few_rules, chains.counted);
      jumps = known_of xs fine;
      starts_are = begin;
      topological_order = topological_order;
    }
