-- The index of a line in the text: the chain lines follow the table line, then the rule lines follow.
use Rattle.std.proofs.Common.{Bool, not, ◌≡◌, ℕ, zero, suc, ◌+◌, ◌-◌, ◌<◌, ◌≤◌, ◌∙◌, sym, ap, refl, true, List, [], ◌∷◌, ◌++◌, Some, length, get_or, drop, arith, append_assoc}
use Rattle.std.specs.Prelude.{slice_get, map}
use Rattle.std.specs.List.{flat_map, list_all}
use Rattle.std.specs.Option.{option_map}
use Rattle.std.proofs.lemmas.List.{length-map}
use Rattle.std.proofs.lemmas.Bool.{and_parts}
use Rattle.std.proofs.lemmas.Bool.Decides.{nat_tests}
use Rattle.std.proofs.lemmas.Option.{slice_get-map, slice_get-get_or}
use Rattle.std.proofs.Math.Numerals.{add-one}
use Rattle.std.proofs.Math.ListN.{drop_of_length-le}
use Rattle.ipt_rules.specs.declared.rule.Rule.{Rule}
use Rattle.ipt_rules.specs.declared.rule.Target.{Target}
use Rattle.ipt_rules.specs.declared.rule.Target.TheVariants.{Accept, Drop, Reject, Return, Count, Jump}
use Rattle.ipt_rules.specs.Chain.{Chain, rules_of}
use Rattle.ipt_rules.specs.ChainTable.{rule_count}
use Rattle.ipt_rules.specs.inner.Jumps.{JumpsAreKnown, JumpsIn}
use Rattle.ipt_rules.specs.inner.Build.{has_unknown_target}
use Rattle.ipt_rules.specs.Text.{text_lines, commit_line, chain_line, rule_line, rule_lines}
use Rattle.ipt_rules.proofs.BuildLemmas.{chains_at}
use Rattle.ipt_rules.proofs.ChainLemmas.{rules_of_read, chain_read}
use Rattle.ipt_rules.proofs.WalkLemmas.{all_at}

pub slice_get_in : {A : Type 0} → (xs ys : List A) (i : ℕ) → i < length xs → slice_get (xs ++ ys) i ≡ slice_get xs i
slice_get_in [] ys i h = absurd (omega arith)
slice_get_in (x ∷ xs) ys zero h = refl
slice_get_in (x ∷ xs) ys (suc i) h = slice_get_in xs ys i (omega arith)

pub slice_get_after : {A : Type 0} → (xs ys : List A) (i : ℕ) → length xs ≤ i → slice_get (xs ++ ys) i ≡ slice_get ys (i - length xs)
slice_get_after [] ys i h = ap (slice_get ys) (omega arith)
slice_get_after (x ∷ xs) ys zero h = absurd (omega arith)
slice_get_after (x ∷ xs) ys (suc i) h =
    let step : i - length xs ≡ suc i - suc (length xs) = omega arith in
    slice_get_after xs ys i (omega arith) ∙ ap (slice_get ys) step

-- The lines from the rules of chain i on.
unfoldable pub rest_lines : List Chain → ℕ → List (List ℕ)
rest_lines chains i = flat_map (rule_lines chains) (drop i chains) ++ commit_line ∷ []

rest_at : (chains : List Chain) (i : ℕ) (x : Chain) → i < length chains → x ≡ get_or chains i x → rest_lines chains i ≡ rule_lines chains x ++ rest_lines chains (i + 1)
unfolding rest_lines
rest_at chains i x h is =
    ap (λ (xs : List Chain). flat_map (rule_lines chains) xs ++ commit_line ∷ []) (chains_at chains i x h is) ∙ append_assoc (rule_lines chains x) (flat_map (rule_lines chains) (drop (i + 1) chains)) (commit_line ∷ [])

pub rule_there : (chains : List Chain) (i : ℕ) (x : Chain) (rules : List Rule) (left : ℕ) → i < length chains → x ≡ get_or chains i x → rules ≡ x.rules → (r : Rule) → left < length rules → r ≡ get_or rules left r → slice_get (rest_lines chains i) left ≡ Some (rule_line chains x.name r)
rule_there chains i x rules left h is same r here at =
    let long : length (rule_lines chains x) ≡ length x.rules = length-map x.rules (rule_line chains x.name) in
    let read : slice_get x.rules left ≡ Some r = ap (λ (rs : List Rule). slice_get rs left) (sym same) ∙ (slice_get-get_or rules left r here ∙ ap (λ (s : Rule). Some s) (sym at)) in
    ap (λ (ls : List (List ℕ)). slice_get ls left) (rest_at chains i x h is)
    ∙ (slice_get_in (rule_lines chains x) (rest_lines chains (i + 1)) left (omega (arith, long, ap length same))
    ∙ (slice_get-map (rule_line chains x.name) x.rules left ∙ ap (option_map (rule_line chains x.name)) read))

pub rule_later : (chains : List Chain) (i : ℕ) (x : Chain) (rules : List Rule) (left : ℕ) → i < length chains → x ≡ get_or chains i x → rules ≡ x.rules → length rules ≤ left → slice_get (rest_lines chains i) left ≡ slice_get (rest_lines chains (i + 1)) (left - length rules)
rule_later chains i x rules left h is same past =
    let long : length (rule_lines chains x) ≡ length rules = length-map x.rules (rule_line chains x.name) ∙ ap length (sym same) in
    ap (λ (ls : List (List ℕ)). slice_get ls left) (rest_at chains i x h is)
    ∙ (slice_get_after (rule_lines chains x) (rest_lines chains (i + 1)) left (omega (arith, long))
    ∙ ap (λ (n : ℕ). slice_get (rest_lines chains (i + 1)) (left - n)) long)

pub commit_there : (chains : List Chain) (i left : ℕ) → length chains ≤ i → left ≤ rule_count (drop i chains) → slice_get (rest_lines chains i) left ≡ Some commit_line
unfolding rest_lines
commit_there chains i left past few =
    let none : drop i chains ≡ [] = drop_of_length-le chains past in
    let first : left ≡ 0 = omega (arith, ap rule_count none) in
    ap (λ (xs : List Chain). slice_get (flat_map (rule_lines chains) xs ++ commit_line ∷ []) left) none ∙ ap (slice_get (commit_line ∷ [])) first

target_in : (count : ℕ) (t : Target) → not (has_unknown_target count t) ≡ true → JumpsIn count t
target_in count Accept known = tt
target_in count Drop known = tt
target_in count Reject known = tt
target_in count Return known = tt
target_in count Count known = tt
target_in count (Jump d) known = grind (arith, nat_tests)

pub jump_in : (chains : List Chain) (i : ℕ) (x : Chain) (rules : List Rule) (left : ℕ) (r : Rule) → JumpsAreKnown chains → i < length chains → x ≡ get_or chains i x → rules ≡ x.rules → left < length rules → r ≡ get_or rules left r → JumpsIn (length chains) r.target
jump_in chains i x rules left r jumps h is same here at =
    let read : rules ≡ rules_of chains i = same ∙ sym (rules_of_read chains i x h is) in
    let all : list_all (λ s. not (has_unknown_target (length chains) s.target)) rules ≡ true = rw read (jumps.from i) in
    target_in (length chains) r.target (all_at (λ s. not (has_unknown_target (length chains) s.target)) rules left r all here at)

-- A rule passes a test that all rules pass.
chain_passes : (test : Rule → Bool) (xs : List Chain) (i : ℕ) (x : Chain) → list_all (λ y. list_all test y.rules) xs ≡ true → i < length xs → x ≡ get_or xs i x
    → list_all test x.rules ≡ true
chain_passes test [] i x all h is = absurd (omega arith)
chain_passes test (y ∷ ys) zero x all h is =
    ap (λ (z : Chain). list_all test z.rules) is ∙ (and_parts (list_all test y.rules) (list_all (λ z. list_all test z.rules) ys) all).0
chain_passes test (y ∷ ys) (suc i) x all h is =
    chain_passes test ys i x (and_parts (list_all test y.rules) (list_all (λ z. list_all test z.rules) ys) all).1 (omega arith) is

pub rule_in : (test : Rule → Bool) (chains : List Chain) (i : ℕ) (x : Chain) (rules : List Rule) (left : ℕ) (r : Rule)
    → list_all (λ y. list_all test y.rules) chains ≡ true → i < length chains → x ≡ get_or chains i x → rules ≡ x.rules → left < length rules → r ≡ get_or rules left r
    → test r ≡ true
rule_in test chains i x rules left r all h is same here at =
    all_at test rules left r (ap (list_all test) same ∙ chain_passes test chains i x all h is) here at

-- The line of a chain is after the table line.
pub chain_there : (chains : List Chain) (i : ℕ) (x : Chain) → i < length chains → x ≡ get_or chains i x → slice_get (text_lines chains) (i + 1) ≡ Some (chain_line x)
chain_there chains i x h is =
    rw (add-one i)
    (slice_get_in (map chain_line chains) (flat_map (rule_lines chains) chains ++ commit_line ∷ []) i (omega (arith, length-map chains chain_line))
    ∙ (slice_get-map chain_line chains i ∙ ap (option_map chain_line) (chain_read chains i x h is)))

pub rest_there : (chains : List Chain) (i : ℕ) → length chains ≤ i → slice_get (text_lines chains) (i + 1) ≡ slice_get (rest_lines chains 0) (i - length chains)
unfolding rest_lines
rest_there chains i past =
    rw (add-one i)
    (slice_get_after (map chain_line chains) (flat_map (rule_lines chains) chains ++ commit_line ∷ []) i (omega (arith, length-map chains chain_line))
    ∙ ap (λ (n : ℕ). slice_get (flat_map (rule_lines chains) chains ++ commit_line ∷ []) (i - n)) (length-map chains chain_line))
