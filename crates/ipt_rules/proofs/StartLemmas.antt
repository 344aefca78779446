-- The number of the first rule of each chain, and the line at an offset from it.
use Rattle.std.proofs.Common.{◌≡◌, ℕ, zero, suc, ◌+◌, ◌-◌, ◌<◌, ◌≤◌, ◌∙◌, sym, ap, refl, List, [], ◌∷◌, ◌++◌, length, get_or, take, drop, arith, append_assoc, take-append-drop}
use Rattle.std.specs.Prelude.{slice_get}
use Rattle.std.specs.List.{flat_map}
use Rattle.std.specs.List.Sorted.{IsNonDecreasingBy}
use Rattle.std.proofs.lemmas.Grind.{flat_map-append}
use Rattle.std.proofs.Math.Numerals.{add-one}
use Rattle.ipt_rules.specs.Chain.{Chain}
use Rattle.ipt_rules.specs.ChainTable.{rule_count}
use Rattle.ipt_rules.specs.inner.Starts.{starts_from}
use Rattle.ipt_rules.specs.Text.{rule_lines, commit_line}
use Rattle.ipt_rules.proofs.TextLaws.{rule_line_count}
use Rattle.ipt_rules.proofs.TextLemmas.{rest_lines, slice_get_after}

pub length-starts : (n : ℕ) (xs : List Chain) → length (starts_from n xs) ≡ length xs
length-starts n [] = refl
length-starts n (x ∷ xs) = ap suc (length-starts (n + length x.rules) xs)

pub start_at : (n : ℕ) (xs : List Chain) (c d : ℕ) → c < length xs → get_or (starts_from n xs) c d ≡ n + rule_count (take c xs)
start_at n [] c d h = absurd (omega arith)
start_at n (x ∷ xs) zero d h = omega arith
start_at n (x ∷ xs) (suc c) d h = let rest = start_at (n + length x.rules) xs c d (omega arith) in omega (arith, rest)

count_up : (xs : List Chain) (i j : ℕ) → i ≤ j → rule_count (take i xs) ≤ rule_count (take j xs)
count_up [] zero j h = omega arith
count_up [] (suc i) j h = omega arith
count_up (x ∷ xs) zero j h = omega arith
count_up (x ∷ xs) (suc i) zero h = absurd (omega arith)
count_up (x ∷ xs) (suc i) (suc j) h = let rest = count_up xs i j (omega arith) in omega (arith, rest)

pub starts_rise : (xs : List Chain) → IsNonDecreasingBy (λ n. n) (starts_from 0 xs)
starts_rise xs = λ i j d low within.
    let inside : j < length xs = omega (arith, within, length-starts 0 xs) in
    let here = start_at 0 xs i d (omega (arith, low, inside)) in
    let there = start_at 0 xs j d inside in
    omega (arith, here, there, count_up xs i j low)

count_suc : (xs : List Chain) (c : ℕ) (x : Chain) → c < length xs → x ≡ get_or xs c x → rule_count (take (suc c) xs) ≡ rule_count (take c xs) + length x.rules
count_suc [] c x h is = absurd (omega arith)
count_suc (y ∷ ys) zero x h is = let same : length x.rules ≡ length y.rules = ap (λ (z : Chain). length z.rules) is in omega (arith, same)
count_suc (y ∷ ys) (suc c) x h is = let rest = count_suc ys c x (omega arith) is in omega (arith, rest)

-- The rules before a chain, together with its own rules.
pub count_next : (xs : List Chain) (c : ℕ) (x : Chain) → c < length xs → x ≡ get_or xs c x → rule_count (take (c + 1) xs) ≡ rule_count (take c xs) + length x.rules
count_next xs c x h is = rw (add-one c) (count_suc xs c x h is)

pub count_split : (xs : List Chain) (c : ℕ) → rule_count xs ≡ rule_count (take c xs) + rule_count (drop c xs)
count_split [] zero = omega arith
count_split [] (suc c) = omega arith
count_split (x ∷ xs) zero = omega arith
count_split (x ∷ xs) (suc c) = let rest = count_split xs c in omega (arith, rest)

-- The line at an offset from the start of a chain.
pub rest_from : (chains : List Chain) (c left : ℕ) → slice_get (rest_lines chains 0) (rule_count (take c chains) + left) ≡ slice_get (rest_lines chains c) left
unfolding rest_lines
rest_from chains c left =
    let front = flat_map (rule_lines chains) (take c chains) in
    let back = flat_map (rule_lines chains) (drop c chains) in
    let cut : flat_map (rule_lines chains) chains ≡ front ++ back =
    ap (flat_map (rule_lines chains)) (sym (take-append-drop c chains)) ∙ flat_map-append (rule_lines chains) (take c chains) (drop c chains) in
    let long : length front ≡ rule_count (take c chains) = rule_line_count chains (take c chains) in
    let behind : rule_count (take c chains) + left - length front ≡ left = omega (arith, long) in
    ap (λ (ls : List (List ℕ)). slice_get (ls ++ commit_line ∷ []) (rule_count (take c chains) + left)) cut
    ∙ ap (λ (ls : List (List ℕ)). slice_get ls (rule_count (take c chains) + left)) (append_assoc front back (commit_line ∷ []))
    ∙ slice_get_after front (back ++ commit_line ∷ []) (rule_count (take c chains) + left) (omega (arith, long))
    ∙ ap (slice_get (back ++ commit_line ∷ [])) behind

pub begins : (chains : List Chain) (starts : List ℕ) (c : ℕ) → starts ≡ starts_from 0 chains → c < length chains → get_or starts c 0 ≡ rule_count (take c chains)
begins chains starts c are h =
    let at = start_at 0 chains c 0 h in
    ap (λ (ys : List ℕ). get_or ys c 0) are ∙ omega (arith, at)

-- A line after the chain lines, counted from a chain that begins at its number or before it.
pub line_from : (chains : List Chain) (starts : List ℕ) (c number : ℕ) → starts ≡ starts_from 0 chains → c < length chains → get_or starts c 0 ≤ number
    → slice_get (rest_lines chains 0) number ≡ slice_get (rest_lines chains c) (number - get_or starts c 0)
line_from chains starts c number are h begun =
    let at = begins chains starts c are h in
    let whole : number ≡ rule_count (take c chains) + (number - get_or starts c 0) = omega (arith, at, begun) in
    ap (slice_get (rest_lines chains 0)) whole ∙ rest_from chains c (number - get_or starts c 0)
