-- The jumps of the chains of a table: each leads to an existing chain, and they form no cycle.
use Rattle.std.proofs.Common.{◌≡◌, ℕ, zero, suc, ◌+◌, ◌<◌, ◌≤◌, Bool, true, false, List, [], ◌∷◌, ◌++◌, Some, None, length, map, refl, ap, subst, ◌∙◌, arith}
use Rattle.std.specs.Prelude.{Contains, nat_le, nat_lt, slice_get}
use Rattle.std.specs.List.{All, cons_option, flat_map, list_all}
use Rattle.std.proofs.lemmas.Bool.{and_from, and_parts}
use Rattle.std.proofs.lemmas.Bool.Decides.{nat_tests}
use Rattle.std.proofs.lemmas.List.Elements.{All-nil, All-cons, All-contains}
use Rattle.std.proofs.lemmas.List.Folds.{list_all-append}
use Rattle.host_net.specs.declared.prefix.Prefix.{Prefix}
use Rattle.ipt_rules.specs.declared.rule.Rule.{Rule as ChainRule}
use Rattle.ipt_rules.specs.declared.rule.Target.{Target}
use Rattle.ipt_rules.specs.declared.rule.Target.TheVariants.{Accept as ToAccept, Drop as ToDrop, Reject, Return, Count, Jump}
use Rattle.ipt_rules.specs.Chain.{rules_of}
use Rattle.ipt_rules.specs.ChainTable.{rule_count}
use Rattle.ipt_rules.specs.Loops.{IsAcyclic, LeadsAlong, jump_of, jumps_from, jumps_of}
use Rattle.ipt_rules.specs.inner.Build.{first_unknown, refusal_of}
use Rattle.emit_core.proofs.LayoutLaws.{jumps_between, none_nowhere}
use Rattle.nft_rules.specs.declared.table.Chain.{Chain as TableChain}
use Rattle.nft_rules.specs.declared.table.Element.{Element}
use Rattle.nft_rules.specs.declared.table.End.{End}
use Rattle.nft_rules.specs.declared.table.Rule.{Rule}
use Rattle.nft_rules.specs.declared.table.Rule.TheVariants.{Map, Match}
use Rattle.nft_rules.specs.declared.table.Table.{Table}
use Rattle.nft_rules.specs.declared.table.Verdict.{Verdict}
use Rattle.nft_rules.specs.declared.table.Verdict.TheVariants.{Accept, Drop, Goto}
use Rattle.nft_rules.specs.Loadable.{AreRules, IsLoadable, IsRule, LeadBack, LeadBelow, LeadsBelow}
use Rattle.nft_chains.specs.Translation.{chains_from, chains_of, element_rules, every_packet, prefix_rule, prefixes_of, rules_of_rule, rules_of_rules, target_of}

-- The rules jump to the first n chains of the table only.
abbrev jump_below : ℕ → List ChainRule → Bool
jump_below n rules = list_all (λ r. jumps_between 3 (n + 3) r.target) rules

target_below : (n : ℕ) (v : Verdict) → LeadsBelow n v → jumps_between 3 (n + 3) (target_of v) ≡ true
target_below n Accept below = refl
target_below n Drop below = refl
target_below n (Goto c) below = grind (arith, nat_tests)

prefixes_below : (n : ℕ) (end : End) (target : Target) (qs : List Prefix) → jumps_between 3 (n + 3) target ≡ true
    → jump_below n (map (prefix_rule end target) qs) ≡ true
prefixes_below n end target [] below = refl
prefixes_below n end target (q ∷ qs) below = and_from _ _ below (prefixes_below n end target qs below)

elements_below : (n : ℕ) (end : End) (es : List Element) → LeadBelow n es → jump_below n (flat_map (element_rules end) es) ≡ true
elements_below n end [] below = refl
elements_below n end (e ∷ es) below =
    list_all-append (λ r. jumps_between 3 (n + 3) r.target) (element_rules end e) (flat_map (element_rules end) es)
    ∙ and_from _ _ (prefixes_below n end (target_of e.verdict) (prefixes_of e.range) (target_below n e.verdict below.0))
    (elements_below n end es below.1)

rule_below : (n : ℕ) (rule : Rule) → IsRule n rule → jump_below n (rules_of_rule rule) ≡ true
rule_below n (Map m) is = elements_below n m.end m.elements.items is.2
rule_below n (Match r) is = and_from _ _ (target_below n r.verdict is.1) refl

rules_below : (n : ℕ) (rules : List Rule) → AreRules n rules → jump_below n (rules_of_rules rules) ≡ true
rules_below n [] are = refl
rules_below n (rule ∷ rules) are =
    list_all-append (λ r. jumps_between 3 (n + 3) r.target) (rules_of_rule rule) (rules_of_rules rules)
    ∙ and_from _ _ (rule_below n rule are.0) (rules_below n rules are.1)

chain_below : (c : ℕ) (x : TableChain) → AreRules c x.rules.items → jump_below c (rules_of_rules x.rules.items ++ every_packet ToDrop ∷ []) ≡ true
chain_below c x are =
    list_all-append (λ r. jumps_between 3 (c + 3) r.target) (rules_of_rules x.rules.items) (every_packet ToDrop ∷ [])
    ∙ and_from _ _ (rules_below c x.rules.items are) refl

-- ---- The chains, numbered from k on

-- Each of the chains jumps to earlier chains.
abbrev AreBack : ℕ → List TableChain → Type 0
AreBack k xs = (c : ℕ) (x : TableChain) → slice_get xs c ≡ Some x → AreRules (k + c) x.rules.items

back_here : (k : ℕ) (x : TableChain) (xs : List TableChain) → AreBack k (x ∷ xs) → AreRules k x.rules.items
back_here k x xs back = let same : k + 0 ≡ k = omega arith in subst (λ (n : ℕ). AreRules n x.rules.items) same (back 0 x refl)

back_later : (k : ℕ) (x : TableChain) (xs : List TableChain) → AreBack k (x ∷ xs) → AreBack (k + 1) xs
back_later k x xs back c y there =
    let same : k + suc c ≡ k + 1 + c = omega arith in
    subst (λ (n : ℕ). AreRules n y.rules.items) same (back (suc c) y there)

pub back_all : (xs : List TableChain) → LeadBack xs → AreBack 0 xs
back_all xs back c x there =
    let same : c ≡ 0 + c = omega arith in
    subst (λ (n : ℕ). AreRules n x.rules.items) same (back c x there)

pub length-chains_from : (k : ℕ) (xs : List TableChain) → length (chains_from k xs) ≡ length xs
length-chains_from k [] = refl
length-chains_from k (x ∷ xs) = ap suc (length-chains_from (k + 1) xs)

pub length-chains_of : (table : Table) → length (chains_of table) ≡ length table.chains.items + 3
length-chains_of table = omega (arith, length-chains_from 0 table.chains.items)

known_from : (count c k : ℕ) (xs : List TableChain) → k + length xs + 3 ≤ count → AreBack k xs → first_unknown count c (chains_from k xs) ≡ None
known_from count c k [] room back = refl
known_from count c k (x ∷ xs) room back =
    rw (none_nowhere 3 (k + 3) count (omega arith) (omega arith) 0 (rules_of_rules x.rules.items ++ every_packet ToDrop ∷ [])
    (chain_below k x (back_here k x xs back)))
    (known_from count (c + 1) (k + 1) xs (omega (arith, room)) (back_later k x xs back))

-- Each jump leads to an existing chain.
known : (table : Table) → IsLoadable table → first_unknown (length (chains_of table)) 0 (chains_of table) ≡ None
known table is =
    let count = length (chains_of table) in
    let room : length table.chains.items + 3 ≤ count = omega (arith, length-chains_of table) in
    rw (none_nowhere 3 (length table.chains.items + 3) count (omega arith) room 0 (rules_of_rules table.forward.items)
    (rules_below (length table.chains.items) table.forward.items is.forward))
    (known_from count 3 0 table.chains.items (omega (arith, room)) (back_all table.chains.items is.back))

pub accepted : (table : Table) → IsLoadable table → length table.chains.items ≤ 4093 → rule_count (chains_of table) ≤ 1000000
    → refusal_of (chains_of table) ≡ None
unfolding refusal_of
accepted table is few few_rules =
    let chains : nat_lt 4096 (length (chains_of table)) ≡ false = grind (arith, nat_tests, length-chains_of table) in
    let rules : nat_lt 1000000 (rule_count (chains_of table)) ≡ false = grind (arith, nat_tests) in
    rw (chains, rules) (known table is)

-- ---- No cycle

-- The jump leads to one of the first n chains of the table.
abbrev IsBelow : ℕ → ℕ → Type 0
IsBelow n d = (3 ≤ d) × (d < n + 3)

target_jumps : (n : ℕ) (t : Target) (xs : List ℕ) → jumps_between 3 (n + 3) t ≡ true → All (IsBelow n) xs → All (IsBelow n) (cons_option (jump_of t) xs)
target_jumps n ToAccept xs below all = all
target_jumps n ToDrop xs below all = all
target_jumps n Reject xs below all = all
target_jumps n Return xs below all = all
target_jumps n Count xs below all = all
target_jumps n (Jump d) xs below all =
    let parts = and_parts (nat_le 3 d) (nat_lt d (n + 3)) below in
    let low : 3 ≤ d = grind (arith, nat_tests, parts.0) in
    let high : d < n + 3 = grind (arith, nat_tests, parts.1) in
    All-cons (IsBelow n) d xs (low, high) all

rules_jump : (n : ℕ) (rules : List ChainRule) → jump_below n rules ≡ true → All (IsBelow n) (jumps_of rules)
rules_jump n [] below = All-nil (IsBelow n)
rules_jump n (r ∷ rules) below =
    let parts = and_parts (jumps_between 3 (n + 3) r.target) (jump_below n rules) below in
    target_jumps n r.target (jumps_of rules) parts.0 (rules_jump n rules parts.1)

-- The chains of the table that chain c may jump to: those before it, and all from FORWARD.
abbrev reach : ℕ → ℕ → ℕ
reach n zero = 0
reach n (suc zero) = n
reach n (suc (suc zero)) = 0
reach n (suc (suc (suc c))) = c

from_below : (k c : ℕ) (xs : List TableChain) → AreBack k xs → jump_below (k + c) (rules_of (chains_from k xs) c) ≡ true
from_below k c [] back = refl
from_below k zero (x ∷ xs) back =
    let same : k ≡ k + 0 = omega arith in
    subst (λ (n : ℕ). jump_below n (rules_of_rules x.rules.items ++ every_packet ToDrop ∷ []) ≡ true) same (chain_below k x (back_here k x xs back))
from_below k (suc c) (x ∷ xs) back =
    let same : k + 1 + c ≡ k + suc c = omega arith in
    subst (λ (n : ℕ). jump_below n (rules_of (chains_from (k + 1) xs) c) ≡ true) same (from_below (k + 1) c xs (back_later k x xs back))

each_below : (table : Table) (c : ℕ) → IsLoadable table → jump_below (reach (length table.chains.items) c) (rules_of (chains_of table) c) ≡ true
each_below table zero is = refl
each_below table (suc zero) is = rules_below (length table.chains.items) table.forward.items is.forward
each_below table (suc (suc zero)) is = refl
each_below table (suc (suc (suc c))) is =
    let same : 0 + c ≡ c = omega arith in
    subst (λ (n : ℕ). jump_below n (rules_of (chains_from 0 table.chains.items) c) ≡ true) same
    (from_below 0 c table.chains.items (back_all table.chains.items is.back))

one_jump : (table : Table) (c d : ℕ) → IsLoadable table → Contains (jumps_from (chains_of table) c) d → IsBelow (reach (length table.chains.items) c) d
one_jump table c d is jump =
    All-contains (IsBelow (reach (length table.chains.items) c)) (jumps_from (chains_of table) c) d
    (rules_jump (reach (length table.chains.items) c) (rules_of (chains_of table) c) (each_below table c is)) jump

-- A chain of the table may jump to the chains before it.
reach_there : (n d : ℕ) → 3 ≤ d → reach n d + 3 ≡ d
reach_there n zero there = absurd (omega arith)
reach_there n (suc zero) there = absurd (omega arith)
reach_there n (suc (suc zero)) there = absurd (omega arith)
reach_there n (suc (suc (suc d))) there = omega arith

along_back : (table : Table) (c d most : ℕ) (xs : List ℕ) → IsLoadable table → IsBelow most c → LeadsAlong (jumps_from (chains_of table)) c xs d
    → IsBelow most d
along_back table c d most [] is below here = subst (IsBelow most) here below
along_back table c d most (x ∷ xs) is below (jump, walk) =
    let one = one_jump table c x is jump in
    let there = reach_there (length table.chains.items) c below.0 in
    along_back table x d most xs is (one.0, omega (arith, one.1, there, below.1)) walk

pub acyclic : (table : Table) → IsLoadable table → IsAcyclic (chains_of table)
acyclic table is c (x, xs, (jump, walk)) =
    let n = length table.chains.items in
    let back = along_back table x c (reach n c) xs is (one_jump table c x is jump) walk in
    omega (arith, reach_there n c back.0, back.1)
