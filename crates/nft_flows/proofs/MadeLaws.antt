-- The chains of a table give each packet a verdict: none of their rules returns.
use Rattle.std.proofs.Common.{◌≡◌, ℕ, zero, suc, ◌<◌, ◌≤◌, Bool, true, false, List, [], ◌∷◌, ◌++◌, Some, None, map, refl, sym, subst, arith}
use Rattle.std.specs.Prelude.{slice_get, length}
use Rattle.std.specs.List.{flat_map}
use Rattle.host_net.specs.declared.packet.Packet.{Packet}
use Rattle.host_net.specs.declared.packet.CtState.{CtState}
use Rattle.host_net.specs.declared.prefix.Prefix.{Prefix}
use Rattle.ipt_rules.specs.declared.rule.Rule.{Rule as ChainRule}
use Rattle.ipt_rules.specs.declared.rule.Target.{Target}
use Rattle.ipt_rules.specs.declared.rule.Target.TheVariants.{Drop as ToDrop}
use Rattle.ipt_rules.specs.Chain.{Chain, rules_of}
use Rattle.ipt_rules.specs.Matching.{matches}
use Rattle.ipt_rules.specs.Semantics.{Continues, Ends, Gives, JumpsTo, comes_back, ends, goes_on, step_of}
use Rattle.nft_rules.specs.declared.table.Chain.{Chain as TableChain}
use Rattle.nft_rules.specs.declared.table.Element.{Element}
use Rattle.nft_rules.specs.declared.table.End.{End}
use Rattle.nft_rules.specs.declared.table.Rule.{Rule}
use Rattle.nft_rules.specs.declared.table.Rule.TheVariants.{Map, Match}
use Rattle.nft_rules.specs.declared.table.Table.{Table}
use Rattle.nft_rules.specs.declared.table.Verdict.{Verdict}
use Rattle.nft_rules.specs.declared.table.Verdict.TheVariants.{Accept, Drop, Goto}
use Rattle.nft_rules.specs.Loadable.{LeadsBelow}
use Rattle.nft_chains.specs.Translation.{chain_number, chains_of, element_rules, every_packet, prefix_rule, prefixes_of, rules_of_rule, rules_of_rules, target_of}
use Rattle.nft_chains.proofs.VerdictLaws.{have_chains}

-- ---- Steps of rules with the target of a verdict

pub continues_not : (b : Bool) (t : Target) (v : Verdict) → t ≡ target_of v → step_of b t ≡ Continues → b ≡ false
continues_not false t v is step = refl
continues_not true t Accept is step = let never = rw is at step in absurd (cc never)
continues_not true t Drop is step = let never = rw is at step in absurd (cc never)
continues_not true t (Goto d) is step = let never = rw is at step in absurd (cc never)

returns_not : (b : Bool) (t : Target) (v : Verdict) → t ≡ target_of v → step_of b t ≡ Ends None → ⊥
returns_not false t v is step = cc step
returns_not true t Accept is step = let never = rw is at step in cc never
returns_not true t Drop is step = let never = rw is at step in cc never
returns_not true t (Goto d) is step = let never = rw is at step in cc never

jump_same : (c d : ℕ) → JumpsTo c ≡ JumpsTo d → c ≡ d
jump_same c d is = cc is

pub jumps_by : (b : Bool) (t : Target) (v : Verdict) (c : ℕ) → t ≡ target_of v → step_of b t ≡ JumpsTo c
    → (b ≡ true) × ((d : ℕ) × (v ≡ Goto d) × (c ≡ chain_number d))
jumps_by false t v c is step = absurd (cc step)
jumps_by true t Accept c is step = let never = rw is at step in absurd (cc never)
jumps_by true t Drop c is step = let never = rw is at step in absurd (cc never)
jumps_by true t (Goto d) c is step = let there = rw is at step in (refl, (d, refl, sym (jump_same (chain_number d) c there)))

-- ---- Rules of the chains of a table

-- The target of each rule is that of a verdict.
abbrev pub AreMade : List ChainRule → Type 0
AreMade [] = Unit {0}
AreMade (r ∷ rs) = ((v : Verdict) × (r.target ≡ target_of v)) × AreMade rs

made_append : (xs ys : List ChainRule) → AreMade xs → AreMade ys → AreMade (xs ++ ys)
made_append [] ys one two = two
made_append (x ∷ xs) ys one two = (one.0, made_append xs ys one.1 two)

made_prefixes : (end : End) (v : Verdict) (qs : List Prefix) → AreMade (map (prefix_rule end (target_of v)) qs)
made_prefixes end v [] = tt
made_prefixes end v (q ∷ qs) = ((v, refl), made_prefixes end v qs)

made_elements : (end : End) (es : List Element) → AreMade (flat_map (element_rules end) es)
made_elements end [] = tt
made_elements end (e ∷ es) =
    made_append (element_rules end e) (flat_map (element_rules end) es) (made_prefixes end e.verdict (prefixes_of e.range)) (made_elements end es)

made_rule : (rule : Rule) → AreMade (rules_of_rule rule)
made_rule (Map m) = made_elements m.end m.elements.items
made_rule (Match r) = ((r.verdict, refl), tt)

made_rules : (rules : List Rule) → AreMade (rules_of_rules rules)
made_rules [] = tt
made_rules (rule ∷ rules) = made_append (rules_of_rule rule) (rules_of_rules rules) (made_rule rule) (made_rules rules)

never_none : (state : CtState) (p : Packet) (chains : List Chain) (rs : List ChainRule) → AreMade rs
    → Gives (matches p state) chains (rs ++ every_packet ToDrop ∷ []) None → ⊥
never_none state p chains [] made (goes_on step later) = cc step
never_none state p chains [] made (ends step) = cc step
never_none state p chains [] made (comes_back step inside later) = cc step
never_none state p chains (r ∷ rs) made (goes_on step later) = never_none state p chains rs made.1 later
never_none state p chains (r ∷ rs) made (ends step) = returns_not (matches p state r) r.target made.0.0 made.0.1 step
never_none state p chains (r ∷ rs) made (comes_back step inside later) = never_none state p chains rs made.1 later

-- ---- Chains of the table

pub some_chain : (xs : List TableChain) (c : ℕ) → c < length xs → (x : TableChain) × (slice_get xs c ≡ Some x)
some_chain [] c low = absurd (omega (arith, low))
some_chain (x ∷ xs) zero low = (x, refl)
some_chain (x ∷ xs) (suc c) low = some_chain xs c (omega (arith, low))

-- The chain of a verdict, if it leads to one, does not return.
abbrev pub Stays : Table → CtState → Packet → Verdict → Type 0
Stays table state p Accept = Unit {0}
Stays table state p Drop = Unit {0}
Stays table state p (Goto c) = Gives (matches p state) (chains_of table) (rules_of (chains_of table) (chain_number c)) None → ⊥

pub stays : (table : Table) (state : CtState) (p : Packet) (n : ℕ) (v : Verdict) → n ≤ length table.chains.items → LeadsBelow n v → Stays table state p v
stays table state p n Accept few below = tt
stays table state p n Drop few below = tt
stays table state p n (Goto c) few below = λ gives.
    let found = some_chain table.chains.items c (omega (arith, few, below)) in
    never_none state p (chains_of table) (rules_of_rules found.0.rules.items) (made_rules found.0.rules.items)
    (subst (λ (rs : List ChainRule). Gives (matches p state) (chains_of table) rs None) (have_chains table c found.0 found.1) gives)
