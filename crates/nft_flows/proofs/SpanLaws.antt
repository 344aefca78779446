-- Lists of spans that are made one by one.
use Rattle.std.proofs.Common.{◌≡◌, ℕ, zero, suc, ◌+◌, ◌-◌, ◌<◌, ◌≤◌, ◌^◌, Bool, true, List, [], ◌∷◌, ◌++◌, Option, Some, get_or, length, drop, take, refl, sym, ap, subst, ◌∙◌, append_assoc, arith, length-append}
use Rattle.std.specs.Prelude.{slice_get}
use Rattle.std.specs.List.{AllZip, flat_map, list_all, range_with_len}
use Rattle.std.proofs.lemmas.Bool.{false≢true}
use Rattle.std.proofs.lemmas.List.{drop_more, length-map, take_more}
use Rattle.host_net.specs.declared.prefix.Prefix.{Prefix}
use Rattle.header_space.specs.declared.address_range.AddressRange.{AddressRange}
use Rattle.ipt_rules.specs.declared.rule.Target.TheVariants.{Drop as ToDrop}
use Rattle.ipt_rules.specs.ChainTable.{rule_count}
use Rattle.ipt_rules.proofs.NextLemmas.{chain_few}
use Rattle.nft_rules.specs.declared.table.Chain.{Chain}
use Rattle.nft_rules.specs.declared.table.Element.{Element}
use Rattle.nft_rules.specs.declared.table.End.{End}
use Rattle.nft_rules.specs.declared.table.Rule.{Rule}
use Rattle.nft_rules.specs.declared.table.Rule.TheVariants.{Map, Match}
use Rattle.nft_rules.specs.declared.table.Table.{Table}
use Rattle.nft_rules.specs.Loadable.{AreRules, AscendFrom, IsRule}
use Rattle.nft_chains.specs.Translation.{chain_number, chains_of, element_rules, every_packet, prefix_rule, prefixes_of, rules_of_rule, rules_of_rules, target_of}
use Rattle.nft_chains.proofs.CoverLaws.{is_covered, lies_covered}
use Rattle.nft_chains.proofs.VerdictLaws.{have_chains}
use Rattle.nft_flows.specs.declared.span.Span.{Span}
use Rattle.nft_flows.specs.inner.ChainRules.{AreRanges, HaveChainRules, HasChainRules}
use Rattle.nft_flows.specs.inner.Spans.{span_at, spans_from, spans_of_elements, spans_of_rule, spans_of_rules}

-- ---- Lists in pairs

zip_push : {X Y : Type 0} (R : X → Y → Type 0) (xs : List X) (ys : List Y) (x : X) (y : Y) → AllZip R xs ys → R x y → AllZip R (xs ++ x ∷ []) (ys ++ y ∷ [])
zip_push R [] [] x y all one = (one, tt)
zip_push R [] (z ∷ ys) x y all one = absurd all
zip_push R (z ∷ xs) [] x y all one = absurd all
zip_push R (z ∷ xs) (w ∷ ys) x y all one = (all.0, zip_push R xs ys x y all.1 one)

pub zip_more : {X Y : Type 0} (R : X → Y → Type 0) (xs : List X) (i : ℕ) (x : X) (old new : List Y) (y : Y) → i < length xs → x ≡ get_or xs i x
    → new ≡ old ++ y ∷ [] → AllZip R (take i xs) old → R x y → AllZip R (take (i + 1) xs) new
zip_more {Y = Y} R xs i x old new y low is pushed all one =
    subst (λ (l : List Y). AllZip R (take (i + 1) xs) l) (sym pushed)
    (subst (λ l. AllZip R l (old ++ y ∷ [])) (ap (λ z. take i xs ++ z ∷ []) is ∙ sym (take_more xs i x low)) (zip_push R (take i xs) old x y all one))

-- ---- Intervals have prefixes

covered_some : (a : ℕ) (qs : List Prefix) → is_covered a qs ≡ true → 0 < length qs
covered_some a [] covered = absurd (false≢true covered)
covered_some a (q ∷ qs) covered = omega arith

pub some_prefix : (first last : ℕ) → first < 2 ^ 32 → first ≤ last → 0 < length (prefixes_of (record { first = first; last = last }))
some_prefix first last small some =
    let range : AddressRange = record { first = first; last = last } in
    covered_some first (prefixes_of range) (lies_covered first range small (omega arith, some))

ascend_ranges : (from : ℕ) (es : List Element) → AscendFrom from es → AreRanges es
ascend_ranges from [] ascend = tt
ascend_ranges from (e ∷ es) ascend = (ascend.1, ascend_ranges (e.range.last + 1) es ascend.2)

rule_has_chain_rules : (n : ℕ) (rule : Rule) → IsRule n rule → HasChainRules rule
rule_has_chain_rules n (Map m) is = (some_elements m.elements.items is.0, ascend_ranges 0 m.elements.items is.1)
  where
    some_elements : (es : List Element) → (es ≡ [] → ⊥) → 0 < length es
    some_elements [] some = absurd (some refl)
    some_elements (e ∷ es) some = omega arith
rule_has_chain_rules n (Match r) is = tt

pub rules_have_chain_rules : (n : ℕ) (rules : List Rule) → AreRules n rules → HaveChainRules rules
rules_have_chain_rules n [] are = tt
rules_have_chain_rules n (rule ∷ rules) are = (rule_has_chain_rules n rule are.0, rules_have_chain_rules n rules are.1)

-- ---- The next element

pub range_there : (es : List Element) (i : ℕ) (d : Element) → i < length es → AreRanges es → (get_or es i d).range.first ≤ (get_or es i d).range.last
range_there [] i d low are = absurd (omega (arith, low))
range_there (e ∷ es) zero d low are = are.0
range_there (e ∷ es) (suc i) d low are = range_there es i d (omega (arith, low)) are.1

pub elements_next : (end : End) (es : List Element) (i : ℕ) (d : Element) → i < length es
    → length (flat_map (element_rules end) (drop i es))
    ≡ length (prefixes_of (get_or es i d).range) + length (flat_map (element_rules end) (drop (i + 1) es))
elements_next end es i d low =
    let e = get_or es i d in
    let others = flat_map (element_rules end) (drop (i + 1) es) in
    ap (λ (l : List Element). length (flat_map (element_rules end) l)) (drop_more es i d low)
    ∙ length-append (element_rules end e) others
    ∙ ap (λ (n : ℕ). n + length others) (length-map (prefixes_of e.range) (prefix_rule end (target_of e.verdict)))

pub spans_next : (chain : Option ℕ) (k i n next : ℕ) (es : List Element) (d : Element) (old new all : List Span) → i < length es
    → next ≡ n + length (prefixes_of (get_or es i d).range) → new ≡ old ++ span_at chain k (Some i) n next ∷ []
    → old ++ spans_of_elements chain k i n (drop i es) ≡ all
    → new ++ spans_of_elements chain k (i + 1) next (drop (i + 1) es) ≡ all
spans_next chain k i n next es d old new all low is pushed before =
    let rest = spans_of_elements chain k (i + 1) next (drop (i + 1) es) in
    let here : spans_of_elements chain k i n (drop i es) ≡ span_at chain k (Some i) n next ∷ rest =
    ap (λ (l : List Element). spans_of_elements chain k i n l) (drop_more es i d low)
    ∙ ap (λ (m : ℕ). span_at chain k (Some i) n m ∷ spans_of_elements chain k (i + 1) m (drop (i + 1) es)) (sym is) in
    ap (λ (l : List Span). l ++ rest) pushed ∙ append_assoc old (span_at chain k (Some i) n next ∷ []) rest
    ∙ ap (λ (l : List Span). old ++ l) (sym here) ∙ before

-- ---- The next rule

pub chain_rules_at : (rules : List Rule) (i : ℕ) (d : Rule) → i < length rules → HaveChainRules rules → HasChainRules (get_or rules i d)
chain_rules_at [] i d low are = absurd (omega (arith, low))
chain_rules_at (r ∷ rs) zero d low are = are.0
chain_rules_at (r ∷ rs) (suc i) d low are = chain_rules_at rs i d (omega (arith, low)) are.1

pub rules_next : (rules : List Rule) (i : ℕ) (d : Rule) → i < length rules
    → length (rules_of_rules (drop i rules)) ≡ length (rules_of_rule (get_or rules i d)) + length (rules_of_rules (drop (i + 1) rules))
rules_next rules i d low =
    ap (λ (l : List Rule). length (rules_of_rules l)) (drop_more rules i d low)
    ∙ length-append (rules_of_rule (get_or rules i d)) (rules_of_rules (drop (i + 1) rules))

pub rule_spans_next : (chain : Option ℕ) (i n next : ℕ) (rules : List Rule) (r : Rule) (old new all : List Span) → i < length rules
    → r ≡ get_or rules i r → next ≡ n + length (rules_of_rule r) → new ≡ old ++ spans_of_rule chain i n r
    → old ++ spans_of_rules chain i n (drop i rules) ≡ all
    → new ++ spans_of_rules chain (i + 1) next (drop (i + 1) rules) ≡ all
rule_spans_next chain i n next rules r old new all low at is pushed before =
    let rest = spans_of_rules chain (i + 1) next (drop (i + 1) rules) in
    let here : spans_of_rules chain i n (drop i rules) ≡ spans_of_rule chain i n r ++ rest =
    ap (λ (l : List Rule). spans_of_rules chain i n l) (drop_more rules i r low ∙ ap (λ (x : Rule). x ∷ drop (i + 1) rules) (sym at))
    ∙ ap (λ (m : ℕ). spans_of_rule chain i n r ++ spans_of_rules chain (i + 1) m (drop (i + 1) rules)) (sym is) in
    ap (λ (l : List Span). l ++ rest) pushed ∙ append_assoc old (spans_of_rule chain i n r) rest
    ∙ ap (λ (l : List Span). old ++ l) (sym here) ∙ before

-- ---- The next chain

pub chain_spans_next : (i : ℕ) (chains : List Chain) (x : Chain) (rules : List Rule) (old new all : List Span) → i < length chains → x ≡ get_or chains i x
    → rules ≡ x.rules.items → new ≡ old ++ spans_of_rules (Some i) 0 0 rules → old ++ spans_from i (drop i chains) ≡ all
    → new ++ spans_from (i + 1) (drop (i + 1) chains) ≡ all
chain_spans_next i chains x rules old new all low at own pushed before =
    let rest = spans_from (i + 1) (drop (i + 1) chains) in
    let here : spans_from i (drop i chains) ≡ spans_of_rules (Some i) 0 0 rules ++ rest =
    ap (λ (l : List Chain). spans_from i l) (drop_more chains i x low ∙ ap (λ (y : Chain). y ∷ drop (i + 1) chains) (sym at))
    ∙ ap (λ (rs : List Rule). spans_of_rules (Some i) 0 0 rs ++ rest) (sym own) in
    ap (λ (l : List Span). l ++ rest) pushed ∙ append_assoc old (spans_of_rules (Some i) 0 0 rules) rest
    ∙ ap (λ (l : List Span). old ++ l) (sym here) ∙ before

pub forward_few : (table : Table) (most : ℕ) → rule_count (chains_of table) < most → length (rules_of_rules table.forward.items) < most
forward_few table most few = let one = chain_few (chains_of table) 1 in omega (arith, one, few)

pub chain_rules_few : (table : Table) (i : ℕ) (x : Chain) (most : ℕ) → slice_get table.chains.items i ≡ Some x → rule_count (chains_of table) < most
    → length (rules_of_rules x.rules.items) < most
chain_rules_few table i x most there few =
    let one = chain_few (chains_of table) (chain_number i) in
    let same = ap length (have_chains table i x there) in
    omega (arith, one, few, same, length-append (rules_of_rules x.rules.items) (every_packet ToDrop ∷ []))

-- ---- Tests of consecutive numbers

pub all_next : (f : ℕ → Bool) (a b : ℕ) → a < b → f a ≡ true
    → list_all f (range_with_len (a + 1) (b - (a + 1))) ≡ list_all f (range_with_len a (b - a))
all_next f a b low on =
    let more : b - a ≡ suc (b - (a + 1)) = omega (arith, low) in
    rw (more, on) refl
