-- The test of a table decides whether it can be loaded.
use Rattle.std.proofs.Common.{◌≡◌, ◌≢◌, ◌∙◌, ◌+◌, ◌≤◌, ◌<◌, ℕ, zero, suc, Bool, true, false, ◌&&◌, ◌||◌, not, List, [], ◌∷◌, ◌++◌, Some, Vec, Global, map, length, refl, sym, ap, subst, arith, nat_lt}
use Rattle.std.specs.Prelude.{◌==◌, if◌then◌else◌, nat_le, slice_get, bytes_eq, codes, IsTrue}
use Rattle.std.specs.Bool.{Decides}
use Rattle.std.specs.List.{list_all, list_any}
use Rattle.std.proofs.lemmas.Bool.{and_parts}
use Rattle.std.proofs.lemmas.Bool.Decides.{Decides-and, Decides-not, nat_tests}
use Rattle.std.proofs.lemmas.Slice.Eq.{bytes_eq-Decides}
use Rattle.std.proofs.lemmas.Option.{same_Some}
use Rattle.text_core.specs.Name.{is_name_byte}
use Rattle.nft_rules.specs.declared.table.Chain.{Chain}
use Rattle.nft_rules.specs.declared.table.Element.{Element}
use Rattle.nft_rules.specs.declared.table.Rule.{Rule}
use Rattle.nft_rules.specs.declared.table.Rule.TheVariants.{Map, Match}
use Rattle.nft_rules.specs.declared.table.Table.{Table}
use Rattle.nft_rules.specs.declared.table.VerdictMap.{VerdictMap}
use Rattle.nft_rules.specs.declared.table.Verdict.{Verdict}
use Rattle.nft_rules.specs.declared.table.Verdict.TheVariants.{Accept, Drop, Goto}
use Rattle.nft_rules.specs.Loadable.{AreDistinct, AreRules, AscendFrom, IsChainName, IsLoadable, IsRule, LeadBelow, LeadsBelow, begins_with_letter, is_service_match}
use Rattle.nft_space.specs.inner.Checks.{are_chains, are_distinct, are_elements, are_rules, ascend_from, begins_later, has_elements, is_chain, is_chain_name, is_loadable, is_rule, leads_below}

le_decided : (a b : ℕ) → Decides (nat_le a b) (a ≤ b)
le_decided a b = (λ is. grind (arith, nat_tests), λ le. grind (arith, nat_tests))

lt_decided : (a b : ℕ) → Decides (nat_lt a b) (a < b)
lt_decided a b = (λ is. grind (arith, nat_tests), λ less. grind (arith, nat_tests))

-- ---- Rules

leads_decided : (n : ℕ) (v : Verdict) → Decides (leads_below n v) (LeadsBelow n v)
leads_decided n Accept = (λ is. tt, λ below. refl)
leads_decided n Drop = (λ is. tt, λ below. refl)
leads_decided n (Goto c) = lt_decided c n

ascend_decided : (from : ℕ) (es : List Element) → Decides (ascend_from from es) (AscendFrom from es)
ascend_decided from [] = (λ is. tt, λ ascend. refl)
ascend_decided from (e ∷ es) =
    let later = ascend_decided (e.range.last + 1) es in
    let both = Decides-and (begins_later from e) (ascend_from (e.range.last + 1) es)
    (Decides-and (nat_le from e.range.first) (nat_le e.range.first e.range.last) (le_decided from e.range.first) (le_decided e.range.first e.range.last)) later in
    (λ is. let parts = both.0 is in (parts.0.0, parts.0.1, parts.1), λ ascend. both.1 ((ascend.0, ascend.1), ascend.2))

below_decided : (n : ℕ) (es : List Element) → Decides (list_all (λ e. leads_below n e.verdict) es) (LeadBelow n es)
below_decided n [] = (λ is. tt, λ below. refl)
below_decided n (e ∷ es) =
    Decides-and (leads_below n e.verdict) (list_all (λ x. leads_below n x.verdict) es) (leads_decided n e.verdict) (below_decided n es)

has_decided : (es : List Element) → Decides (has_elements es) (es ≢ [])
has_decided [] = (λ is. cc, λ some. absurd (some refl))
has_decided (e ∷ es) = (λ is. λ none. cc, λ some. refl)

elements_decided : (n : ℕ) (es : List Element) → Decides (are_elements n es) ((es ≢ []) × AscendFrom 0 es × LeadBelow n es)
elements_decided n es =
    let both = Decides-and (has_elements es) (ascend_from 0 es && list_all (λ e. leads_below n e.verdict) es) (has_decided es)
    (Decides-and (ascend_from 0 es) (list_all (λ e. leads_below n e.verdict) es) (ascend_decided 0 es) (below_decided n es)) in
    (λ is. let parts = both.0 is in (parts.0, parts.1.0, parts.1.1), λ are. both.1 (are.0, (are.1, are.2)))

true_decided : (b : Bool) → Decides b (IsTrue b)
true_decided b = (λ is. is, λ is. is)

pub rule_decided : (n : ℕ) (rule : Rule) → Decides (is_rule n rule) (IsRule n rule)
rule_decided n (Map m) = elements_decided n m.elements.items
rule_decided n (Match r) =
    Decides-and (is_service_match r.service) (leads_below n r.verdict) (true_decided (is_service_match r.service)) (leads_decided n r.verdict)

rules_decided : (n : ℕ) (rules : List Rule) → Decides (are_rules n rules) (AreRules n rules)
rules_decided n [] = (λ is. tt, λ are. refl)
rules_decided n (rule ∷ rules) = Decides-and (is_rule n rule) (are_rules n rules) (rule_decided n rule) (rules_decided n rules)

-- ---- Chains

pub name_decided : (name : List ℕ) → Decides (is_chain_name name) (IsChainName name)
name_decided name =
    let other = Decides-not (bytes_eq name (codes "forward")) (bytes_eq-Decides name (codes "forward")) in
    let short = Decides-and (nat_le (length name) 128) (not (bytes_eq name (codes "forward"))) (le_decided (length name) 128) other in
    let bytes = Decides-and (list_all is_name_byte name) (nat_le (length name) 128 && not (bytes_eq name (codes "forward")))
    (true_decided (list_all is_name_byte name)) short in
    let keyword = Decides-and (list_any (λ b. b == 95) name)
    (list_all is_name_byte name && (nat_le (length name) 128 && not (bytes_eq name (codes "forward"))))
    (true_decided (list_any (λ b. b == 95) name)) bytes in
    let all = Decides-and (begins_with_letter name)
    (list_any (λ b. b == 95) name && (list_all is_name_byte name && (nat_le (length name) 128 && not (bytes_eq name (codes "forward")))))
    (true_decided (begins_with_letter name)) keyword in (
      λ is. let parts = all.0 is in record { letter = parts.0; no_keyword = parts.1.0; bytes = parts.1.1.0; short = parts.1.1.1.0; other = parts.1.1.1.1 },
      λ named. all.1 (named.letter, (named.no_keyword, (named.bytes, (named.short, named.other)))),
    )

chain_decided : (c : ℕ) (x : Chain) → Decides (is_chain c x) (AreRules c x.rules.items × IsChainName x.name.items)
chain_decided c x = Decides-and (are_rules c x.rules.items) (is_chain_name x.name.items) (rules_decided c x.rules.items) (name_decided x.name.items)

first_chain : (c : ℕ) (x : Chain) (xs : List Chain) → AreRules c x.rules.items × IsChainName x.name.items
    → ((i : ℕ) (y : Chain) → slice_get xs i ≡ Some y → AreRules (c + 1 + i) y.rules.items × IsChainName y.name.items)
    → (i : ℕ) (y : Chain) → slice_get (x ∷ xs) i ≡ Some y → AreRules (c + i) y.rules.items × IsChainName y.name.items
first_chain c x xs here later zero y is =
    subst (λ (z : Chain). AreRules (c + 0) z.rules.items × IsChainName z.name.items) (same_Some x y is)
    (subst (λ (n : ℕ). AreRules n x.rules.items × IsChainName x.name.items) (let e : c ≡ c + 0 = omega arith in e) here)
first_chain c x xs here later (suc i) y is =
    subst (λ (n : ℕ). AreRules n y.rules.items × IsChainName y.name.items) (let e : c + 1 + i ≡ c + suc i = omega arith in e) (later i y is)

chains_decided : (c : ℕ) (xs : List Chain)
    → Decides (are_chains c xs) ((i : ℕ) (x : Chain) → slice_get xs i ≡ Some x → AreRules (c + i) x.rules.items × IsChainName x.name.items)
chains_decided c [] = (λ is. λ i x there. cc, λ are. refl)
chains_decided c (x ∷ xs) =
    let later = chains_decided (c + 1) xs in
    let both = Decides-and (is_chain c x) (are_chains (c + 1) xs) (chain_decided c x) later in (
      λ is. let parts = both.0 is in first_chain c x xs parts.0 parts.1,
      λ are. both.1 (
        subst (λ (n : ℕ). AreRules n x.rules.items × IsChainName x.name.items) (let e : c + 0 ≡ c = omega arith in e) (are 0 x refl),
        λ i y is. subst (λ (n : ℕ). AreRules n y.rules.items × IsChainName y.name.items) (let e : c + suc i ≡ c + 1 + i = omega arith in e) (are (suc i) y is),
      ),
    )

-- ---- Distinct names

or_false : (b : Bool) → (b || false) ≡ b
or_false true = refl
or_false false = refl

or_again : (a b c : Bool) → (a || (b || c)) ≡ ((a || b) || c)
or_again true b c = refl
or_again false b c = refl

or_parts : (a b : Bool) → (a || b) ≡ false → (a ≡ false) × (b ≡ false)
or_parts true b is = cc
or_parts false b is = (refl, is)

or_none : (a b : Bool) → a ≡ false → b ≡ false → (a || b) ≡ false
or_none true b one two = cc
or_none false b one two = two

suc_same : (c d : ℕ) → suc c ≡ suc d → c ≡ d
suc_same c d is = omega (arith, is)

any_front : (t : List ℕ → Bool) (xs : List (List ℕ)) (x : List ℕ) → list_any t (xs ++ x ∷ []) ≡ (list_any t xs || t x)
any_front t [] x = or_false (t x)
any_front t (y ∷ xs) x = ap (λ b. t y || b) (any_front t xs x) ∙ or_again (t y) (list_any t xs) (t x)

not_true : (b : Bool) → not b ≡ true → b ≡ false
not_true true is = cc
not_true false is = refl

distinct_new : (seen : List (List ℕ)) (xs : List Chain) → are_distinct seen xs ≡ true
    → (d : ℕ) (x : Chain) → slice_get xs d ≡ Some x → list_any (bytes_eq x.name.items) seen ≡ false
distinct_new seen [] is d x there = cc
distinct_new seen (y ∷ xs) is zero x there =
    let parts = and_parts (not (list_any (bytes_eq y.name.items) seen)) (are_distinct (seen ++ y.name.items ∷ []) xs) is in
    subst (λ (z : Chain). list_any (bytes_eq z.name.items) seen ≡ false) (same_Some y x there) (not_true _ parts.0)
distinct_new seen (y ∷ xs) is (suc d) x there =
    let parts = and_parts (not (list_any (bytes_eq y.name.items) seen)) (are_distinct (seen ++ y.name.items ∷ []) xs) is in
    let later = distinct_new (seen ++ y.name.items ∷ []) xs parts.1 d x there in
    (or_parts _ _ (sym (any_front (bytes_eq x.name.items) seen y.name.items) ∙ later)).0

-- A later chain has another name than the first.
first_apart : (seen : List (List ℕ)) (y : Chain) (xs : List Chain) → are_distinct (seen ++ y.name.items ∷ []) xs ≡ true
    → (d : ℕ) (x : Chain) → slice_get xs d ≡ Some x → x.name.items ≡ y.name.items → ⊥
first_apart seen y xs is d x there same =
    let later = distinct_new (seen ++ y.name.items ∷ []) xs is d x there in
    let differs = (or_parts _ _ (sym (any_front (bytes_eq x.name.items) seen y.name.items) ∙ later)).1 in
    let equal = (bytes_eq-Decides x.name.items y.name.items).1 same in
    let clash : true ≡ false = sym equal ∙ differs in
    cc

distinct_made : (seen : List (List ℕ)) (xs : List Chain) → are_distinct seen xs ≡ true
    → (c d : ℕ) (x y : Chain) → slice_get xs c ≡ Some x → slice_get xs d ≡ Some y → x.name.items ≡ y.name.items → c ≡ d
distinct_made seen [] is c d x y at there same = cc
distinct_made seen (z ∷ xs) is zero zero x y at there same = refl
distinct_made seen (z ∷ xs) is zero (suc d) x y at there same =
    let parts = and_parts (not (list_any (bytes_eq z.name.items) seen)) (are_distinct (seen ++ z.name.items ∷ []) xs) is in
    absurd (first_apart seen z xs parts.1 d y there (sym same ∙ sym (ap (λ (w : Chain). w.name.items) (same_Some z x at))))
distinct_made seen (z ∷ xs) is (suc c) zero x y at there same =
    let parts = and_parts (not (list_any (bytes_eq z.name.items) seen)) (are_distinct (seen ++ z.name.items ∷ []) xs) is in
    absurd (first_apart seen z xs parts.1 c x at (same ∙ sym (ap (λ (w : Chain). w.name.items) (same_Some z y there))))
distinct_made seen (z ∷ xs) is (suc c) (suc d) x y at there same =
    let parts = and_parts (not (list_any (bytes_eq z.name.items) seen)) (are_distinct (seen ++ z.name.items ∷ []) xs) is in
    ap suc (distinct_made (seen ++ z.name.items ∷ []) xs parts.1 c d x y at there same)

new_first : (z : Chain) (xs : List Chain) → AreDistinct (z ∷ xs) → (d : ℕ) (x : Chain) → slice_get xs d ≡ Some x → bytes_eq x.name.items z.name.items ≡ false
new_first z xs apart d x there = not_from_Decides_false (bytes_eq x.name.items z.name.items) (bytes_eq-Decides x.name.items z.name.items)
    (λ same. let clash : suc d ≡ 0 = apart (suc d) 0 x z there refl same in absurd (omega (arith, clash)))
  where
    not_from_Decides_false : (b : Bool) → Decides b (x.name.items ≡ z.name.items) → (x.name.items ≡ z.name.items → ⊥) → b ≡ false
    not_from_Decides_false true decides differs = absurd (differs (decides.0 refl))
    not_from_Decides_false false decides differs = refl

distinct_tested : (seen : List (List ℕ)) (xs : List Chain)
    → ((d : ℕ) (x : Chain) → slice_get xs d ≡ Some x → list_any (bytes_eq x.name.items) seen ≡ false) → AreDistinct xs → are_distinct seen xs ≡ true
distinct_tested seen [] fresh apart = refl
distinct_tested seen (z ∷ xs) fresh apart =
    let later = distinct_tested (seen ++ z.name.items ∷ []) xs
    (λ d x there. any_front (bytes_eq x.name.items) seen z.name.items ∙ or_none _ _ (fresh (suc d) x there) (new_first z xs apart d x there))
    (λ c d x y at there same. suc_same c d (apart (suc c) (suc d) x y at there same)) in
    rw (fresh 0 z refl) later

distinct_decided : (xs : List Chain) → Decides (are_distinct [] xs) (AreDistinct xs)
distinct_decided xs = (λ is. distinct_made [] xs is, λ apart. distinct_tested [] xs (λ d x there. refl) apart)

-- ---- The table

pub loadable_decided : (table : Table) → Decides (is_loadable table) (IsLoadable table)
loadable_decided table =
    let chains = table.chains.items in
    let two = Decides-and (are_chains 0 chains) (are_distinct [] chains) (chains_decided 0 chains) (distinct_decided chains) in
    let three = Decides-and (are_rules (length chains) table.forward.items) (are_chains 0 chains && are_distinct [] chains)
    (rules_decided (length chains) table.forward.items) two in
    let all = Decides-and (nat_le (length chains) 100000)
    (are_rules (length chains) table.forward.items && (are_chains 0 chains && are_distinct [] chains)) (le_decided (length chains) 100000) three in (
      λ is.
          let parts = all.0 is in
          record {
            few = parts.0;
            forward = parts.1.0;
            back = λ c chain there. subst (λ (n : ℕ). AreRules n chain.rules.items) (let e : 0 + c ≡ c = omega arith in e) (parts.1.1.0 c chain there).0;
            named = λ c chain there. (parts.1.1.0 c chain there).1;
            distinct = parts.1.1.1;
          },
      λ loadable. all.1 (loadable.few, (loadable.forward, ((λ i x there. (subst (λ (n : ℕ). AreRules n x.rules.items) (let e : i ≡ 0 + i = omega arith in e) (loadable.back i x there), loadable.named i x there)), loadable.distinct))),
    )

-- ---- The names that were seen, as the keys of a set

seen_any : (keys : List (Vec ℕ Global)) (n : List ℕ) → list_any (bytes_eq n) (map (λ (k : Vec ℕ Global). k.items) keys) ≡ list_any (λ (k : Vec ℕ Global). bytes_eq n k.items) keys
seen_any [] n = refl
seen_any (k ∷ keys) n = ap (λ b. bytes_eq n k.items || b) (seen_any keys n)

map_last : (keys : List (Vec ℕ Global)) (key : Vec ℕ Global) → map (λ (k : Vec ℕ Global). k.items) (keys ++ key ∷ []) ≡ map (λ (k : Vec ℕ Global). k.items) keys ++ key.items ∷ []
map_last [] key = refl
map_last (k ∷ keys) key = ap (λ ns. k.items ∷ ns) (map_last keys key)

seen_here : (keys : List (Vec ℕ Global)) (key : Vec ℕ Global) (x : Chain) (added : Bool) → key.items ≡ x.name.items
    → added ≡ not (list_any (λ (k : Vec ℕ Global). bytes_eq key.items k.items) keys)
    → not (list_any (bytes_eq x.name.items) (map (λ (k : Vec ℕ Global). k.items) keys)) ≡ added
seen_here keys key x added is tells =
    ap not (seen_any keys x.name.items ∙ ap (λ (n : List ℕ). list_any (λ (k : Vec ℕ Global). bytes_eq n k.items) keys) (sym is)) ∙ sym tells

pub seen_again : (keys : List (Vec ℕ Global)) (key : Vec ℕ Global) (x : Chain) (xs : List Chain) (added : Bool) → key.items ≡ x.name.items
    → added ≡ not (list_any (λ (k : Vec ℕ Global). bytes_eq key.items k.items) keys) → added ≡ false
    → false ≡ are_distinct (map (λ (k : Vec ℕ Global). k.items) keys) (x ∷ xs)
seen_again keys key x xs added is tells old = rw (seen_here keys key x added is tells ∙ old) refl

pub seen_first : (keys : List (Vec ℕ Global)) (key : Vec ℕ Global) (x : Chain) (xs : List Chain) (added : Bool) → key.items ≡ x.name.items
    → added ≡ not (list_any (λ (k : Vec ℕ Global). bytes_eq key.items k.items) keys) → added ≡ true
    → are_distinct (map (λ (k : Vec ℕ Global). k.items) (if list_any (λ (k : Vec ℕ Global). bytes_eq key.items k.items) keys then keys else keys ++ key ∷ [])) xs
    ≡ are_distinct (map (λ (k : Vec ℕ Global). k.items) keys) (x ∷ xs)
seen_first keys key x xs added is tells new =
    let fresh : list_any (λ (k : Vec ℕ Global). bytes_eq key.items k.items) keys ≡ false = not_true _ (sym tells ∙ new) in
    ap (λ (b : Bool). are_distinct (map (λ (k : Vec ℕ Global). k.items) (if b then keys else keys ++ key ∷ [])) xs) fresh
    ∙ ap (λ (ns : List (List ℕ)). are_distinct ns xs) (map_last keys key ∙ ap (λ (n : List ℕ). map (λ (k : Vec ℕ Global). k.items) keys ++ n ∷ []) is)
    ∙ rw (seen_here keys key x added is tells ∙ new) refl

pub map_decided : (n : ℕ) (rule : Rule) (m : VerdictMap) (b : Bool) → rule ≡ Map m → b ≡ are_elements n m.elements.items → Decides b (IsRule n rule)
map_decided n rule m b is tested =
    subst (λ (r : Rule). Decides b (IsRule n r)) (sym is) (subst (λ (t : Bool). Decides t (IsRule n (Map m))) (sym tested) (elements_decided n m.elements.items))
