-- Tables with the same text have the same spans, and chains of the same names.
use Rattle.std.proofs.Common.{◌≡◌, ◌∙◌, ◌+◌, ℕ, zero, suc, List, [], ◌∷◌, ◌++◌, Option, None, Some, length, map, refl, ap, sym}
use Rattle.std.specs.Prelude.{codes, slice_get}
use Rattle.std.specs.List.{flat_map}
use Rattle.std.specs.Option.{option_map_or}
use Rattle.flows_json.specs.TableFlowsJson.{ChainNames, name_in}
use Rattle.nft_chains.specs.Translation.{element_rules}
use Rattle.nft_flows.specs.inner.Spans.{span_at, spans_from, spans_of, spans_of_elements, spans_of_rules}
use Rattle.nft_read.proofs.WholeLaws.{table_one}
use Rattle.nft_read.specs.Reading.{IsTable}
use Rattle.nft_read.specs.Shape.{ChainShape, TableShape, chain_shape, rule_shape, table_shape}
use Rattle.nft_rules.specs.declared.table.Chain.{Chain}
use Rattle.nft_rules.specs.declared.table.Rule.{Rule}
use Rattle.nft_rules.specs.declared.table.Rule.TheVariants.{Map, Match}
use Rattle.nft_rules.specs.declared.table.Table.{Table}
use Rattle.nft_text.specs.Text.{table_text}

rules_same : (chain : Option ℕ) (k n : ℕ) (rs qs : List Rule) → map rule_shape rs ≡ map rule_shape qs
    → spans_of_rules chain k n rs ≡ spans_of_rules chain k n qs
rules_same chain k n [] [] same = refl
rules_same chain k n [] (q ∷ qs) same = absurd (cc same)
rules_same chain k n (r ∷ rs) [] same = absurd (cc same)
rules_same chain k n (Map m ∷ rs) (Match r ∷ qs) same = absurd (cc same)
rules_same chain k n (Match r ∷ rs) (Map m ∷ qs) same = absurd (cc same)
rules_same chain k n (Match r ∷ rs) (Match q ∷ qs) same =
    let rest : map rule_shape rs ≡ map rule_shape qs = cc same in
    λ i. span_at chain k None n (n + 1) ∷ rules_same chain (k + 1) (n + 1) rs qs rest i
rules_same chain k n (Map m ∷ rs) (Map l ∷ qs) same =
    let rest : map rule_shape rs ≡ map rule_shape qs = cc same in
    let ends : m.end ≡ l.end = cc same in
    let items : m.elements.items ≡ l.elements.items = cc same in
    let next : n + length (flat_map (element_rules m.end) m.elements.items) ≡ n + length (flat_map (element_rules l.end) l.elements.items) =
    λ i. n + length (flat_map (element_rules (ends i)) (items i)) in
    let later = rules_same chain (k + 1) (n + length (flat_map (element_rules m.end) m.elements.items)) rs qs rest
    ∙ ap (λ (h : ℕ). spans_of_rules chain (k + 1) h qs) next in
    λ i. spans_of_elements chain k 0 n (items i) ++ later i

chains_same : (c : ℕ) (xs ys : List Chain) → map chain_shape xs ≡ map chain_shape ys → spans_from c xs ≡ spans_from c ys
chains_same c [] [] same = refl
chains_same c [] (y ∷ ys) same = absurd (cc same)
chains_same c (x ∷ xs) [] same = absurd (cc same)
chains_same c (x ∷ xs) (y ∷ ys) same =
    let first : chain_shape x ≡ chain_shape y = cc same in
    let rest : map chain_shape xs ≡ map chain_shape ys = cc same in
    let rules = rules_same (Some c) 0 0 x.rules.items y.rules.items (ap (λ (s : ChainShape). s.rules) first) in
    let later = chains_same (c + 1) xs ys rest in
    λ i. rules i ++ later i

pub one_spans : (a b : Table) → IsTable a → IsTable b → table_text a ≡ table_text b → spans_of a ≡ spans_of b
one_spans a b is own same =
    let shapes = table_one a b is own same in
    let forward = rules_same None 0 0 a.forward.items b.forward.items (ap (λ (s : TableShape). s.forward) shapes) in
    let chains = chains_same 0 a.chains.items b.chains.items (ap (λ (s : TableShape). s.chains) shapes) in
    λ i. forward i ++ chains i

abbrev shape_names : TableShape → ChainNames
shape_names s None = codes "forward"
shape_names s (Some c) = option_map_or (λ x. x.name) (slice_get s.chains c) []

name_by_shape : (xs : List Chain) (c : ℕ)
    → option_map_or (λ x. x.name.items) (slice_get xs c) [] ≡ option_map_or (λ x. x.name) (slice_get (map chain_shape xs) c) []
name_by_shape [] c = refl
name_by_shape (x ∷ xs) zero = refl
name_by_shape (x ∷ xs) (suc c) = name_by_shape xs c

names_by_shape : (table : Table) (chain : Option ℕ) → name_in table chain ≡ shape_names (table_shape table) chain
names_by_shape table None = refl
names_by_shape table (Some c) = name_by_shape table.chains.items c

pub one_names : (a b : Table) → IsTable a → IsTable b → table_text a ≡ table_text b → name_in a ≡ name_in b
one_names a b is own same =
    λ i chain. (names_by_shape a chain ∙ ap (λ (s : TableShape). shape_names s chain) (table_one a b is own same) ∙ sym (names_by_shape b chain)) i
