-- The rules of chains that stand for each place of a table. Internal: callers use `Flows` and `Dead`.
use Rattle.std.specs.Prelude.{ℕ, ◌+◌, ◌==◌, ◌&&◌, Bool, nat_le, nat_lt, List, [], ◌∷◌, ◌++◌, Option, Some, None, length}
use Rattle.ipt_rules.specs.declared.marks.Place.{Place}
use Rattle.nft_rules.specs.declared.table.Chain.{Chain}
use Rattle.nft_rules.specs.declared.table.Element.{Element}
use Rattle.nft_rules.specs.declared.table.Rule.{Rule}
use Rattle.nft_rules.specs.declared.table.Rule.TheVariants.{Map, Match}
use Rattle.nft_rules.specs.declared.table.Table.{Table}
use Rattle.nft_chains.specs.Translation.{chain_number, prefixes_of, rules_of_rule}
use Rattle.nft_flows.specs.declared.span.Span.{Span}

-- The number of a chain of the table among the chains: the base chain is FORWARD.
abbrev pub number_of : Option ℕ → ℕ
number_of None = 1
number_of (Some c) = chain_number c

abbrev pub span_at : (chain : Option ℕ) → (rule : ℕ) → (element : Option ℕ) → (first end : ℕ) → Span
span_at chain rule element first end =
    record { place = record { chain = chain; rule = rule; element = element }; chain = number_of chain; first = first; end = end }

-- The spans of elements of the map of rule k, from element i on. The rules of the first of them begin at rule n.
abbrev pub spans_of_elements : Option ℕ → ℕ → ℕ → ℕ → List Element → List Span
spans_of_elements chain k i n [] = []
spans_of_elements chain k i n (e ∷ es) =
    span_at chain k (Some i) n (n + length (prefixes_of e.range)) ∷ spans_of_elements chain k (i + 1) (n + length (prefixes_of e.range)) es

abbrev pub spans_of_rule : Option ℕ → ℕ → ℕ → Rule → List Span
spans_of_rule chain k n (Map m) = spans_of_elements chain k 0 n m.elements.items
spans_of_rule chain k n (Match r) = span_at chain k None n (n + 1) ∷ []

-- The spans of rules of a chain, from rule k on.
abbrev pub spans_of_rules : Option ℕ → ℕ → ℕ → List Rule → List Span
spans_of_rules chain k n [] = []
spans_of_rules chain k n (r ∷ rs) = spans_of_rule chain k n r ++ spans_of_rules chain (k + 1) (n + length (rules_of_rule r)) rs

-- The spans of the chains from the one with index c on.
abbrev pub spans_from : ℕ → List Chain → List Span
spans_from c [] = []
spans_from c (x ∷ xs) = spans_of_rules (Some c) 0 0 x.rules.items ++ spans_from (c + 1) xs

-- The spans of all places of a table, in ascending order.
abbrev pub spans_of : Table → List Span
spans_of table = spans_of_rules None 0 0 table.forward.items ++ spans_from 0 table.chains.items

-- The rule of the chains is one of those of the span.
abbrev pub is_in : Span → Place → Bool
is_in s q = (q.chain == s.chain) && (nat_le s.first q.rule && nat_lt q.rule s.end)
