-- The test whether a table can be loaded, part by part.
use Rattle.std.specs.Prelude.{ℕ, ◌+◌, ◌==◌, Bool, true, false, ◌&&◌, not, nat_le, nat_lt, List, [], ◌∷◌, ◌++◌, length, codes, bytes_eq}
use Rattle.std.specs.List.{list_all, list_any}
use Rattle.text_core.specs.Name.{is_name_byte}
use Rattle.nft_rules.specs.declared.table.Chain.{Chain}
use Rattle.nft_rules.specs.declared.table.Element.{Element}
use Rattle.nft_rules.specs.declared.table.Rule.{Rule}
use Rattle.nft_rules.specs.declared.table.Rule.TheVariants.{Map, Match}
use Rattle.nft_rules.specs.declared.table.Table.{Table}
use Rattle.nft_rules.specs.declared.table.Verdict.{Verdict}
use Rattle.nft_rules.specs.declared.table.Verdict.TheVariants.{Accept, Drop, Goto}
use Rattle.nft_rules.specs.Loadable.{begins_with_letter, is_service_match}

abbrev pub leads_below : ℕ → Verdict → Bool
leads_below n Accept = true
leads_below n Drop = true
leads_below n (Goto c) = nat_lt c n

abbrev pub begins_later : ℕ → Element → Bool
begins_later from e = nat_le from e.range.first && nat_le e.range.first e.range.last

abbrev pub ascend_from : ℕ → List Element → Bool
ascend_from from [] = true
ascend_from from (e ∷ es) = begins_later from e && ascend_from (e.range.last + 1) es

abbrev pub has_elements : List Element → Bool
has_elements [] = false
has_elements (e ∷ es) = true

abbrev pub are_elements : ℕ → List Element → Bool
are_elements n es = has_elements es && (ascend_from 0 es && list_all (λ e. leads_below n e.verdict) es)

abbrev pub is_rule : ℕ → Rule → Bool
is_rule n (Map m) = are_elements n m.elements.items
is_rule n (Match r) = is_service_match r.service && leads_below n r.verdict

abbrev pub are_rules : ℕ → List Rule → Bool
are_rules n rules = list_all (is_rule n) rules

abbrev pub is_chain_name : List ℕ → Bool
is_chain_name name =
    begins_with_letter name
    && (list_any (λ b. b == 95) name && (list_all is_name_byte name && (nat_le (length name) 128 && not (bytes_eq name (codes "forward")))))

abbrev pub is_chain : ℕ → Chain → Bool
is_chain c x = are_rules c x.rules.items && is_chain_name x.name.items

-- The chains from the one with index c on.
abbrev pub are_chains : ℕ → List Chain → Bool
are_chains c [] = true
are_chains c (x ∷ xs) = is_chain c x && are_chains (c + 1) xs

-- The names are different, and differ from those that were seen.
abbrev pub are_distinct : List (List ℕ) → List Chain → Bool
are_distinct seen [] = true
are_distinct seen (x ∷ xs) = not (list_any (bytes_eq x.name.items) seen) && are_distinct (seen ++ x.name.items ∷ []) xs

abbrev pub is_loadable : Table → Bool
is_loadable table =
    nat_le (length table.chains.items) 100000
    && (are_rules (length table.chains.items) table.forward.items && (are_chains 0 table.chains.items && are_distinct [] table.chains.items))
