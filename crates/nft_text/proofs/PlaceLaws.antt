-- The pieces that remain behind a piece.
use Rattle.std.proofs.Common.{◌≡◌, ◌∙◌, ◌++◌, ℕ, suc, List, [], ◌∷◌, append_assoc, ap}
use Rattle.nft_rules.specs.Loadable.{AreNamed}
use Rattle.nft_rules.specs.declared.table.Chain.{Chain}
use Rattle.nft_rules.specs.declared.table.Table.{Table}
use Rattle.nft_text.specs.Text.{chain_end, chain_head, chains_pieces, forward_pieces, rules_pieces}
use Rattle.nft_text.specs.inner.Places.{AreShort, rest_pieces}

pub short_named : (chains : List Chain) → AreNamed chains → AreShort chains
short_named chains named = λ c chain at. (named c chain at).short

pub short_rest : (x : Chain) (xs : List Chain) → AreShort (x ∷ xs) → AreShort xs
short_rest x xs short = λ c chain at. short (suc c) chain at

-- The first of the chains that remain: its head, its rules, its end, and the chains behind it.
pub rest_chain : (table : Table) (x : Chain) (xs : List Chain)
    → rest_pieces table (x ∷ xs) ≡ chain_head x.name.items ∷ (rules_pieces table.chains.items x.rules.items ++ chain_end ∷ rest_pieces table xs)
rest_chain table x xs =
    ap (λ (ps : List (List ℕ)). chain_head x.name.items ∷ ps)
    (append_assoc (rules_pieces table.chains.items x.rules.items ++ chain_end ∷ []) (chains_pieces table.chains.items xs) (forward_pieces table)
    ∙ append_assoc (rules_pieces table.chains.items x.rules.items) (chain_end ∷ []) (rest_pieces table xs))
