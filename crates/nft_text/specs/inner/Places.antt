-- The pieces of a text that remain to be written.
use Rattle.std.specs.Prelude.{◌≡◌, ◌≤◌, ℕ, List, [], ◌∷◌, ◌++◌, Some, length, slice_get}
use Rattle.nft_rules.specs.declared.table.Chain.{Chain}
use Rattle.nft_rules.specs.declared.table.Table.{Table}
use Rattle.nft_text.specs.declared.pieces.Body.{Body}
use Rattle.nft_text.specs.declared.pieces.Place.{Place}
use Rattle.nft_text.specs.declared.pieces.Place.TheVariants.{Start, Chains, Within, Last, End}
use Rattle.nft_text.specs.Text.{chain_end, chains_pieces, element_pieces, forward_pieces, rules_pieces, table_end, table_pieces}

-- The names are short enough for a piece.
abbrev pub AreShort : List Chain → Type 0
AreShort chains = (c : ℕ) (chain : Chain) → slice_get chains c ≡ Some chain → length chain.name.items ≤ 128

-- The names of the chains that remain are short enough.
abbrev pub HasShortNames : Place → Type 0
HasShortNames (Chains waiting) = AreShort waiting.now
HasShortNames (Within waiting body) = AreShort waiting.now
HasShortNames _ = Unit {0}

-- The rest of a chain: the elements that remain of a map, and the rules behind it.
abbrev pub body_pieces : List Chain → Body → List (List ℕ)
body_pieces chains body = element_pieces chains body.elements.now ++ rules_pieces chains body.rules.now

-- The chains that remain, and the base chain.
abbrev pub rest_pieces : Table → List Chain → List (List ℕ)
rest_pieces table waiting = chains_pieces table.chains.items waiting ++ forward_pieces table

abbrev pub remaining : Table → Place → List (List ℕ)
remaining table Start = table_pieces table
remaining table (Chains waiting) = rest_pieces table waiting.now
remaining table (Within waiting body) = body_pieces table.chains.items body ++ chain_end ∷ rest_pieces table waiting.now
remaining table (Last body) = body_pieces table.chains.items body ++ table_end ∷ []
remaining table End = []
