-- A table without some of its rules and elements, and places without which every packet has the same verdict.
use Rattle.std.specs.Prelude.{◌≡◌, ◌≢◌, ◌⊎◌, ◌↔◌, ℕ, ◌+◌, Bool, List, [], ◌∷◌, Option, Some, None}
use Rattle.std.specs.List.{Contains}
use Rattle.host_net.specs.declared.packet.Packet.{Packet}
use Rattle.host_net.specs.declared.packet.CtState.{CtState}
use Rattle.host_net.specs.Packet.{IsPacket}
use Rattle.nft_rules.specs.declared.table.Chain.{Chain}
use Rattle.nft_rules.specs.declared.table.Element.{Element}
use Rattle.nft_rules.specs.declared.table.Rule.{Rule}
use Rattle.nft_rules.specs.declared.table.Rule.TheVariants.{Map, Match}
use Rattle.nft_rules.specs.declared.table.Table.{Table}
use Rattle.nft_rules.specs.Semantics.{PassesTable}
use Rattle.nft_flows.specs.declared.place.TablePlace.{TablePlace}

-- ---- A table without places

-- The elements from index i on, without those that are gone.
abbrev pub AreElementsLeft : (Gone : Option ℕ → Type 0) → ℕ → List Element → List Element → Type 0
AreElementsLeft Gone i [] left = left ≡ []
AreElementsLeft Gone i (e ∷ es) left =
    (Gone (Some i) × AreElementsLeft Gone (i + 1) es left)
    ⊎ ((others : List Element) × (left ≡ e ∷ others) × (Gone (Some i) → ⊥) × AreElementsLeft Gone (i + 1) es others)

-- Nothing is left of the rule: it is gone, or all elements of its map are.
abbrev pub IsLeftOut : (Gone : Option ℕ → Type 0) → Rule → Type 0
IsLeftOut Gone (Map m) = AreElementsLeft Gone 0 m.elements.items []
IsLeftOut Gone (Match r) = Gone None

-- The second rule is left of the first: the same matches, or a map of the same end with the elements that are left.
abbrev pub IsLeft : (Gone : Option ℕ → Type 0) → Rule → Rule → Type 0
IsLeft Gone (Map m) (Map k) = (k.end ≡ m.end) × (k.elements.items ≢ []) × AreElementsLeft Gone 0 m.elements.items k.elements.items
IsLeft Gone (Map m) (Match s) = ⊥
IsLeft Gone (Match r) s = (Gone None → ⊥) × (s ≡ Match r)

-- The rules from index n on, without those of which nothing is left.
abbrev pub AreRulesLeft : (Gone : ℕ → Option ℕ → Type 0) → ℕ → List Rule → List Rule → Type 0
AreRulesLeft Gone n [] left = left ≡ []
AreRulesLeft Gone n (r ∷ rs) left =
    (IsLeftOut (Gone n) r × AreRulesLeft Gone (n + 1) rs left)
    ⊎ ((s : Rule) × (others : List Rule) × (left ≡ s ∷ others) × IsLeft (Gone n) r s × AreRulesLeft Gone (n + 1) rs others)

-- The place of this rule or element in the chain, or in the base chain, is gone.
abbrev pub IsGoneIn : (Gone : TablePlace → Type 0) → Option ℕ → ℕ → Option ℕ → Type 0
IsGoneIn Gone chain n element = Gone (record { chain = chain; rule = n; element = element })

-- The chains from index c on. Each keeps its name, and stays if no rule is left.
abbrev pub AreChainsLeft : (Gone : TablePlace → Type 0) → ℕ → List Chain → List Chain → Type 0
AreChainsLeft Gone c [] left = left ≡ []
AreChainsLeft Gone c (x ∷ xs) left =
    (y : Chain) × (others : List Chain) × (left ≡ y ∷ others) × (y.name.items ≡ x.name.items)
    × AreRulesLeft (IsGoneIn Gone (Some c)) 0 x.rules.items y.rules.items × AreChainsLeft Gone (c + 1) xs others

-- The other table is the table without the places that are gone.
pub record IsTableWithout (Gone : TablePlace → Type 0) (table other : Table) : Type 0 where
  pub forward : AreRulesLeft (IsGoneIn Gone None) 0 table.forward.items other.forward.items
  pub chains : AreChainsLeft Gone 0 table.chains.items other.chains.items

-- ---- Removable places

-- The places are removable: without them, each packet has the same verdict in each state.
abbrev pub AreRemovableTablePlaces : Table → List TablePlace → Type 0
AreRemovableTablePlaces table places =
    (other : Table) → IsTableWithout (Contains places) table other
    → (p : Packet) (state : CtState) (passes : Bool) → IsPacket p → (PassesTable table state p passes ↔ PassesTable other state p passes)
