-- Rules of a table that have at least one rule of the chains. Internal: callers use `Flows` and `Dead`.
use Rattle.std.specs.Prelude.{◌≤◌, ◌<◌, List, [], ◌∷◌, length}
use Rattle.nft_rules.specs.declared.table.Element.{Element}
use Rattle.nft_rules.specs.declared.table.Rule.{Rule}
use Rattle.nft_rules.specs.declared.table.Rule.TheVariants.{Map, Match}

-- The intervals have addresses.
abbrev pub AreRanges : List Element → Type 0
AreRanges [] = Unit {0}
AreRanges (e ∷ es) = (e.range.first ≤ e.range.last) × AreRanges es

-- The rule has a rule of the chains: a map has elements, and their intervals have addresses. A rule with matches always has one.
abbrev pub HasChainRules : Rule → Type 0
HasChainRules (Map m) = (0 < length m.elements.items) × AreRanges m.elements.items
HasChainRules (Match r) = Unit {0}

abbrev pub HaveChainRules : List Rule → Type 0
HaveChainRules [] = Unit {0}
HaveChainRules (r ∷ rs) = HasChainRules r × HaveChainRules rs
