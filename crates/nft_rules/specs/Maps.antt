-- The verdict that a verdict map has for an address (nft(8), "MAPS" and "VERDICT MAPS").
use Rattle.std.specs.Prelude.{◌≡◌, ◌⊎◌, ℕ, List, [], ◌∷◌, Option, Some, None}
use Rattle.header_space.specs.Owners.{LiesIn}
use Rattle.nft_rules.specs.declared.table.Element.{Element}
use Rattle.nft_rules.specs.declared.table.Verdict.{Verdict}

-- An element whose interval contains the address has this verdict.
abbrev pub LeadsTo : List Element → ℕ → Verdict → Type 0
LeadsTo [] a v = ⊥
LeadsTo (e ∷ es) a v = (LiesIn e.range a × (v ≡ e.verdict)) ⊎ LeadsTo es a v

-- No interval contains the address.
abbrev pub LeadsNowhere : List Element → ℕ → Type 0
LeadsNowhere [] a = Unit {0}
LeadsNowhere (e ∷ es) a = (LiesIn e.range a → ⊥) × LeadsNowhere es a

-- The map has the verdict of an element that contains the address, or no verdict if no element contains it. This is a relation: if
-- intervals overlap, the verdict of each is possible.
abbrev pub Leads : List Element → ℕ → Option Verdict → Type 0
Leads es a None = LeadsNowhere es a
Leads es a (Some v) = LeadsTo es a v
