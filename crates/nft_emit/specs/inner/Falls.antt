-- The rules that find a verdict by the owner of an address.
use Rattle.std.specs.Prelude.{◌≡◌, ℕ, ◌==◌, Bool, false, not, ◌&&◌, nat_le, List, [], ◌∷◌, ◌++◌, Option, Some, None, length, slice_get}
use Rattle.std.specs.List.{filter, flat_map}
use Rattle.std.specs.Option.{option_and_then}
use Rattle.header_space.specs.declared.address_range.AddressRange.{AddressRange}
use Rattle.std.specs.declared.vec.Vec.{Vec}
use Rattle.std.specs.Global.{Global}
use Rattle.nft_rules.specs.declared.table.Element.{Element}
use Rattle.nft_rules.specs.declared.table.End.{End}
use Rattle.nft_rules.specs.declared.table.Rule.{Rule}
use Rattle.nft_rules.specs.declared.table.Rule.TheVariants.{Map, Match}
use Rattle.nft_rules.specs.declared.table.Verdict.{Verdict}
use Rattle.nft_rules.specs.declared.table.Verdict.TheVariants.{Drop}
use Rattle.nft_rules.specs.declared.table.VerdictMap.{VerdictMap}
use Rattle.nft_emit.specs.declared.cuts.Cut.{Cut}

-- The verdict of a host, if it has one.
abbrev pub verdict_at : List (Option Verdict) → ℕ → Option Verdict
verdict_at verdicts j = option_and_then (λ v. v) (slice_get verdicts j)

-- The verdict of an owner.
abbrev pub verdict_of : List (Option Verdict) → Option ℕ → Option Verdict
verdict_of verdicts owner = option_and_then (verdict_at verdicts) owner

-- The verdict of an element, if the rule after the map has the verdict `after`.
abbrev pub shown : (after verdict : Option Verdict) → Option Verdict
shown after (Some v) = Some v
shown None None = None
shown (Some b) None = Some Drop

abbrev pub element_if : AddressRange → Option Verdict → List Element
element_if range None = []
element_if range (Some v) = record { range = range; verdict = v } ∷ []

abbrev pub element_of : Option Verdict → List (Option Verdict) → Cut → List Element
element_of after verdicts x = element_if x.range (shown after (verdict_at verdicts x.host))

-- The element of a single address.
abbrev pub is_single : Element → Bool
is_single e = e.range.first == e.range.last

-- The least number of single addresses that have a map of their own.
abbrev pub own_map_minimum : ℕ
own_map_minimum = 32

-- There are so many single addresses that they have a map of their own.
abbrev pub are_apart : List Element → Bool
are_apart es = nat_le own_map_minimum (length (filter is_single es))

-- The element is in the map of single addresses.
abbrev pub is_apart : Bool → Element → Bool
is_apart apart e = apart && is_single e

-- The rule that maps the elements, if there are any.
abbrev pub map_rules : VerdictMap → List Element → List Rule
map_rules m [] = []
map_rules m (e ∷ es) = Map m ∷ []

-- The rule that has the verdict on all packets, if there is one.
abbrev pub verdict_rules : Option Verdict → List Rule
verdict_rules None = []
verdict_rules (Some v) = Match (record { established = false; service = None; verdict = v }) ∷ []

-- A verdict map over the single addresses of hosts, if there are many, and one over the other ranges. After them, the verdict of the rest host.
pub record Falls (end : End) (cuts : List Cut) (verdicts : List (Option Verdict)) (rest : Option ℕ) (rules : List Rule) : Type 0 where
  pub all : List Element
  pub all_are : all ≡ flat_map (element_of (verdict_of verdicts rest) verdicts) cuts
  pub singles : Vec Element Global
  pub singles_are : singles.items ≡ filter (is_apart (are_apart all)) all
  pub others : Vec Element Global
  pub others_are : others.items ≡ filter (λ e. not (is_apart (are_apart all) e)) all
  pub rules_are : rules ≡ map_rules (record { end = end; elements = singles }) singles.items
      ++ (map_rules (record { end = end; elements = others }) others.items ++ verdict_rules (verdict_of verdicts rest))
