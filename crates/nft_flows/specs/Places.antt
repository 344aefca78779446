-- The places of a table: its rules, and the elements of its verdict maps; and the places that packets meet (nft(8), "CHAINS", "RULES", "MAPS").
use Rattle.std.specs.Prelude.{◌≡◌, ◌⊎◌, ℕ, ◌+◌, ◌<◌, true, List, [], ◌∷◌, Option, Some, None, slice_get, option_map}
use Rattle.std.specs.List.{Contains}
use Rattle.std.specs.Option.{option_map_or, option_and_then}
use Rattle.host_net.specs.declared.packet.Packet.{Packet}
use Rattle.host_net.specs.declared.packet.CtState.{CtState}
use Rattle.header_space.specs.Owners.{LiesIn}
use Rattle.nft_rules.specs.declared.table.Chain.{Chain}
use Rattle.nft_rules.specs.declared.table.Element.{Element}
use Rattle.nft_rules.specs.declared.table.Rule.{Rule}
use Rattle.nft_rules.specs.declared.table.Rule.TheVariants.{Map, Match}
use Rattle.nft_rules.specs.declared.table.Table.{Table}
use Rattle.nft_rules.specs.declared.table.Verdict.{Verdict}
use Rattle.nft_rules.specs.declared.table.Verdict.TheVariants.{Goto}
use Rattle.nft_rules.specs.Semantics.{Gives, address_at, fits}
use Rattle.nft_flows.specs.declared.place.TablePlace.{TablePlace}

-- ---- Rules and elements

-- The rules of the chain with this index, or of the base chain.
abbrev pub rules_in : Table → Option ℕ → List Rule
rules_in table None = table.forward.items
rules_in table (Some c) = option_map_or (λ x. x.rules.items) (slice_get table.chains.items c) []

-- The verdict of the element with this index of the map of a rule, or of a rule with matches.
abbrev pub verdict_in : Rule → Option ℕ → Option Verdict
verdict_in (Map m) (Some i) = option_map (λ e. e.verdict) (slice_get m.elements.items i)
verdict_in (Map m) None = None
verdict_in (Match r) None = Some r.verdict
verdict_in (Match r) (Some i) = None

-- The verdict at a place. There is none if the table has no such place.
abbrev pub verdict_at : Table → TablePlace → Option Verdict
verdict_at table place = option_and_then (λ rule. verdict_in rule place.element) (slice_get (rules_in table place.chain) place.rule)

-- ---- Order

-- The base chain precedes the other chains.
abbrev pub rank : Option ℕ → ℕ
rank None = 0
rank (Some n) = n + 1

-- The first place precedes the second: its chain is earlier, or else its rule, or else its element.
abbrev pub ComesBefore : TablePlace → TablePlace → Type 0
ComesBefore p q =
    (rank p.chain < rank q.chain)
    ⊎ ((p.chain ≡ q.chain) × ((p.rule < q.rule) ⊎ ((p.rule ≡ q.rule) × (rank p.element < rank q.element))))

-- Each place precedes all places after it.
abbrev pub AreAscending : List TablePlace → Type 0
AreAscending [] = Unit {0}
AreAscending (p ∷ ps) = ((q : TablePlace) → Contains ps q → ComesBefore p q) × AreAscending ps

-- ---- Packets that meet a place

-- The packet matches the rule by this element of its map, whose interval contains the address; or it matches the rule, if the rule has no map.
abbrev pub MatchesAt : CtState → Packet → Rule → Option ℕ → Type 0
MatchesAt state p (Map m) (Some i) = (e : Element) × (slice_get m.elements.items i ≡ Some e) × LiesIn e.range (address_at m.end p)
MatchesAt state p (Map m) None = ⊥
MatchesAt state p (Match r) None = fits state p r ≡ true
MatchesAt state p (Match r) (Some i) = ⊥

-- The evaluation of rules, which are those of a chain from rule n on, meets the place: the evaluation reaches the rule, and the packet matches
-- it there. A rule without a verdict continues with the next rule, and `goto` continues with the rules of its chain.
pub data MeetsFrom (chains : List Chain) (state : CtState) (packet : Packet) (place : TablePlace) : Option ℕ → ℕ → List Rule → Type 0 where
  meets_here : {chain : Option ℕ} {n : ℕ} {rule : Rule} {rules : List Rule} → place.chain ≡ chain → place.rule ≡ n → MatchesAt state packet rule place.element
      → MeetsFrom chains state packet place chain n (rule ∷ rules)
  meets_later : {chain : Option ℕ} {n : ℕ} {rule : Rule} {rules : List Rule} → Gives state packet rule None
      → MeetsFrom chains state packet place chain (n + 1) rules → MeetsFrom chains state packet place chain n (rule ∷ rules)
  meets_there : {chain : Option ℕ} {n : ℕ} {rule : Rule} {rules : List Rule} (c : ℕ) (x : Chain) → Gives state packet rule (Some (Goto c))
      → slice_get chains c ≡ Some x → MeetsFrom chains state packet place (Some c) 0 x.rules.items → MeetsFrom chains state packet place chain n (rule ∷ rules)

-- A packet that enters the base chain meets the place.
abbrev pub IsMet : Table → Packet → CtState → TablePlace → Type 0
IsMet table packet state place = MeetsFrom table.chains.items state packet place None 0 table.forward.items
