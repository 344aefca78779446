-- The tables that `nft -f` accepts and that `nft list table` prints with the same names (nft(8), "MAPS", "CHAINS", "LEXICAL CONVENTIONS"). nft
-- rejects intervals of a map that overlap, an empty map, an empty range of ports, a `goto` to a chain that does not exist, a loop of
-- chains, and an identifier with other characters.
use Rattle.std.specs.Prelude.{◌≡◌, ◌≢◌, ℕ, ◌≤◌, ◌<◌, ◌+◌, ◌==◌, Bool, true, false, ◌&&◌, nat_le, IsTrue, List, [], ◌∷◌, Option, Some, None, length, codes, slice_get}
use Rattle.std.specs.Char.{is_ascii_alphabetic}
use Rattle.std.specs.List.{list_all, list_any}
use Rattle.text_core.specs.Name.{is_name_byte}
use Rattle.host_net.specs.Service.{has_name, has_ports}
use Rattle.nft_rules.specs.declared.table.Chain.{Chain}
use Rattle.nft_rules.specs.declared.table.Element.{Element}
use Rattle.nft_rules.specs.declared.table.PortMatch.{PortMatch}
use Rattle.nft_rules.specs.declared.table.Rule.{Rule}
use Rattle.nft_rules.specs.declared.table.Rule.TheVariants.{Map, Match}
use Rattle.nft_rules.specs.declared.table.ServiceMatch.{ServiceMatch}
use Rattle.nft_rules.specs.declared.table.Table.{Table}
use Rattle.nft_rules.specs.declared.table.Verdict.{Verdict}
use Rattle.nft_rules.specs.declared.table.Verdict.TheVariants.{Accept, Drop, Goto}

-- The greatest number of chains besides the base chain.
abbrev pub chain_limit : ℕ
chain_limit = 100000

-- The intervals begin at `from` or later, each is non-empty, and each ends before the next one begins.
abbrev pub AscendFrom : ℕ → List Element → Type 0
AscendFrom from [] = Unit {0}
AscendFrom from (e ∷ es) = (from ≤ e.range.first) × (e.range.first ≤ e.range.last) × AscendFrom (e.range.last + 1) es

-- A `goto` leads to one of the first n chains.
abbrev pub LeadsBelow : ℕ → Verdict → Type 0
LeadsBelow n Accept = Unit {0}
LeadsBelow n Drop = Unit {0}
LeadsBelow n (Goto c) = c < n

-- The protocol has a name. If there is a port match, the protocol has ports, and the range is non-empty.
abbrev pub are_ports : ℕ → Option PortMatch → Bool
are_ports proto None = has_name proto
are_ports proto (Some m) = has_ports proto && nat_le m.low m.high

abbrev pub is_service_match : Option ServiceMatch → Bool
is_service_match None = true
is_service_match (Some s) = are_ports s.proto s.ports

abbrev pub LeadBelow : ℕ → List Element → Type 0
LeadBelow n [] = Unit {0}
LeadBelow n (e ∷ es) = LeadsBelow n e.verdict × LeadBelow n es

-- A verdict map has elements, in ascending order and disjoint. The service of a match is valid. Each `goto` of the rule leads to one of the
-- first n chains.
abbrev pub IsRule : ℕ → Rule → Type 0
IsRule n (Map m) = (m.elements.items ≢ []) × AscendFrom 0 m.elements.items × LeadBelow n m.elements.items
IsRule n (Match r) = IsTrue (is_service_match r.service) × LeadsBelow n r.verdict

abbrev pub AreRules : ℕ → List Rule → Type 0
AreRules n [] = Unit {0}
AreRules n (r ∷ rs) = IsRule n r × AreRules n rs

-- Each `goto` of chain c leads to an earlier chain. So each `goto` has its chain, and there is no loop.
abbrev pub LeadBack : List Chain → Type 0
LeadBack chains = (c : ℕ) (chain : Chain) → slice_get chains c ≡ Some chain → AreRules c chain.rules.items

-- A name begins with a letter, has a `_`, and consists of at most 128 letters, digits, `_` and `-`. No keyword of nft has a `_`, and a
-- keyword is no name. The base chain has the name `forward`.
abbrev pub begins_with_letter : List ℕ → Bool
begins_with_letter [] = false
begins_with_letter (b ∷ bs) = is_ascii_alphabetic b

pub record IsChainName (name : List ℕ) : Type 0 where
  pub letter : IsTrue (begins_with_letter name)
  pub no_keyword : IsTrue (list_any (λ b. b == 95) name)
  pub bytes : IsTrue (list_all is_name_byte name)
  pub short : length name ≤ 128
  pub other : name ≢ codes "forward"

abbrev pub AreNamed : List Chain → Type 0
AreNamed chains = (c : ℕ) (chain : Chain) → slice_get chains c ≡ Some chain → IsChainName chain.name.items

-- Chains with the same name are the same chain.
abbrev pub AreDistinct : List Chain → Type 0
AreDistinct chains =
    (c d : ℕ) (x y : Chain) → slice_get chains c ≡ Some x → slice_get chains d ≡ Some y → x.name.items ≡ y.name.items → c ≡ d

-- The table can be loaded.
pub record IsLoadable (table : Table) : Type 0 where
  pub few : length table.chains.items ≤ chain_limit
  pub forward : AreRules (length table.chains.items) table.forward.items
  pub back : LeadBack table.chains.items
  pub named : AreNamed table.chains.items
  pub distinct : AreDistinct table.chains.items
