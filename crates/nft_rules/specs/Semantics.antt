-- The verdict of a table on a packet (nft(8), "CHAINS", "RULES", "VERDICT STATEMENT").
use Rattle.std.specs.Prelude.{◌≡◌, ℕ, ◌==◌, Bool, true, false, ◌&&◌, nat_le, if◌then◌else◌, List, [], ◌∷◌, Option, Some, None, slice_get}
use Rattle.host_net.specs.declared.packet.Packet.{Packet}
use Rattle.host_net.specs.declared.packet.CtState.{CtState}
use Rattle.host_net.specs.declared.packet.CtState.TheVariants.{New, Established}
use Rattle.nft_rules.specs.declared.table.Chain.{Chain}
use Rattle.nft_rules.specs.declared.table.End.{End}
use Rattle.nft_rules.specs.declared.table.End.TheVariants.{Source, Destination}
use Rattle.nft_rules.specs.declared.table.MatchRule.{MatchRule}
use Rattle.nft_rules.specs.declared.table.PortMatch.{PortMatch}
use Rattle.nft_rules.specs.declared.table.Rule.{Rule}
use Rattle.nft_rules.specs.declared.table.Rule.TheVariants.{Map, Match}
use Rattle.nft_rules.specs.declared.table.ServiceMatch.{ServiceMatch}
use Rattle.nft_rules.specs.declared.table.Table.{Table}
use Rattle.nft_rules.specs.declared.table.Verdict.{Verdict}
use Rattle.nft_rules.specs.declared.table.Verdict.TheVariants.{Accept, Drop, Goto}
use Rattle.nft_rules.specs.Maps.{Leads}

-- The address at one end of a packet: `ip saddr` or `ip daddr`.
abbrev pub address_at : End → Packet → ℕ
address_at Source p = p.src
address_at Destination p = p.dst

-- The port at one end of a packet: `th sport` or `th dport`.
abbrev pub port_at : End → Packet → ℕ
port_at Source p = p.sport
port_at Destination p = p.dport

-- `ct state established`, if the rule has this match.
abbrev pub state_fits : Bool → CtState → Bool
state_fits false state = true
state_fits true New = false
state_fits true Established = true

-- The range of ports, if the rule has a port match.
abbrev pub ports_fit : Option PortMatch → Packet → Bool
ports_fit None p = true
ports_fit (Some m) p = nat_le m.low (port_at m.end p) && nat_le (port_at m.end p) m.high

-- `meta l4proto` and the ports, if the rule has a service match.
abbrev pub service_fits : Option ServiceMatch → Packet → Bool
service_fits None p = true
service_fits (Some s) p = (s.proto == p.proto) && ports_fit s.ports p

-- All matches of the rule fit the packet.
abbrev pub fits : CtState → Packet → MatchRule → Bool
fits state p r = state_fits r.established state && service_fits r.service p

-- The verdict of one rule on a packet, or `None`: then evaluation continues with the next rule.
abbrev pub Gives : CtState → Packet → Rule → Option Verdict → Type 0
Gives state p (Map m) v = Leads m.elements.items (address_at m.end p) v
Gives state p (Match r) v = v ≡ (if fits state p r then Some r.verdict else None)

-- The packet passes the rules, or does not. Rules are evaluated in order. `goto` continues with the rules of another chain and does not
-- return, so a packet without a verdict comes to the end of a chain, and then the policy of the base chain drops it.
pub data Decides (chains : List Chain) (state : CtState) (packet : Packet) : List Rule → Bool → Type 0 where
  by_policy : Decides chains state packet [] false
  by_next : {rule : Rule} {rules : List Rule} {passes : Bool} → Gives state packet rule None → Decides chains state packet rules passes
      → Decides chains state packet (rule ∷ rules) passes
  by_accept : {rule : Rule} {rules : List Rule} → Gives state packet rule (Some Accept) → Decides chains state packet (rule ∷ rules) true
  by_drop : {rule : Rule} {rules : List Rule} → Gives state packet rule (Some Drop) → Decides chains state packet (rule ∷ rules) false
  by_goto : {rule : Rule} {rules : List Rule} {passes : Bool} (c : ℕ) (chain : Chain) → Gives state packet rule (Some (Goto c))
      → slice_get chains c ≡ Some chain → Decides chains state packet chain.rules.items passes → Decides chains state packet (rule ∷ rules) passes

-- The table as a filter: the base chain decides.
abbrev pub PassesTable : Table → CtState → Packet → Bool → Type 0
PassesTable table state packet passes = Decides table.chains.items state packet table.forward.items passes
