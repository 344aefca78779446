-- The verdict on the packets from one host to another.
use Rattle.std.specs.Prelude.{◌≡◌, ℕ, Bool, true, false, if◌then◌else◌, List, [], Option, Some, None, map, option_map}
use Rattle.std.specs.List.{list_any}
use Rattle.std.specs.Option.{option_map_or}
use Rattle.host_net.specs.declared.packet.Packet.{Packet}
use Rattle.host_net.specs.declared.packet.CtState.{CtState}
use Rattle.host_net.specs.declared.service.Service.{Service}
use Rattle.host_net.specs.Packet.{IsPacket}
use Rattle.host_net.specs.Service.{has_all_ports, is_whole, service_matches}
use Rattle.pkt_core.specs.Firewall.{is_established}
use Rattle.pkt_core.specs.FlowPolicy.{FlowPolicy}
use Rattle.emit_core.specs.declared.direction.Direction.TheVariants.{Outbound}
use Rattle.emit_core.proofs.AcceptsLaws.{may_link}
use Rattle.nft_rules.specs.declared.table.Chain.{Chain}
use Rattle.nft_rules.specs.declared.table.End.{End}
use Rattle.nft_rules.specs.declared.table.MatchRule.{MatchRule}
use Rattle.nft_rules.specs.declared.table.PortMatch.{PortMatch}
use Rattle.nft_rules.specs.declared.table.Rule.TheVariants.{Match}
use Rattle.nft_rules.specs.declared.table.ServiceMatch.{ServiceMatch}
use Rattle.nft_rules.specs.declared.table.Verdict.{Verdict}
use Rattle.nft_rules.specs.declared.table.Verdict.TheVariants.{Accept, Drop, Goto}
use Rattle.nft_rules.specs.Semantics.{fits}
use Rattle.nft_emit.specs.inner.Building.{AreAccepting, HasRules}

-- There is a flow, and it is unrestricted.
abbrev pub is_all : Option (List Service) → Bool
is_all flow = option_map_or is_whole flow false

-- The match on the ports of a service at one end.
abbrev pub port_match : End → Service → Option PortMatch
port_match end s = if has_all_ports s then None else Some (record { end = end; low = s.low; high = s.high })

abbrev pub service_match : End → Service → ServiceMatch
service_match end s = record { proto = s.proto; ports = port_match end s }

abbrev pub accept : Bool → End → Option Service → MatchRule
accept established end n = record { established = established; service = option_map (service_match end) n; verdict = Accept }

-- The rules for the services of a flow, if there is a flow.
abbrev pub accepts : Bool → End → Option (List Service) → List MatchRule
accepts established end flow = option_map_or (λ ss. map (accept established end) (service_matches ss)) flow []

-- Host i may send the packet to host j.
abbrev pub may_send : FlowPolicy → Packet → CtState → ℕ → ℕ → Bool
may_send policy packet state i j = may_link Outbound policy packet (is_established state) i j

-- Chain c accepts what host i may send to host j.
pub record Accepts (chains : List Chain) (policy : FlowPolicy) (i j c : ℕ) : Type 0 where
  pub rules : List MatchRule
  pub there : HasRules chains c (map Match rules)
  pub accepting : AreAccepting rules
  pub same : (packet : Packet) (state : CtState) → IsPacket packet → list_any (fits state packet) rules ≡ may_send policy packet state i j

-- The verdict is right for the packets from host i to host j.
abbrev pub AllPass : FlowPolicy → ℕ → ℕ → Bool → Type 0
AllPass policy i j passes = (packet : Packet) (state : CtState) → may_send policy packet state i j ≡ passes

abbrev pub Fits : List Chain → FlowPolicy → ℕ → ℕ → Option Verdict → Type 0
Fits chains policy i j None = AllPass policy i j false
Fits chains policy i j (Some Drop) = AllPass policy i j false
Fits chains policy i j (Some Accept) = AllPass policy i j true
Fits chains policy i j (Some (Goto c)) = Accepts chains policy i j c
