-- The packets that the rules of the chains match.
use Rattle.std.proofs.Common.{◌≡◌, ℕ, Bool, true, false, ◌&&◌, Option, Some, None, refl, sym, ap, ◌∙◌}
use Rattle.std.specs.Prelude.{◌==◌, nat_le}
use Rattle.host_net.specs.declared.packet.Packet.{Packet}
use Rattle.host_net.specs.declared.packet.CtState.{CtState}
use Rattle.host_net.specs.declared.packet.CtState.TheVariants.{New, Established}
use Rattle.host_net.specs.declared.prefix.Prefix.{Prefix}
use Rattle.host_net.specs.Prefix.{covers}
use Rattle.ipt_rules.specs.declared.rule.Target.{Target}
use Rattle.ipt_rules.specs.Matching.{matches, port_matches, protocol_matches, state_matches}
use Rattle.nft_rules.specs.declared.table.End.{End}
use Rattle.nft_rules.specs.declared.table.End.TheVariants.{Source, Destination}
use Rattle.nft_rules.specs.declared.table.MatchRule.{MatchRule}
use Rattle.nft_rules.specs.declared.table.PortMatch.{PortMatch}
use Rattle.nft_rules.specs.declared.table.ServiceMatch.{ServiceMatch}
use Rattle.nft_rules.specs.Semantics.{address_at, fits, service_fits, state_fits}
use Rattle.nft_chains.specs.Translation.{destination_ports, match_rule, ports_in, prefix_rule, protocol_part, source_ports, state_part}

and_true : (b : Bool) → (b && true) ≡ b
and_true true = refl
and_true false = refl

-- The prefix rule matches the packets whose address at this end the prefix covers.
pub prefix_matches : (state : CtState) (p : Packet) (end : End) (target : Target) (q : Prefix)
    → matches p state (prefix_rule end target q) ≡ covers q (address_at end p)
prefix_matches state p Source target q = and_true (covers q p.src)
prefix_matches state p Destination target q = and_true (covers q p.dst)

state_same : (established : Bool) (state : CtState) → state_matches (state_part established) state ≡ state_fits established state
state_same false state = refl
state_same true New = refl
state_same true Established = refl

proto_first : (s a : Bool) → (a && s) ≡ (s && (a && true))
proto_first true true = refl
proto_first true false = refl
proto_first false true = refl
proto_first false false = refl

ports_first : (s a b : Bool) → (a && (b && s)) ≡ (s && (a && b))
ports_first true true true = refl
ports_first true true false = refl
ports_first true false b = refl
ports_first false true true = refl
ports_first false true false = refl
ports_first false false b = refl

-- The matches on the protocol and the ports, and then a last match.
abbrev service_then : Option ServiceMatch → Packet → Bool → Bool
service_then service p last =
    protocol_matches (protocol_part service) p.proto
    && (port_matches (source_ports (ports_in service)) p.sport && (port_matches (destination_ports (ports_in service)) p.dport && last))

ends_then : (proto : ℕ) (end : End) (m : PortMatch) (p : Packet) (last : Bool)
    → service_then (Some (record { proto = proto; ports = Some (record m { end = end }) })) p last
    ≡ (last && service_fits (Some (record { proto = proto; ports = Some (record m { end = end }) })) p)
ends_then proto Source m p last = ports_first last (proto == p.proto) (nat_le m.low p.sport && nat_le p.sport m.high)
ends_then proto Destination m p last = ports_first last (proto == p.proto) (nat_le m.low p.dport && nat_le p.dport m.high)

service_same : (service : Option ServiceMatch) (p : Packet) (last : Bool) → service_then service p last ≡ (last && service_fits service p)
service_same None p last = sym (and_true last)
service_same (Some s) p last = by_ports s.ports refl
  where
    by_ports : (ports : Option PortMatch) → s.ports ≡ ports → service_then (Some s) p last ≡ (last && service_fits (Some s) p)
    by_ports None is = rw is (proto_first last (s.proto == p.proto))
    by_ports (Some m) is = rw is (ends_then s.proto m.end m p last)

-- The rule for a rule with matches matches the packets that all matches fit.
pub match_matches : (state : CtState) (p : Packet) (r : MatchRule) → matches p state (match_rule r) ≡ fits state p r
match_matches state p r =
    service_same r.service p (state_matches (state_part r.established) state)
    ∙ ap (λ (b : Bool). b && service_fits r.service p) (state_same r.established state)
