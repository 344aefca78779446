-- The packets that the rules of a layout match.
use Rattle.std.proofs.Common.{◌≡◌, ℕ, ◌<◌, ◌^◌, Bool, true, false, ◌&&◌, ◌==◌, Option, Some, None, refl, sym, ◌∙◌}
use Rattle.std.specs.Prelude.{if◌then◌else◌, nat_le}
use Rattle.std.proofs.Math.Bool.{and-true}
use Rattle.host_net.specs.declared.packet.Packet.{Packet}
use Rattle.host_net.specs.declared.packet.CtState.{CtState}
use Rattle.host_net.specs.declared.packet.CtState.TheVariants.{New, Established}
use Rattle.host_net.specs.declared.prefix.Prefix.{Prefix}
use Rattle.host_net.specs.declared.service.Service.{Service}
use Rattle.host_net.specs.Packet.{IsPacket, swap_of}
use Rattle.host_net.specs.Prefix.{covers}
use Rattle.host_net.specs.Service.{has_all_ports}
use Rattle.ipt_rules.specs.declared.rule.Target.{Target}
use Rattle.ipt_rules.specs.declared.rule.Target.TheVariants.{Accept}
use Rattle.ipt_rules.specs.Matching.{matches, port_matches}
use Rattle.pkt_core.specs.Firewall.{is_established}
use Rattle.emit_core.specs.declared.direction.Direction.{Direction}
use Rattle.emit_core.specs.declared.direction.Direction.TheVariants.{Outbound, Inbound}
use Rattle.emit_core.specs.Layout.{match_peer, match_established, from_source, port_part, to_service, from_service}
use Rattle.emit_core.proofs.NarrowingLaws.{lets, all_ports}
use Rattle.emit_core.specs.OtherAddress.{other_address}

-- The address is in the prefix. Without a prefix every address is.
abbrev pub lies_in : Option Prefix → ℕ → Bool
lies_in None a = true
lies_in (Some q) a = covers q a

pub source_fits : (q : Option Prefix) (target : Target) (packet : Packet) (state : CtState)
    → matches packet state (from_source q target) ≡ lies_in q packet.src
source_fits None target packet state = refl
source_fits (Some q) target packet state = and-true (covers q packet.src)

pub whole_fits : (side : Direction) (q : Option Prefix) (target : Target) (packet : Packet) (state : CtState)
    → matches packet state (match_peer side q None target) ≡ lies_in q (other_address side packet)
whole_fits Outbound None target packet state = refl
whole_fits Outbound (Some q) target packet state = and-true (covers q packet.dst)
whole_fits Inbound q target packet state = source_fits q target packet state

-- The address match, and the state match for answers.
answer_fits : (side : Direction) (q : Option Prefix) (target : Target) (packet : Packet) (state : CtState)
    → matches packet state (match_peer side q match_established target) ≡ (lies_in q (other_address side packet) && is_established state)
answer_fits Outbound None target packet New = refl
answer_fits Outbound None target packet Established = refl
answer_fits Outbound (Some q) target packet New = refl
answer_fits Outbound (Some q) target packet Established = refl
answer_fits Inbound None target packet New = refl
answer_fits Inbound None target packet Established = refl
answer_fits Inbound (Some q) target packet New = refl
answer_fits Inbound (Some q) target packet Established = refl

-- The port match of a rule for a service matches the ports of the service; it is omitted if these are all ports.
ports_by : (b : Bool) (s : Service) (port : ℕ) → has_all_ports s ≡ b → port < 2 ^ 16
    → port_matches (if b then None else Some (record { low = s.low; high = s.high; negated = false })) port ≡ (nat_le s.low port && nat_le port s.high)
ports_by true s port is fits = sym (all_ports s port fits is)
ports_by false s port is fits = refl

ports_fit : (s : Service) (port : ℕ) → port < 2 ^ 16 → port_matches (port_part (Some s)) port ≡ (nat_le s.low port && nat_le port s.high)
ports_fit s port fits = ports_by (has_all_ports s) s port refl fits

turned_round : (a b c : Bool) → (a && (b && c)) ≡ (c && (a && b))
turned_round true true c = sym (and-true c)
turned_round true false true = refl
turned_round true false false = refl
turned_round false b true = refl
turned_round false b false = refl

-- The rule matches packets to the other host that match the service.
pub to_service_fits : (side : Direction) (q : Option Prefix) (n : Option Service) (packet : Packet) (state : CtState) → IsPacket packet
    → matches packet state (to_service side q n) ≡ (lies_in q (other_address side packet) && lets packet n)
to_service_fits side q None packet state is = whole_fits side q Accept packet state ∙ sym (and-true (lies_in q (other_address side packet)))
to_service_fits side q (Some s) packet state is =
    let rest : matches packet state (match_peer side q None Accept) ≡ lies_in q (other_address side packet) = whole_fits side q Accept packet state in
    (λ i. (s.proto == packet.proto) && (ports_fit s packet.dport is.4 i && rest i))
    ∙ turned_round (s.proto == packet.proto) (nat_le s.low packet.dport && nat_le packet.dport s.high) (lies_in q (other_address side packet))

moved : (a b c e : Bool) → (a && (b && (c && e))) ≡ (c && ((a && b) && e))
moved true true c e = refl
moved true false true e = refl
moved true false false e = refl
moved false b true e = refl
moved false b false e = refl

-- The rule matches answers to packets of the service.
pub from_service_fits : (side : Direction) (q : Option Prefix) (n : Option Service) (packet : Packet) (state : CtState) → IsPacket packet
    → matches packet state (from_service side q n) ≡ (lies_in q (other_address side packet) && (lets (swap_of packet) n && is_established state))
from_service_fits side q None packet state is = answer_fits side q Accept packet state
from_service_fits side q (Some s) packet state is =
    let rest = answer_fits side q Accept packet state in
    (λ i. (s.proto == packet.proto) && (ports_fit s packet.sport is.3 i && rest i))
    ∙ moved (s.proto == packet.proto) (nat_le s.low packet.sport && nat_le packet.sport s.high) (lies_in q (other_address side packet)) (is_established state)
