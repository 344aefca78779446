-- The packets that an entry for a service matches, if the service is no range of ports.
use Rattle.std.proofs.Common.{◌≡◌, inl, inr, ℕ, ◌<◌, ◌^◌, ◌==◌, Bool, true, false, not, ◌&&◌, ◌||◌, List, [], ◌∷◌, Option, Some, None, refl, sym, ap, ◌∙◌, arith}
use Rattle.std.specs.Prelude.{if◌then◌else◌, nat_le, nat_lt}
use Rattle.std.specs.List.{list_all, list_any}
use Rattle.std.specs.Option.{option_map_or}
use Rattle.std.proofs.lemmas.Bool.{and_parts, or_left, or_right}
use Rattle.std.proofs.lemmas.Bool.Decides.{nat_tests}
use Rattle.host_net.specs.declared.prefix.Prefix.{Prefix}
use Rattle.host_net.specs.declared.packet.Packet.{Packet}
use Rattle.host_net.specs.declared.service.Service.{Service}
use Rattle.host_net.specs.Packet.{IsPacket}
use Rattle.host_net.specs.Service.{has_all_ports, is_served, service_matches}
use Rattle.host_net.specs.inner.Service.{is_service}
use Rattle.ofp_rules.specs.declared.entry.Action.TheVariants.{Normal}
use Rattle.ofp_rules.specs.declared.entry.Frame.TheVariants.{Ipv4}
use Rattle.ofp_rules.specs.Matching.{matches, number_matches}
use Rattle.ofp_rules.specs.Semantics.{IsOneOf}
use Rattle.emit_core.proofs.EachHostLaws.{map_from, one_passes}
use Rattle.emit_core.specs.FlowTable.{ip_entry, service_entry, port_of_service}
use Rattle.emit_core.proofs.NarrowingLaws.{lets, is_served-service_matches, all_ports}
use Rattle.emit_core.specs.PortRanges.{is_range}

-- A test that each service of a flow passes is passed by each of its restrictions.
pub narrowed_passes : (test : Service → Bool) (ss : List Service) (n : Option Service) → list_all test ss ≡ true → IsOneOf n (service_matches ss)
    → option_map_or test n true ≡ true
narrowed_passes test [] n all (inl is) = ap (λ (o : Option Service). option_map_or test o true) is
narrowed_passes test [] n all (inr none) = absurd none
narrowed_passes test (s ∷ ss) n all one =
    let made = map_from (λ t. Some t) (s ∷ ss) n one in
    ap (λ (o : Option Service). option_map_or test o true) made.is ∙ one_passes test (s ∷ ss) made.from all made.listed

abbrev is_no_range : Service → Bool
is_no_range s = not (is_range s)

-- An entry can match it: it is a service without a range of ports, or nothing.
pub record IsAskable (n : Option Service) : Type 0 where
  pub service : option_map_or is_service n true ≡ true
  pub single : option_map_or is_no_range n true ≡ true

no_ranges : (ss : List Service) → list_any is_range ss ≡ false → list_all is_no_range ss ≡ true
no_ranges [] none = refl
no_ranges (s ∷ ss) none = by (is_range s) (no_ranges ss) none
  where
    by : (b : Bool) → (list_any is_range ss ≡ false → list_all is_no_range ss ≡ true) → (b || list_any is_range ss) ≡ false
        → (not b && list_all is_no_range ss) ≡ true
    by true later h = cc
    by false later h = later h

pub askable : (ss : List Service) (n : Option Service) → list_all is_service ss ≡ true → list_any is_range ss ≡ false → IsOneOf n (service_matches ss)
    → IsAskable n
askable ss n valid plain one = record {
  service = narrowed_passes is_service ss n valid one;
  single = narrowed_passes is_no_range ss n (no_ranges ss plain) one;
}

-- A service with one port matches that port.
one_between : (l h port : ℕ) → nat_le l h ≡ true → nat_lt l h ≡ false → (l == port) ≡ (nat_le l port && nat_le port h)
one_between l h port ordered single = grind (arith, nat_tests)

one_port : (s : Service) (port : ℕ) → is_service s ≡ true → nat_lt s.low s.high ≡ false → (s.low == port) ≡ (nat_le s.low port && nat_le port s.high)
one_port s port valid single = one_between s.low s.high port (and_parts (nat_le s.low s.high) _ valid).0 single

single_by : (a b : Bool) → not (a && not b) ≡ true → b ≡ false → a ≡ false
single_by a true plain off = cc
single_by true false plain off = cc
single_by false false plain off = refl

port_by : (all : Bool) (s : Service) (port : ℕ) → has_all_ports s ≡ all → port < 2 ^ 16 → is_service s ≡ true → is_no_range s ≡ true
    → number_matches (if all then None else Some s.low) port ≡ (nat_le s.low port && nat_le port s.high)
port_by true s port is fits valid plain = sym (all_ports s port fits is)
port_by false s port is fits valid plain = one_port s port valid (single_by (nat_lt s.low s.high) (has_all_ports s) plain is)

port_fits : (s : Service) (port : ℕ) → port < 2 ^ 16 → is_service s ≡ true → is_no_range s ≡ true
    → number_matches (port_of_service s) port ≡ (nat_le s.low port && nat_le port s.high)
port_fits s port fits valid plain = port_by (has_all_ports s) s port refl fits valid plain

together : (a b c : Bool) → (a && (b && c)) ≡ ((a && b) && c)
together true b c = refl
together false b c = refl

-- An entry for a service matches the packets that the service matches between its prefixes.
pub entry_matches : (k : ℕ) (q t : Option Prefix) (n : Option Service) (packet : Packet) → IsPacket packet → IsAskable n
    → matches (Ipv4 packet) (service_entry k q t n) ≡ (lets packet n && matches (Ipv4 packet) (ip_entry k q t Normal))
entry_matches k q t None packet is can = refl
entry_matches k q t (Some s) packet is can =
    (λ i. (s.proto == packet.proto) && (port_fits s packet.dport is.4 can.service can.single i && matches (Ipv4 packet) (ip_entry k q t Normal)))
    ∙ together (s.proto == packet.proto) (nat_le s.low packet.dport && nat_le packet.dport s.high) (matches (Ipv4 packet) (ip_entry k q t Normal))

any_of : (test : Option Service → Bool) (ns : List (Option Service)) (n : Option Service) → IsOneOf n ns → test n ≡ true → list_any test ns ≡ true
any_of test [] n one on = absurd one
any_of test (m ∷ ns) n (inl is) on = or_left (test m) (list_any test ns) (ap test (sym is) ∙ on)
any_of test (m ∷ ns) n (inr later) on = or_right (test m) (list_any test ns) (any_of test ns n later on)

pub served_by : (ss : List Service) (packet : Packet) (n : Option Service) → IsOneOf n (service_matches ss) → lets packet n ≡ true → is_served ss packet ≡ true
served_by ss packet n one on = is_served-service_matches packet ss ∙ any_of (lets packet) (service_matches ss) n one on

pub record Serving (packet : Packet) (ns : List (Option Service)) : Type 0 where
  pub narrowing : Option Service
  pub listed : IsOneOf narrowing ns
  pub lets_it : lets packet narrowing ≡ true

serving : (packet : Packet) (ns : List (Option Service)) → list_any (lets packet) ns ≡ true → Serving packet ns
serving packet [] h = cc
serving packet (n ∷ ns) h = by (lets packet n) refl (serving packet ns) h
  where
    by : (b : Bool) → lets packet n ≡ b → (list_any (lets packet) ns ≡ true → Serving packet ns) → (b || list_any (lets packet) ns) ≡ true
        → Serving packet (n ∷ ns)
    by true is later on = record { narrowing = n; listed = inl refl; lets_it = is }
    by false is later on = let r = later on in record { narrowing = r.narrowing; listed = inr r.listed; lets_it = r.lets_it }

pub server : (ss : List Service) (packet : Packet) → is_served ss packet ≡ true → Serving packet (service_matches ss)
server ss packet served = serving packet (service_matches ss) (sym (is_served-service_matches packet ss) ∙ served)
