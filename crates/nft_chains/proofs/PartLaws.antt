-- The matches of the rules on protocols and ports are valid.
use Rattle.std.proofs.Common.{◌≡◌, ℕ, ◌≤◌, Bool, true, false, ◌&&◌, List, [], ◌∷◌, Option, Some, None, map, refl, arith}
use Rattle.std.specs.Prelude.{nat_le}
use Rattle.std.specs.List.{list_all}
use Rattle.std.specs.Option.{ForSome}
use Rattle.std.proofs.lemmas.Bool.{and_from, and_parts}
use Rattle.std.proofs.lemmas.Bool.Decides.{nat_tests}
use Rattle.host_net.specs.declared.prefix.Prefix.{Prefix}
use Rattle.host_net.specs.Service.{has_name, has_ports, max_port}
use Rattle.ipt_rules.specs.declared.rule.Target.{Target}
use Rattle.ipt_rules.specs.inner.RuleParts.{are_ports, is_protocol, is_rule}
use Rattle.nft_rules.specs.declared.table.End.{End}
use Rattle.nft_rules.specs.declared.table.End.TheVariants.{Source, Destination}
use Rattle.nft_rules.specs.declared.table.MatchRule.{MatchRule}
use Rattle.nft_rules.specs.declared.table.PortMatch.{PortMatch}
use Rattle.nft_rules.specs.declared.table.ServiceMatch.{ServiceMatch}
use Rattle.nft_rules.specs.declared.table.Verdict.TheVariants.{Accept}
use Rattle.nft_rules.specs.Loadable.{is_service_match}
use Rattle.nft_chains.specs.Translation.{destination_ports, match_rule, ports_in, prefix_rule, protocol_part, source_ports}

pub prefixes_valid : (end : End) (target : Target) (qs : List Prefix) → list_all is_rule (map (prefix_rule end target) qs) ≡ true
prefixes_valid end target [] = refl
prefixes_valid end target (q ∷ qs) = prefixes_valid end target qs

protocol_valid : (proto : ℕ) → has_name proto ≡ true → is_protocol (protocol_part (Some (record { proto = proto; ports = None }))) ≡ true
protocol_valid proto named = grind (arith, nat_tests)

named_ports : (proto : ℕ) → has_ports proto ≡ true → has_name proto ≡ true
named_ports proto ports = grind (arith, nat_tests)

range_valid : (m : PortMatch) → m.high ≤ max_port → nat_le m.low m.high ≡ true → (nat_le m.low m.high && nat_le m.high max_port) ≡ true
range_valid m fits order = and_from _ _ order (grind (arith, nat_tests, fits))

-- The matches on the protocol and on both ports.
abbrev are_parts : Option ServiceMatch → Bool
are_parts service = is_rule (match_rule (record { established = false; service = service; verdict = Accept }))

ends_valid : (proto : ℕ) (end : End) (m : PortMatch) → has_ports proto ≡ true → (nat_le m.low m.high && nat_le m.high max_port) ≡ true
    → (are_ports (has_ports proto) (source_ports (Some (record m { end = end })))
    && are_ports (has_ports proto) (destination_ports (Some (record m { end = end })))) ≡ true
ends_valid proto Source m ports range = and_from _ _ (and_from _ _ ports range) refl
ends_valid proto Destination m ports range = and_from _ _ ports range

service_valid : (service : Option ServiceMatch) → is_service_match service ≡ true → ForSome (ports_in service) (λ m. m.high ≤ max_port)
    → are_parts service ≡ true
service_valid None is fits = refl
service_valid (Some s) is fits = by_ports s.ports refl
  where
    by_ports : (ports : Option PortMatch) → s.ports ≡ ports → are_parts (Some s) ≡ true
    by_ports None ports = and_from _ _ (protocol_valid s.proto (rw ports at is)) (rw ports refl)
    by_ports (Some m) ports =
        let valid = and_parts (has_ports s.proto) (nat_le m.low m.high) (rw ports at is) in
        let high : m.high ≤ max_port = fits m ports in
        and_from _ _ (protocol_valid s.proto (named_ports s.proto valid.0))
        (rw ports (ends_valid s.proto m.end m valid.0 (range_valid m high valid.1)))

pub match_valid : (r : MatchRule) → is_service_match r.service ≡ true → ForSome (ports_in r.service) (λ m. m.high ≤ max_port)
    → is_rule (match_rule r) ≡ true
match_valid r is fits = service_valid r.service is fits
