-- The numbers of the entries of a policy fit a frame, and an entry matches a port only for protocols with ports.
use Rattle.std.proofs.Common.{◌≡◌, ℕ, ◌^◌, zero, suc, Bool, true, false, not, ◌||◌, nat_lt, List, [], ◌∷◌, Option, Some, None, slice_get, refl, sym, ap, subst, ◌∙◌, arith}
use Rattle.std.specs.Prelude.{is_some, if◌then◌else◌}
use Rattle.std.specs.List.{list_all}
use Rattle.std.specs.Option.{option_map_or}
use Rattle.std.proofs.lemmas.Bool.{and_parts, and_from}
use Rattle.std.proofs.lemmas.Bool.Decides.{nat_tests}
use Rattle.std.proofs.lemmas.List.Folds.{list_all-append}
use Rattle.host_net.specs.declared.prefix.Prefix.{Prefix}
use Rattle.host_net.specs.declared.service.Service.{Service}
use Rattle.host_net.specs.Host.{Host}
use Rattle.host_net.specs.Hosts.{all_prefixes}
use Rattle.host_net.specs.inner.Hosts.{IsHosts, is_network}
use Rattle.host_net.specs.Service.{has_all_ports, has_ports, service_matches}
use Rattle.host_net.specs.inner.Service.{is_service}
use Rattle.host_net.specs.Services.{services_of}
use Rattle.host_net.specs.inner.Services.{AreServices}
use Rattle.host_net.specs.Site.{Site}
use Rattle.host_net.specs.inner.Site.{IsSite}
use Rattle.flow_set.specs.declared.flow.Flow.{Flow}
use Rattle.ofp_rules.specs.declared.entry.Entry.{Entry}
use Rattle.ofp_rules.specs.Matching.{asks_of_ip}
use Rattle.ofp_rules.specs.Semantics.{IsOneOf}
use Rattle.ofp_rules.specs.inner.Ranges.{AreInRange, address_fits, in_range, number_fits}
use Rattle.emit_core.proofs.EachHostLaws.{all_pass, one_passes}
use Rattle.emit_core.specs.FlowTable.{service_entry, flow_entries}
use Rattle.emit_core.proofs.FlowTableLaws.{kind_of_pair}
use Rattle.emit_core.proofs.FlowTableOriginLaws.{IsBetween, Origin, of_pair, of_to_rest, of_from_rest, of_arp, of_other, origin}
use Rattle.emit_core.proofs.FlowTablePairLaws.{PairKind, of_service, of_low, of_drop}
use Rattle.emit_core.proofs.FlowTableServiceLaws.{narrowed_passes}
use Rattle.emit_core.specs.Directions.{permits}

-- The addresses: a host's prefixes are networks.
held_network : (hosts : List Host) (i : ℕ) (h : Host) (q : Prefix) → list_all is_network (all_prefixes hosts) ≡ true
    → slice_get hosts i ≡ Some h → IsOneOf q h.prefixes → is_network q ≡ true
held_network [] i h q all there here = cc
held_network (x ∷ hosts) zero h q all there here =
    let same : x ≡ h = cc in
    let own = (and_parts _ _ (sym (list_all-append is_network x.prefixes (all_prefixes hosts)) ∙ all)).0 in
    one_passes is_network x.prefixes q own (subst (λ (y : Host). IsOneOf q y.prefixes) (sym same) here)
held_network (x ∷ hosts) (suc i) h q all there here =
    let rest = (and_parts _ _ (sym (list_all-append is_network x.prefixes (all_prefixes hosts)) ∙ all)).1 in
    held_network hosts i h q rest there here

held_fits : (hosts : List Host) (i : ℕ) (h : Host) (q : Prefix) → IsHosts hosts → slice_get hosts i ≡ Some h → IsOneOf q h.prefixes
    → address_fits (Some q) ≡ true
held_fits hosts i h q known there here = (and_parts _ _ (held_network hosts i h q known.networks there here)).0

-- The protocol and the port of a service.
abbrev IsValid : Option Service → Type 0
IsValid n = option_map_or is_service n true ≡ true

protocol_small : (s : Service) → is_service s ≡ true → number_fits (2 ^ 8) (Some s.proto) ≡ true
protocol_small s valid = grind (arith, nat_tests)

low_small : (s : Service) → is_service s ≡ true → number_fits (2 ^ 16) (Some s.low) ≡ true
low_small s valid = grind (arith, nat_tests)

port_small : (b : Bool) (s : Service) → is_service s ≡ true → number_fits (2 ^ 16) (if b then None else Some s.low) ≡ true
port_small true s valid = refl
port_small false s valid = low_small s valid

service_in_range : (k : ℕ) (q t : Option Prefix) (n : Option Service) → nat_lt k (2 ^ 16) ≡ true → IsValid n → address_fits q ≡ true → address_fits t ≡ true
    → in_range (service_entry k q t n) ≡ true
service_in_range k q t None small valid from to = and_from _ _ small (and_from _ _ from to)
service_in_range k q t (Some s) small valid from to =
    and_from _ _ small (and_from _ _ (protocol_small s valid) (and_from _ _ (port_small (has_all_ports s) s valid) (and_from _ _ from to)))

port_asked_by : (b : Bool) (s : Service) → has_all_ports s ≡ b → is_service s ≡ true
    → (has_ports s.proto || not (is_some (if b then None else Some s.low))) ≡ true
port_asked_by b s is valid = grind (arith, nat_tests)

service_asks : (k : ℕ) (q t : Option Prefix) (n : Option Service) → IsValid n → asks_of_ip (service_entry k q t n) ≡ true
service_asks k q t None valid = refl
service_asks k q t (Some s) valid = port_asked_by (has_all_ports s) s refl valid

module _ (site : Site) (p : List Flow) (valid : AreServices site.services) where
  valid_of : (i j : ℕ) (n : Option Service) → IsOneOf n (service_matches (services_of site.services i j)) → IsValid n
  valid_of i j n one = narrowed_passes is_service (services_of site.services i j) n (valid.valid i j) one

  pair_asks : (e : Entry) (o : IsBetween site p e) → PairKind (permits p o.i o.j) (services_of site.services o.i o.j) o.q o.t e → asks_of_ip e ≡ true
  pair_asks e o (of_service n permitted one is) = ap asks_of_ip is ∙ service_asks 40 (Some o.q) (Some o.t) n (valid_of o.i o.j n one)
  pair_asks e o (of_low permitted narrowed is) = ap asks_of_ip is
  pair_asks e o (of_drop denied is) = ap asks_of_ip is

  asks_by : (e : Entry) → Origin site p e → asks_of_ip e ≡ true
  asks_by e (of_pair o) = pair_asks e o (kind_of_pair site p e o)
  asks_by e (of_to_rest o) = ap asks_of_ip o.is ∙ service_asks 30 (Some o.q) None o.n (valid_of o.i o.r o.n o.one)
  asks_by e (of_from_rest o) = ap asks_of_ip o.is ∙ service_asks 30 None (Some o.q) o.n (valid_of o.r o.i o.n o.one)
  asks_by e (of_arp is) = ap asks_of_ip is
  asks_by e (of_other is) = ap asks_of_ip is

  -- Only entries for IPv4 frames match addresses or a protocol, and an entry matches a port only together with a protocol that has ports.
  pub all_ask : list_all asks_of_ip (flow_entries site p) ≡ true
  all_ask = all_pass asks_of_ip (flow_entries site p) (λ e here. asks_by e (origin site p e here))

  pair_in_range : (e : Entry) (o : IsBetween site p e) → IsHosts site.hosts → PairKind (permits p o.i o.j) (services_of site.services o.i o.j) o.q o.t e
      → in_range e ≡ true
  pair_in_range e o known kind =
      let from = held_fits site.hosts o.i o.g o.q known o.at_i o.from in
      let to = held_fits site.hosts o.j o.h o.t known o.at_j o.to in
      elim kind [
        | of_service n permitted one is ↦ ap in_range is ∙ service_in_range 40 (Some o.q) (Some o.t) n refl (valid_of o.i o.j n one) from to
        | of_low permitted narrowed is ↦ ap in_range is ∙ and_from _ _ from to
        | of_drop denied is ↦ ap in_range is ∙ and_from _ _ from to
      ]

  in_range_by : (e : Entry) → IsHosts site.hosts → Origin site p e → in_range e ≡ true
  in_range_by e known (of_pair o) = pair_in_range e o known (kind_of_pair site p e o)
  in_range_by e known (of_to_rest o) =
      ap in_range o.is ∙ service_in_range 30 (Some o.q) None o.n refl (valid_of o.i o.r o.n o.one) (held_fits site.hosts o.i o.h o.q known o.there o.from) refl
  in_range_by e known (of_from_rest o) =
      ap in_range o.is ∙ service_in_range 30 None (Some o.q) o.n refl (valid_of o.r o.i o.n o.one) refl (held_fits site.hosts o.i o.h o.q known o.there o.to)
  in_range_by e known (of_arp is) = ap in_range is
  in_range_by e known (of_other is) = ap in_range is

pub flow_entries_in_range : (site : Site) (p : List Flow) → IsSite site → AreInRange (flow_entries site p)
flow_entries_in_range site p known =
    all_pass in_range (flow_entries site p) (λ e here. in_range_by site p known.services e known.hosts (origin site p e here))
