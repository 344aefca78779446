-- Laws of services: the services of two flows meet if and only if some packet matches both, and the packets of one flow.
use Rattle.std.proofs.Common.{◌≡◌, ◌≢◌, inl, inr, ℕ, ◌<◌, ◌≤◌, ◌^◌, ◌==◌, Bool, true, false, ◌&&◌, ◌||◌, List, [], ◌∷◌, Option, Some, None, refl, sym, ap, subst, ◌∙◌, arith, lit<}
use Rattle.std.specs.Prelude.{if◌then◌else◌, nat_le}
use Rattle.std.specs.List.{Contains, list_all, list_any}
use Rattle.std.specs.Option.{option_map_or}
use Rattle.std.proofs.lemmas.Bool.{and_from, and_parts, cases_lt, eq-eqb, eqb-true, false_from_ne_true, le-leb, leb-true, or_cases}
use Rattle.std.proofs.lemmas.List.Folds.{Any-from_list_any, list_any-from_Any}
use Rattle.host_net.specs.declared.packet.Packet.{Packet}
use Rattle.host_net.specs.declared.service.Service.{Service}
use Rattle.host_net.specs.Host.{owner_of}
use Rattle.host_net.specs.Service.{has_all_ports, has_ports, icmp, is_served, max_port, serves, tcp, udp}
use Rattle.host_net.specs.Services.{RestrictedFlow, services_of}
use Rattle.host_net.specs.Site.{Site}
use Rattle.host_net.specs.inner.Service.{is_service}
use Rattle.flow_set.specs.declared.flow.Flow.{Flow}
use Rattle.flow_set.specs.Flow.{same_flow}
use Rattle.flow_set.specs.FlowSet.{has}
use Rattle.flow_set.specs.laws.FlowLaws.{has_first, same_flow-true}
use Rattle.pkt_core.specs.FlowPolicy.{flow_of_owners, is_of}
use Rattle.change_core.specs.inner.Serving.{meets, meets_some, services_meet}
use Rattle.change_core.proofs.ListLaws.{contains_cases, contains_first, contains_none}

-- 1. Tests of the elements of a list.

pub some_passes : {X : Type 0} (test : X → Bool) (xs : List X) → list_any test xs ≡ true → (x : X) × Contains xs x × (test x ≡ true)
some_passes test xs found = let any = Any-from_list_any test xs found in (any.1, (any.0, any.2, any.3), any.4)

pub passes_some : {X : Type 0} (test : X → Bool) (xs : List X) (x : X) → Contains xs x → test x ≡ true → list_any test xs ≡ true
passes_some test xs x there passes = list_any-from_Any test xs (there.0, x, there.1, there.2, passes)

pub one_of_all : {X : Type 0} (test : X → Bool) (xs : List X) (x : X) → list_all test xs ≡ true → Contains xs x → test x ≡ true
one_of_all test [] x all there = absurd (contains_none x there)
one_of_all {X = X} test (y ∷ ys) x all there =
    let parts = and_parts (test y) (list_all test ys) all in
    elim (contains_cases y ys x there) [
      | inl is ↦ subst (λ (z : X). test z ≡ true) is parts.0
      | inr later ↦ one_of_all test ys x parts.1 later
    ]

-- 2. Valid services.

-- The protocol and the ports of a service are those of packets.
record FitsPackets (s : Service) : Type 0 where
  protocol : s.proto < 2 ^ 8
  ordered : s.low ≤ s.high
  last : s.high < 2 ^ 16

protocol_fits : (n : ℕ) (whole : Bool) → (has_ports n || ((n == icmp) && whole)) ≡ true → n < 2 ^ 8
protocol_fits n whole valid = elim (or_cases (has_ports n) ((n == icmp) && whole) valid) [
  | inl ports ↦ elim (or_cases (n == tcp) (n == udp) ports) [
    | inl is ↦ subst (λ (m : ℕ). m < 2 ^ 8) (sym (eqb-true n tcp is)) (lit< tt)
    | inr is ↦ subst (λ (m : ℕ). m < 2 ^ 8) (sym (eqb-true n udp is)) (lit< tt)
  ]
  | inr both ↦ subst (λ (m : ℕ). m < 2 ^ 8) (sym (eqb-true n icmp (and_parts (n == icmp) whole both).0)) (lit< tt)
]

port_fits : (n : ℕ) → n ≤ 65535 → n < 65536
port_fits n low = omega (arith, low)

fits_packets : (s : Service) → is_service s ≡ true → FitsPackets s
fits_packets s valid =
    let kind = has_ports s.proto || ((s.proto == icmp) && has_all_ports s) in
    let parts = and_parts (nat_le s.low s.high) (nat_le s.high max_port && kind) valid in
    let rest = and_parts (nat_le s.high max_port) kind parts.1 in
    record {
      protocol = protocol_fits s.proto (has_all_ports s) rest.1;
      ordered = leb-true s.low s.high parts.0;
      last = port_fits s.high (leb-true s.high max_port rest.0);
    }

-- 3. Services that match one packet.

pub serves_at : (s : Service) (p : Packet) → s.proto ≡ p.proto → s.low ≤ p.dport → p.dport ≤ s.high → serves s p ≡ true
serves_at s p is low high =
    and_from (s.proto == p.proto) (nat_le s.low p.dport && nat_le p.dport s.high) (eq-eqb s.proto p.proto is)
    (and_from (nat_le s.low p.dport) (nat_le p.dport s.high) (le-leb s.low p.dport low) (le-leb p.dport s.high high))

pub record IsServedBy (s : Service) (p : Packet) : Type 0 where
  pub protocol : s.proto ≡ p.proto
  pub low : s.low ≤ p.dport
  pub high : p.dport ≤ s.high

pub served_by : (s : Service) (p : Packet) → serves s p ≡ true → IsServedBy s p
served_by s p is =
    let parts = and_parts (s.proto == p.proto) (nat_le s.low p.dport && nat_le p.dport s.high) is in
    let ports = and_parts (nat_le s.low p.dport) (nat_le p.dport s.high) parts.1 in
    record {
      protocol = eqb-true s.proto p.proto parts.0;
      low = leb-true s.low p.dport ports.0;
      high = leb-true p.dport s.high ports.1;
    }

-- One service of a list is enough.
pub served : (ss : List Service) (s : Service) (p : Packet) → Contains ss s → serves s p ≡ true → is_served ss p ≡ true
served [] s p there is = refl
served (t ∷ ts) s p there is = passes_some (λ u. serves u p) (t ∷ ts) s there is

-- Every packet with this protocol and this port matches both lists of services.
pub record MeetAt (left right : List Service) : Type 0 where
  pub protocol : ℕ
  pub port : ℕ
  pub few : protocol < 2 ^ 8
  pub last : port < 2 ^ 16
  pub matched : (p : Packet) → protocol ≡ p.proto → port ≡ p.dport → (is_served left p ≡ true) × (is_served right p ≡ true)

below : (a b c : ℕ) → a ≤ b → b < c → a < c
below a b c low high = omega (arith, low, high)

reaches : (a b c : ℕ) → a ≤ b → b ≡ c → a ≤ c
reaches a b c low is = omega (arith, low, is)

within : (a b c : ℕ) → b ≡ c → b ≤ a → c ≤ a
within a b c is high = omega (arith, is, high)

-- The first port of a service.
serves_first : (s : Service) (p : Packet) → FitsPackets s → s.proto ≡ p.proto → s.low ≡ p.dport → serves s p ≡ true
serves_first s p fits is port = serves_at s p is (omega (arith, port)) (within s.high s.low p.dport port fits.ordered)

-- A port in the ranges of two services: the greater of their first ports.
meets_at : (left right : List Service) (s t : Service) → Contains left s → Contains right t → FitsPackets s → FitsPackets t → meets s t ≡ true → MeetAt left right
meets_at left right s t one other s_fits t_fits meet =
    let parts = and_parts (s.proto == t.proto) (nat_le s.low t.high && nat_le t.low s.high) meet in
    let ports = and_parts (nat_le s.low t.high) (nat_le t.low s.high) parts.1 in
    let same : s.proto ≡ t.proto = eqb-true s.proto t.proto parts.0 in
    let s_low : s.low ≤ t.high = leb-true s.low t.high ports.0 in
    let t_low : t.low ≤ s.high = leb-true t.low s.high ports.1 in
    elim (cases_lt s.low t.low) [
      | inl less ↦ record {
        protocol = s.proto;
        port = t.low;
        few = s_fits.protocol;
        last = below t.low t.high (2 ^ 16) t_fits.ordered t_fits.last;
        matched = λ p is at. (
          served left s p one (serves_at s p is (reaches s.low t.low p.dport (omega (arith, less)) at) (within s.high t.low p.dport at t_low)),
          served right t p other (serves_first t p t_fits (sym same ∙ is) at),
        );
      }
      | inr more ↦ record {
        protocol = s.proto;
        port = s.low;
        few = s_fits.protocol;
        last = below s.low s.high (2 ^ 16) s_fits.ordered s_fits.last;
        matched = λ p is at. (
          served left s p one (serves_first s p s_fits is at),
          served right t p other (serves_at t p (sym same ∙ is) (reaches t.low s.low p.dport more at) (within t.high s.low p.dport at s_low)),
        );
      }
    ]

pub meet_where : (left right : List Service) → list_all is_service left ≡ true → list_all is_service right ≡ true → services_meet left right ≡ true
    → MeetAt left right
meet_where [] [] valid also meet = record { protocol = 0; port = 0; few = lit< tt; last = lit< tt; matched = λ p is at. (refl, refl) }
meet_where [] (t ∷ ts) valid also meet =
    let fits = fits_packets t (and_parts (is_service t) (list_all is_service ts) also).0 in
    record {
      protocol = t.proto;
      port = t.low;
      few = fits.protocol;
      last = below t.low t.high (2 ^ 16) fits.ordered fits.last;
      matched = λ p is at. (refl, served (t ∷ ts) t p (contains_first t ts t refl) (serves_first t p fits is at));
    }
meet_where (s ∷ ss) [] valid also meet =
    let fits = fits_packets s (and_parts (is_service s) (list_all is_service ss) valid).0 in
    record {
      protocol = s.proto;
      port = s.low;
      few = fits.protocol;
      last = below s.low s.high (2 ^ 16) fits.ordered fits.last;
      matched = λ p is at. (served (s ∷ ss) s p (contains_first s ss s refl) (serves_first s p fits is at), refl);
    }
meet_where (s ∷ ss) (t ∷ ts) valid also meet =
    let one = some_passes (meets_some (t ∷ ts)) (s ∷ ss) meet in
    let other = some_passes (meets one.0) (t ∷ ts) one.2 in
    meets_at (s ∷ ss) (t ∷ ts) one.0 other.0 one.1 other.1 (fits_packets one.0 (one_of_all is_service (s ∷ ss) one.0 valid one.1))
    (fits_packets other.0 (one_of_all is_service (t ∷ ts) other.0 also other.1)) other.2

both_serve : (s t : Service) (p : Packet) → IsServedBy s p → IsServedBy t p → meets s t ≡ true
both_serve s t p one other =
    and_from (s.proto == t.proto) (nat_le s.low t.high && nat_le t.low s.high) (eq-eqb s.proto t.proto (one.protocol ∙ sym other.protocol))
    (and_from (nat_le s.low t.high) (nat_le t.low s.high) (le-leb s.low t.high (omega (arith, one.low, other.high)))
    (le-leb t.low s.high (omega (arith, other.low, one.high))))

pub where_meet : (left right : List Service) (p : Packet) → is_served left p ≡ true → is_served right p ≡ true → services_meet left right ≡ true
where_meet [] right p one other = refl
where_meet (s ∷ ss) [] p one other = refl
where_meet (s ∷ ss) (t ∷ ts) p one other =
    let first = some_passes (λ u. serves u p) (s ∷ ss) one in
    let second = some_passes (λ u. serves u p) (t ∷ ts) other in
    passes_some (meets_some (t ∷ ts)) (s ∷ ss) first.0 first.1
    (passes_some (meets first.0) (t ∷ ts) second.0 second.1 (both_serve first.0 second.0 p (served_by first.0 p first.2) (served_by second.0 p second.2)))

-- 4. The packets of one flow.

abbrev pub belongs : List RestrictedFlow → List Flow → Packet → Option Flow → Bool
belongs services flows p o = option_map_or (λ g. has flows g && is_served (services_of services g.from g.to) p) o false

pub is_of_one : (site : Site) (f : Flow) (p : Packet) → owner_of site.hosts p.src ≡ Some f.from → owner_of site.hosts p.dst ≡ Some f.to → f.from ≢ f.to
    → is_served (services_of site.services f.from f.to) p ≡ true → is_of site (f ∷ []) p ≡ true
is_of_one site f p from to differ is =
    let apart : (f.from == f.to) ≡ false = false_from_ne_true (f.from == f.to) (λ same. differ (eqb-true f.from f.to same)) in
    ap (λ (o : Option ℕ). belongs site.services (f ∷ []) p (flow_of_owners o (owner_of site.hosts p.dst))) from
    ∙ ap (λ (o : Option ℕ). belongs site.services (f ∷ []) p (flow_of_owners (Some f.from) o)) to
    ∙ ap (λ (b : Bool). belongs site.services (f ∷ []) p (if b then None else Some f)) apart
    ∙ and_from (has (f ∷ []) f) (is_served (services_of site.services f.from f.to) p) (has_first f []) is

-- The addresses of a packet of a flow belong to its hosts, and its services match the packet.
pub record IsOfOne (site : Site) (f : Flow) (p : Packet) : Type 0 where
  pub source : owner_of site.hosts p.src ≡ Some f.from
  pub destination : owner_of site.hosts p.dst ≡ Some f.to
  pub served : is_served (services_of site.services f.from f.to) p ≡ true

record IsBetweenOwners (services : List RestrictedFlow) (f : Flow) (p : Packet) (from to : Option ℕ) : Type 0 where
  source : from ≡ Some f.from
  destination : to ≡ Some f.to
  served : is_served (services_of services f.from f.to) p ≡ true

between_owners : (services : List RestrictedFlow) (f : Flow) (p : Packet) (from to : Option ℕ)
    → belongs services (f ∷ []) p (flow_of_owners from to) ≡ true → IsBetweenOwners services f p from to
between_owners services f p None to is = cc is
between_owners services f p (Some i) None is = cc is
between_owners services f p (Some i) (Some j) is = by_test (i == j) is
  where
    g : Flow
    g = record { from = i; to = j }

    by_test : (b : Bool) → belongs services (f ∷ []) p (if b then None else Some g) ≡ true → IsBetweenOwners services f p (Some i) (Some j)
    by_test true found = cc found
    by_test false found =
        let parts = and_parts (has (f ∷ []) g) (is_served (services_of services i j) p) found in
        let same : g ≡ f = elim (or_cases (same_flow f g) false parts.0) [
          | inl alike ↦ sym (same_flow-true f g alike)
          | inr never ↦ cc never
        ] in
        record {
          source = ap (λ (h : Flow). Some h.from) same;
          destination = ap (λ (h : Flow). Some h.to) same;
          served = subst (λ (h : Flow). is_served (services_of services h.from h.to) p ≡ true) same parts.1;
        }

pub of_one : (site : Site) (f : Flow) (p : Packet) → is_of site (f ∷ []) p ≡ true → IsOfOne site f p
of_one site f p is =
    let between = between_owners site.services f p (owner_of site.hosts p.src) (owner_of site.hosts p.dst) is in
    record { source = between.source; destination = between.destination; served = between.served }
