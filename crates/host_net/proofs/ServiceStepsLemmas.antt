-- The step-by-step parser accepts exactly the notations of a service.
use Rattle.std.proofs.Common.{◌≡◌, ℕ, ◌≤◌, ◌<◌, true, nat_lt, nat_le, List, ◌∷◌, ◌++◌, Option, Some, None, ◌⊎◌, inl, inr, refl, sym, ap, ◌∙◌, arith, subst}
use Rattle.std.specs.Prelude.{IsTrue, codes, decimal, bytes_eq}
use Rattle.std.proofs.lemmas.Bool.Decides.{nat_tests}
use Rattle.text_core.specs.inner.Decimal.{number}
use Rattle.text_core.proofs.DecimalLaws.{number-decimal, decimal_of_number, decimal_lacks}
use Rattle.text_core.proofs.FirstsLaws.{some_same}
use Rattle.text_core.specs.inner.Pieces.{split_once}
use Rattle.text_core.proofs.PiecesLaws.{split_once-append, split_once_none, split_once_joined}
use Rattle.text_core.specs.Steps.{◌>>=◌}
use Rattle.text_core.proofs.StepsLaws.{bind_some, if_parts, bytes_same}
use Rattle.host_net.specs.declared.service.Service.{Service}
use Rattle.host_net.specs.Service.{icmp, tcp, udp, max_port, has_ports, has_all_ports}
use Rattle.host_net.specs.inner.Service.{is_service}
use Rattle.host_net.specs.ServiceText.{protocol_text}
use Rattle.host_net.specs.inner.ServiceSteps.{protocol_of, ports_of, ports_of_parts, with_ports, service_by_parts, service_of_parts}
use Rattle.host_net.specs.inner.ServiceText.{IsServiceSpelling}

pub service_same : (s t : Service) → s.proto ≡ t.proto → s.low ≡ t.low → s.high ≡ t.high → s ≡ t
service_same s t proto low high = λ i. record { proto = proto i; low = low i; high = high i }

-- The bounds of a valid service.
pub service_bounds : (s : Service) → IsTrue (is_service s) → (s.low ≤ s.high) × (s.high ≤ max_port)
service_bounds s valid = grind (arith, nat_tests)

pub service_protocol : (s : Service) → IsTrue (is_service s) → (s.proto ≡ icmp) ⊎ ((s.proto ≡ tcp) ⊎ (s.proto ≡ udp))
service_protocol s valid = grind (arith, nat_tests)

pub with_ports_of : (proto : ℕ) → IsTrue (has_ports proto) → (proto ≡ tcp) ⊎ (proto ≡ udp)
with_ports_of proto counts = grind (arith, nat_tests)

pub all_ports : (s : Service) → IsTrue (has_all_ports s) → (s.low ≡ 0) × (s.high ≡ max_port)
all_ports s all = grind (arith, nat_tests)

-- Every notation is parsed: a protocol.
protocol_read : (proto : ℕ) → (proto ≡ icmp) ⊎ ((proto ≡ tcp) ⊎ (proto ≡ udp))
    → service_by_parts (protocol_text proto) ≡ Some (record { proto = proto; low = 0; high = max_port })
unfolding service_by_parts
protocol_read proto (inl one) = subst (λ (n : ℕ). service_by_parts (protocol_text n) ≡ Some (record { proto = n; low = 0; high = max_port })) (sym one) refl
protocol_read proto (inr (inl six)) = subst (λ (n : ℕ). service_by_parts (protocol_text n) ≡ Some (record { proto = n; low = 0; high = max_port })) (sym six) refl
protocol_read proto (inr (inr other)) = subst (λ (n : ℕ). service_by_parts (protocol_text n) ≡ Some (record { proto = n; low = 0; high = max_port })) (sym other) refl

-- The ports follow the protocol and a slash.
abbrev IsCut : List ℕ → ℕ → Type 0
IsCut rest proto = service_by_parts (protocol_text proto ++ (47 ∷ rest)) ≡ (ports_of rest >>= with_ports proto)

cut_there : (proto : ℕ) (rest : List ℕ) → IsTrue (has_ports proto) → IsCut rest proto
unfolding service_by_parts
cut_there proto rest counts = elim (with_ports_of proto counts) [
  | inl six ↦ subst (IsCut rest) (sym six) refl
  | inr other ↦ subst (IsCut rest) (sym other) refl
]

port_read : (port : ℕ) → port ≤ max_port → ports_of (decimal port) ≡ Some (port, port)
unfolding ports_of
port_read port fits =
    rw (split_once_none 45 (decimal port) (decimal_lacks 45 port refl (omega arith)), number-decimal max_port port fits (omega arith)) refl

ports_read : (low high : ℕ) → low < high → high ≤ max_port → ports_of (decimal low ++ (45 ∷ decimal high)) ≡ Some (low, high)
unfolding ports_of
ports_read low high less fits =
    let in_order : nat_lt low high ≡ true = grind (arith, nat_tests) in
    rw (
      split_once-append 45 (decimal low) (decimal high) (decimal_lacks 45 low refl (omega arith)),
      number-decimal max_port low (omega arith) (omega arith),
      number-decimal max_port high fits (omega arith),
      in_order,
    )
    refl

read_behind : (s : Service) (rest : List ℕ) → IsTrue (has_ports s.proto) → ports_of rest ≡ Some (s.low, s.high)
    → service_by_parts (protocol_text s.proto ++ (47 ∷ rest)) ≡ Some s
read_behind s rest counts ports = cut_there s.proto rest counts ∙ rw (ports, counts) refl

pub by_parts_read : (text : List ℕ) (s : Service) → IsServiceSpelling text s → service_by_parts text ≡ Some s
by_parts_read text s spelling = elim spelling.written [
  | inl protocol ↦
      let all = all_ports s protocol.0 in
      ap service_by_parts protocol.1
      ∙ protocol_read s.proto (service_protocol s spelling.service)
      ∙ ap (λ t. Some t) (service_same (record { proto = s.proto; low = 0; high = max_port }) s refl (sym all.0) (sym all.1))
  | inr (inl port) ↦
      let fits : s.low ≤ max_port = omega (arith, service_bounds s spelling.service) in
      ap service_by_parts port.2
      ∙ read_behind s (decimal s.low) port.0 (port_read s.low fits ∙ ap (λ high. Some (s.low, high)) port.1)
  | inr (inr ports) ↦
      ap service_by_parts ports.2
      ∙ read_behind s (decimal s.low ++ (45 ∷ decimal s.high)) ports.0 (ports_read s.low s.high ports.1 (service_bounds s spelling.service).1)
]

-- Only notations are parsed: the name of a protocol.
abbrev pub IsNameOf : List ℕ → ℕ → Type 0
IsNameOf name proto = (name ≡ protocol_text proto) × ((proto ≡ icmp) ⊎ IsTrue (has_ports proto))

pub protocol_told : (name : List ℕ) (proto : ℕ) → protocol_of name ≡ Some proto → IsNameOf name proto
protocol_told name proto read = elim (if_parts (bytes_eq name (codes "icmp")) (Some icmp) _ (Some proto) read) [
  | inl one ↦ subst (IsNameOf name) (some_same icmp proto one.1) (bytes_same name (codes "icmp") one.0, inl refl)
  | inr rest ↦ elim (if_parts (bytes_eq name (codes "tcp")) (Some tcp) _ (Some proto) rest.1) [
    | inl six ↦ subst (IsNameOf name) (some_same tcp proto six.1) (bytes_same name (codes "tcp") six.0, inr refl)
    | inr more ↦ elim (if_parts (bytes_eq name (codes "udp")) (Some udp) _ (Some proto) more.1) [
      | inl other ↦ subst (IsNameOf name) (some_same udp proto other.1) (bytes_same name (codes "udp") other.0, inr refl)
      | inr none ↦ cc
    ]
  ]
]

-- And its ports.
abbrev TellsPorts : List ℕ → ℕ × ℕ → Type 0
TellsPorts text ports =
    (ports.1 ≤ max_port) × (((ports.0 ≡ ports.1) × (text ≡ decimal ports.0)) ⊎ ((ports.0 < ports.1) × (text ≡ decimal ports.0 ++ (45 ∷ decimal ports.1))))

ports_told_by : (text : List ℕ) (o : Option (List ℕ × List ℕ)) (ports : ℕ × ℕ) → split_once 45 text ≡ o → ports_of_parts text o ≡ Some ports → TellsPorts text ports
ports_told_by text None ports cut read =
    let port = bind_some (number max_port text) _ ports read in
    let said = decimal_of_number max_port text port.0 (omega arith) port.1 in
    subst (TellsPorts text) (some_same (port.0, port.0) ports port.2) (said.1, inl (refl, said.0))
ports_told_by text (Some parts) ports cut read =
    let low = bind_some (number max_port parts.0) _ ports read in
    let high = bind_some (number max_port parts.1) _ ports low.2 in
    let first = decimal_of_number max_port parts.0 low.0 (omega arith) low.1 in
    let last = decimal_of_number max_port parts.1 high.0 (omega arith) high.1 in
    let whole : text ≡ decimal low.0 ++ (45 ∷ decimal high.0) =
    split_once_joined 45 text parts.0 parts.1 cut ∙ ap (λ front. front ++ (45 ∷ parts.1)) first.0 ∙ ap (λ rest. decimal low.0 ++ (45 ∷ rest)) last.0 in
    elim (if_parts (nat_lt low.0 high.0) (Some (low.0, high.0)) None (Some ports) high.2) [
      | inl less ↦
          let below : low.0 < high.0 = let is : nat_lt low.0 high.0 ≡ true = less.0 in grind (arith, nat_tests) in
          subst (TellsPorts text) (some_same (low.0, high.0) ports less.1) (last.1, inr (below, whole))
      | inr other ↦ cc
    ]

ports_told : (text : List ℕ) (ports : ℕ × ℕ) → ports_of text ≡ Some ports → TellsPorts text ports
unfolding ports_of
ports_told text ports read = ports_told_by text (split_once 45 text) ports refl read

all_are_services : (proto : ℕ) → (proto ≡ icmp) ⊎ IsTrue (has_ports proto) → IsTrue (is_service (record { proto = proto; low = 0; high = max_port }))
all_are_services proto (inl one) = subst (λ (n : ℕ). IsTrue (is_service (record { proto = n; low = 0; high = max_port }))) (sym one) refl
all_are_services proto (inr counts) = rw counts refl

some_are_services : (proto low high : ℕ) → IsTrue (has_ports proto) → low ≤ high → high ≤ max_port → IsTrue (is_service (record { proto = proto; low = low; high = high }))
some_are_services proto low high counts order fits =
    let first : nat_le low high ≡ true = grind (arith, nat_tests) in
    let last : nat_le high max_port ≡ true = grind (arith, nat_tests) in
    rw (first, last, counts) refl

-- A protocol with ports.
behind_spelled : (text name rest : List ℕ) (proto : ℕ) (ports : ℕ × ℕ) → text ≡ name ++ (47 ∷ rest) → name ≡ protocol_text proto → IsTrue (has_ports proto) → TellsPorts rest ports
    → IsServiceSpelling text (record { proto = proto; low = ports.0; high = ports.1 })
behind_spelled text name rest proto ports whole named counts told = elim told.1 [
  | inl one ↦ record {
    service = some_are_services proto ports.0 ports.1 counts (omega (arith, one.0)) told.0;
    written = inr (inl (counts, one.0, whole ∙ ap (λ front. front ++ (47 ∷ rest)) named ∙ ap (λ behind. protocol_text proto ++ (47 ∷ behind)) one.1));
  }
  | inr two ↦ record {
    service = some_are_services proto ports.0 ports.1 counts (omega (arith, two.0)) told.0;
    written = inr (inr (counts, two.0, whole ∙ ap (λ front. front ++ (47 ∷ rest)) named ∙ ap (λ behind. protocol_text proto ++ (47 ∷ behind)) two.1));
  }
]

spelled_parts : (text : List ℕ) (o : Option (List ℕ × List ℕ)) (s : Service) → split_once 47 text ≡ o → service_of_parts text o ≡ Some s → IsServiceSpelling text s
spelled_parts text None s cut read =
    let proto = bind_some (protocol_of text) _ s read in
    let told = protocol_told text proto.0 proto.1 in
    subst (IsServiceSpelling text) (some_same (record { proto = proto.0; low = 0; high = max_port }) s proto.2)
    (record { service = all_are_services proto.0 told.1; written = inl (refl, told.0) })
spelled_parts text (Some parts) s cut read =
    let proto = bind_some (protocol_of parts.0) _ s read in
    let ports = bind_some (ports_of parts.1) _ s proto.2 in
    elim (if_parts (has_ports proto.0) (Some (record { proto = proto.0; low = ports.0.0; high = ports.0.1 })) None (Some s) ports.2) [
      | inl counts ↦
          subst (IsServiceSpelling text) (some_same (record { proto = proto.0; low = ports.0.0; high = ports.0.1 }) s counts.1)
          (behind_spelled text parts.0 parts.1 proto.0 ports.0 (split_once_joined 47 text parts.0 parts.1 cut)
          (protocol_told parts.0 proto.0 proto.1).0 counts.0 (ports_told parts.1 ports.0 ports.1))
      | inr other ↦ cc
    ]

pub by_parts_spelled : (text : List ℕ) (s : Service) → service_by_parts text ≡ Some s → IsServiceSpelling text s
unfolding service_by_parts
by_parts_spelled text s read = spelled_parts text (split_once 47 text) s refl read
