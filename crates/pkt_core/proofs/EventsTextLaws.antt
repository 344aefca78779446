-- Lemmas on event files: a line is parsed as an event if and only if it encodes it.
use Rattle.std.proofs.Common.{◌≡◌, ℕ, ◌==◌, ◌<◌, ◌^◌, List, [], ◌∷◌, Option, Some, None, ◌⊎◌, inl, inr, refl, sym, ap, ◌∙◌, arith, subst}
use Rattle.std.specs.Prelude.{codes, decimal, Ok, bytes_eq}
use Rattle.std.specs.Option.{option_map, option_or}
use Rattle.std.specs.Str.{all_ascii_digits}
use Rattle.std.proofs.lemmas.Bool.{eqb-true}
use Rattle.std.proofs.lemmas.Bool.Decides.{nat_tests}
use Rattle.text_core.specs.inner.Decimal.{number}
use Rattle.text_core.proofs.DecimalLaws.{number-decimal, decimal_of_number, decimal_digits}
use Rattle.text_core.proofs.StepsLaws.{bind_some, if_parts, ok_or_parts, map_parts, bytes_same, bytes_apart}
use Rattle.text_core.specs.declared.faults.ListWhy.TheVariants.{BadValue}
use Rattle.host_net.specs.declared.packet.Packet.{Packet}
use Rattle.host_net.specs.Prefix.{address_text}
use Rattle.host_net.specs.inner.PrefixSteps.{address_of}
use Rattle.host_net.specs.ServiceText.{protocol_text}
use Rattle.host_net.specs.inner.ServiceSteps.{protocol_of as named_protocol}
use Rattle.host_net.proofs.PrefixTextLaws.{address_of-address_text, address_text-address_of}
use Rattle.host_net.proofs.ServiceStepsLemmas.{protocol_told as named_told}
use Rattle.pkt_core.specs.declared.event.Event.{Event}
use Rattle.pkt_core.specs.declared.event.Event.TheVariants.{Seen, Forget}
use Rattle.pkt_core.specs.EventsText.{EncodesPacket, EncodesEvent}
use Rattle.pkt_core.specs.inner.EventSteps.{protocol_of, packet_of, event_by, event_of}

-- The token of a protocol.
protocol_by : (word : List ℕ) (n : ℕ) (named : Option ℕ) → named_protocol word ≡ named → option_or named (number 255 word) ≡ Some n
    → ((word ≡ protocol_text n) ⊎ (word ≡ decimal n)) × (n < 2 ^ 8)
protocol_by word n None none read = let said = decimal_of_number 255 word n (omega arith) read in (inr said.0, omega (arith, said.1))
protocol_by word n (Some m) named read =
    let same : m ≡ n = cc in
    let told = named_told word n (named ∙ ap (λ k. Some k) same) in
    (inl told.0, grind (arith, nat_tests, told.1))

protocol_told : (word : List ℕ) (n : ℕ) → protocol_of word ≡ Some n → ((word ≡ protocol_text n) ⊎ (word ≡ decimal n)) × (n < 2 ^ 8)
protocol_told word n read = protocol_by word n (named_protocol word) refl read

packet_told : (verb src dst protocol sport dport : List ℕ) (p : Packet) → packet_of src dst protocol sport dport ≡ Some p
    → EncodesPacket verb (verb ∷ src ∷ dst ∷ protocol ∷ sport ∷ dport ∷ []) p
unfolding packet_of
packet_told verb src dst protocol sport dport p read =
    let a = bind_some (address_of src) _ p read in
    let b = bind_some (address_of dst) _ p a.2 in
    let n = bind_some (protocol_of protocol) _ p b.2 in
    let x = bind_some (number 65535 sport) _ p n.2 in
    let y = bind_some (number 65535 dport) _ p x.2 in
    let from = address_text-address_of src a.0 a.1 in
    let to = address_text-address_of dst b.0 b.1 in
    let named = protocol_told protocol n.0 n.1 in
    let source = decimal_of_number 65535 sport x.0 (omega arith) x.1 in
    let target = decimal_of_number 65535 dport y.0 (omega arith) y.1 in
    let whole : ◌≡◌ {A = Packet} (record { src = a.0; dst = b.0; proto = n.0; sport = x.0; dport = y.0 }) p = cc in
    subst (λ (q : Packet). EncodesPacket verb (verb ∷ src ∷ dst ∷ protocol ∷ sport ∷ dport ∷ []) q) whole
    (record {
      protocol = protocol;
      named = named.0;
      written = cc;
      is_packet = (from.1, to.1, named.1, omega (arith, source.1), omega (arith, target.1));
    })

told_by : (verb src dst protocol sport dport : List ℕ) (e : Event) → event_by verb (packet_of src dst protocol sport dport) ≡ Ok e
    → EncodesEvent (verb ∷ src ∷ dst ∷ protocol ∷ sport ∷ dport ∷ []) e
unfolding event_by
told_by verb src dst protocol sport dport e read = elim (if_parts (bytes_eq verb (codes "packet")) _ _ (Ok e) read) [
  | inl seen ↦
      let p = map_parts Seen (packet_of src dst protocol sport dport) e (ok_or_parts (option_map Seen (packet_of src dst protocol sport dport)) BadValue e seen.1) in
      subst (EncodesEvent (verb ∷ src ∷ dst ∷ protocol ∷ sport ∷ dport ∷ [])) p.2
      (subst (λ (v : List ℕ). EncodesPacket v (verb ∷ src ∷ dst ∷ protocol ∷ sport ∷ dport ∷ []) p.0) (bytes_same verb (codes "packet") seen.0)
      (packet_told verb src dst protocol sport dport p.0 p.1))
  | inr rest ↦ elim (if_parts (bytes_eq verb (codes "forget")) _ _ (Ok e) rest.1) [
    | inl forgotten ↦
        let p = map_parts Forget (packet_of src dst protocol sport dport) e (ok_or_parts (option_map Forget (packet_of src dst protocol sport dport)) BadValue e forgotten.1) in
        subst (EncodesEvent (verb ∷ src ∷ dst ∷ protocol ∷ sport ∷ dport ∷ [])) p.2
        (subst (λ (v : List ℕ). EncodesPacket v (verb ∷ src ∷ dst ∷ protocol ∷ sport ∷ dport ∷ []) p.0) (bytes_same verb (codes "forget") forgotten.0)
        (packet_told verb src dst protocol sport dport p.0 p.1))
    | inr bad ↦ cc
  ]
]

pub event_told : (ws : List (List ℕ)) (e : Event) → event_of ws ≡ Ok e → EncodesEvent ws e
unfolding event_of
event_told [] e read = cc
event_told (a ∷ []) e read = cc
event_told (a ∷ b ∷ []) e read = cc
event_told (a ∷ b ∷ c ∷ []) e read = cc
event_told (a ∷ b ∷ c ∷ d ∷ []) e read = cc
event_told (a ∷ b ∷ c ∷ d ∷ x ∷ []) e read = cc
event_told (a ∷ b ∷ c ∷ d ∷ x ∷ y ∷ []) e read = told_by a b c d x y e read
event_told (a ∷ b ∷ c ∷ d ∷ x ∷ y ∷ z ∷ ws) e read = cc

number_read : (word : List ℕ) (n : ℕ) → word ≡ decimal n → n < 2 ^ 8 → protocol_of word ≡ Some n
number_read word n number_text fits =
    let digits = ap all_ascii_digits number_text ∙ decimal_digits n (omega arith) in
    rw (bytes_apart word (codes "icmp") all_ascii_digits digits refl, bytes_apart word (codes "tcp") all_ascii_digits digits refl, bytes_apart word (codes "udp") all_ascii_digits digits refl, number_text)
    (number-decimal 255 n (omega arith) (omega arith))

name_read : (word : List ℕ) (n : ℕ) → protocol_text n ≡ word → n < 2 ^ 8 → protocol_of word ≡ Some n
name_read word n name fits = elim (if_parts (n == 1) (codes "icmp") _ word name) [
  | inl icmp ↦ ap protocol_of (sym icmp.1) ∙ ap (λ k. Some k) (sym (eqb-true n 1 icmp.0))
  | inr rest ↦ elim (if_parts (n == 6) (codes "tcp") _ word rest.1) [
    | inl tcp ↦ ap protocol_of (sym tcp.1) ∙ ap (λ k. Some k) (sym (eqb-true n 6 tcp.0))
    | inr more ↦ elim (if_parts (n == 17) (codes "udp") _ word more.1) [
      | inl udp ↦ ap protocol_of (sym udp.1) ∙ ap (λ k. Some k) (sym (eqb-true n 17 udp.0))
      | inr last ↦ number_read word n (sym last.1) fits
    ]
  ]
]

protocol_read : (word : List ℕ) (n : ℕ) → (word ≡ protocol_text n) ⊎ (word ≡ decimal n) → n < 2 ^ 8 → protocol_of word ≡ Some n
protocol_read word n (inl name) fits = name_read word n (sym name) fits
protocol_read word n (inr number_text) fits = number_read word n number_text fits

packet_read : (verb : List ℕ) (ws : List (List ℕ)) (p : Packet) → EncodesPacket verb ws p
    → (src : List ℕ) × (dst : List ℕ) × (protocol : List ℕ) × (sport : List ℕ) ×
    (dport : List ℕ) × (ws ≡ verb ∷ src ∷ dst ∷ protocol ∷ sport ∷ dport ∷ []) × (packet_of src dst protocol sport dport ≡ Some p)
unfolding packet_of
packet_read verb ws p told = (
  address_text p.src,
  address_text p.dst,
  told.protocol,
  decimal p.sport,
  decimal p.dport,
  told.written,
  rw (address_of-address_text p.src told.is_packet.0, address_of-address_text p.dst told.is_packet.1, protocol_read told.protocol p.proto told.named told.is_packet.2, number-decimal 65535 p.sport (omega (arith, told.is_packet.3)) (omega (arith, told.is_packet.3)), number-decimal 65535 p.dport (omega (arith, told.is_packet.4)) (omega (arith, told.is_packet.4))) refl,
)

pub told_event : (ws : List (List ℕ)) (e : Event) → EncodesEvent ws e → event_of ws ≡ Ok e
unfolding event_of event_by
told_event ws (Seen p) told =
    let parts = packet_read (codes "packet") ws p told in
    ap event_of parts.5 ∙ rw parts.6 refl
told_event ws (Forget p) told =
    let parts = packet_read (codes "forget") ws p told in
    ap event_of parts.5 ∙ rw parts.6 refl
