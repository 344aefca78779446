-- Values of protocols and ports are parsed if and only if they are in the defined notation.
use Rattle.std.proofs.Common.{◌≡◌, ◌⊎◌, inl, inr, ℕ, ◌<◌, ◌≤◌, ◌^◌, ◌∙◌, sym, ap, refl, subst, true, false, List, [], ◌∷◌, ◌++◌, Option, Some, None, arith}
use Rattle.std.specs.Prelude.{◌==◌, ◌&&◌, nat_le, codes, decimal, bytes_eq}
use Rattle.std.specs.Option.{option_or}
use Rattle.std.specs.Str.{all_ascii_digits}
use Rattle.std.proofs.lemmas.Bool.Decides.{nat_tests}
use Rattle.std.specs.Fmt.{digits}
use Rattle.text_core.specs.inner.Decimal.{number}
use Rattle.text_core.proofs.DecimalLaws.{number-decimal, decimal_of_number, decimal_lacks, decimal_digits}
use Rattle.text_core.proofs.FirstsLaws.{some_same}
use Rattle.text_core.specs.inner.Pieces.{split_once}
use Rattle.text_core.proofs.PiecesLaws.{split_once-append, split_once_none, split_once_joined}
use Rattle.text_core.proofs.StepsLaws.{bind_some, if_parts, bytes_same, bytes_apart}
use Rattle.host_net.specs.Service.{icmp, tcp, udp, max_port}
use Rattle.host_net.specs.ServiceText.{protocol_text}
use Rattle.host_net.specs.inner.ServiceSteps.{protocol_of}
use Rattle.ipt_read.specs.inner.Counts.{is_nothing}
use Rattle.ipt_read.specs.ServiceValues.{other_protocol, IsProtocolWord, ArePortsWord}
use Rattle.ipt_read.specs.inner.ServiceSteps.{named_protocol, if_positive, asked_protocol, port_or, ports_between, ports_of_parts, asked_ports}

-- 1. Protocols.

abbrev HasRoom : ℕ → Type 0
HasRoom proto = (0 < proto) × (proto < 2 ^ 8)

other_fits : (word : List ℕ) (proto : ℕ) → other_protocol word ≡ Some proto → HasRoom proto
other_fits word proto h = elim (if_parts (bytes_eq word (codes "esp")) (Some 50) _ (Some proto) h) [
  | inl a ↦ subst HasRoom (some_same 50 proto a.1) (omega arith, omega arith)
  | inr b ↦ elim (if_parts (bytes_eq word (codes "ah")) (Some 51) _ (Some proto) b.1) [
    | inl a ↦ subst HasRoom (some_same 51 proto a.1) (omega arith, omega arith)
    | inr d ↦ elim (if_parts (bytes_eq word (codes "sctp")) (Some 132) None (Some proto) d.1) [
      | inl a ↦ subst HasRoom (some_same 132 proto a.1) (omega arith, omega arith)
      | inr none ↦ cc
    ]
  ]
]

three_named : (word : List ℕ) (proto : ℕ) → protocol_of word ≡ Some proto → IsProtocolWord word proto
three_named word proto h = elim (if_parts (bytes_eq word (codes "icmp")) (Some icmp) _ (Some proto) h) [
  | inl a ↦ subst (IsProtocolWord word) (some_same icmp proto a.1)
      (record { positive = omega arith; fits = omega arith; written = inl (bytes_same word (codes "icmp") a.0) })
  | inr b ↦ elim (if_parts (bytes_eq word (codes "tcp")) (Some tcp) _ (Some proto) b.1) [
    | inl a ↦ subst (IsProtocolWord word) (some_same tcp proto a.1)
        (record { positive = omega arith; fits = omega arith; written = inl (bytes_same word (codes "tcp") a.0) })
    | inr d ↦ elim (if_parts (bytes_eq word (codes "udp")) (Some udp) None (Some proto) d.1) [
      | inl a ↦ subst (IsProtocolWord word) (some_same udp proto a.1)
          (record { positive = omega arith; fits = omega arith; written = inl (bytes_same word (codes "udp") a.0) })
      | inr none ↦ cc
    ]
  ]
]

not_zero : (n : ℕ) → (n == 0) ≡ false → 0 < n
not_zero n h = grind (arith, nat_tests)

protocol_numbered : (word : List ℕ) (proto : ℕ) (o : Option ℕ) → number 255 word ≡ o → if_positive o ≡ Some proto → IsProtocolWord word proto
protocol_numbered word proto None said h = cc
protocol_numbered word proto (Some n) said h = elim (if_parts (n == 0) None (Some n) (Some proto) h) [
  | inl zero ↦ cc
  | inr some ↦
      let told = decimal_of_number 255 word n (omega arith) said in
      subst (IsProtocolWord word) (some_same n proto some.1)
      (record { positive = not_zero n some.0; fits = omega (arith, told.1); written = inr (inl told.0) })
]

protocol_by : (word : List ℕ) (proto : ℕ) (o p : Option ℕ) → other_protocol word ≡ o → protocol_of word ≡ p
    → option_or (option_or o p) (if_positive (number 255 word)) ≡ Some proto → IsProtocolWord word proto
protocol_by word proto (Some n) p other three h =
    let room = other_fits word proto (other ∙ h) in record { positive = room.0; fits = room.1; written = inr (inr (other ∙ h)) }
protocol_by word proto None (Some n) other three h = three_named word proto (three ∙ h)
protocol_by word proto None None other three h = protocol_numbered word proto (number 255 word) refl h

-- A token that is parsed to a protocol is a notation of it.
pub protocol_said : (word : List ℕ) (proto : ℕ) → asked_protocol word ≡ Some proto → IsProtocolWord word proto
unfolding asked_protocol
protocol_said word proto h = protocol_by word proto (other_protocol word) (protocol_of word) refl refl h

not_named : (word : List ℕ) → all_ascii_digits word ≡ true → named_protocol word ≡ None
not_named word digits =
    rw (
      bytes_apart word (codes "esp") all_ascii_digits digits refl,
      bytes_apart word (codes "ah") all_ascii_digits digits refl,
      bytes_apart word (codes "sctp") all_ascii_digits digits refl,
      bytes_apart word (codes "icmp") all_ascii_digits digits refl,
      bytes_apart word (codes "tcp") all_ascii_digits digits refl,
      bytes_apart word (codes "udp") all_ascii_digits digits refl,
    )
    refl

is_zero : (n : ℕ) → 0 < n → (n == 0) ≡ false
is_zero n h = grind (arith, nat_tests)

number_read : (proto : ℕ) → 0 < proto → proto < 2 ^ 8 → asked_protocol (decimal proto) ≡ Some proto
unfolding asked_protocol
number_read proto positive fits =
    rw (not_named (decimal proto) (decimal_digits proto (omega arith)), number-decimal 255 proto (omega arith) (omega arith), is_zero proto positive)
    refl

name_read : (word : List ℕ) (proto : ℕ) → other_protocol word ≡ Some proto → asked_protocol word ≡ Some proto
unfolding asked_protocol
name_read word proto h = ap (λ o. option_or (option_or o (protocol_of word)) (if_positive (number 255 word))) h

-- A protocol has a name, or is written as its number.
abbrev IsAnyText : ℕ → Type 0
IsAnyText proto = ((proto ≡ icmp) ⊎ ((proto ≡ tcp) ⊎ (proto ≡ udp))) ⊎ (protocol_text proto ≡ decimal proto)

mark_is : (n m : ℕ) → (n == m) ≡ true → n ≡ m
mark_is n m h = grind (arith, nat_tests)

any_text : (proto : ℕ) → IsAnyText proto
any_text proto = elim (if_parts (proto == icmp) (codes "icmp") _ (protocol_text proto) refl) [
  | inl a ↦ inl (inl (mark_is proto icmp a.0))
  | inr b ↦ elim (if_parts (proto == tcp) (codes "tcp") _ (protocol_text proto) b.1) [
    | inl a ↦ inl (inr (inl (mark_is proto tcp a.0)))
    | inr d ↦ elim (if_parts (proto == udp) (codes "udp") (decimal proto) (protocol_text proto) d.1) [
      | inl a ↦ inl (inr (inr (mark_is proto udp a.0)))
      | inr e ↦ inr (sym e.1)
    ]
  ]
]

abbrev IsRead : ℕ → Type 0
IsRead proto = asked_protocol (protocol_text proto) ≡ Some proto

text_read : (proto : ℕ) → 0 < proto → proto < 2 ^ 8 → IsAnyText proto → IsRead proto
unfolding asked_protocol
text_read proto positive fits (inl (inl one)) = subst IsRead (sym one) refl
text_read proto positive fits (inl (inr (inl six))) = subst IsRead (sym six) refl
text_read proto positive fits (inl (inr (inr other))) = subst IsRead (sym other) refl
text_read proto positive fits (inr digits) = ap asked_protocol digits ∙ number_read proto positive fits

pub protocol_read : (word : List ℕ) (proto : ℕ) → IsProtocolWord word proto → asked_protocol word ≡ Some proto
protocol_read word proto is = elim is.written [
  | inl text ↦ ap asked_protocol text ∙ text_read proto is.positive is.fits (any_text proto)
  | inr (inl digits) ↦ ap asked_protocol digits ∙ number_read proto is.positive is.fits
  | inr (inr other) ↦ name_read word proto other
]

-- 2. Ports.

abbrev TellsPort : ℕ → List ℕ → ℕ → Type 0
TellsPort other word port = ((word ≡ []) × (port ≡ other)) ⊎ ((word ≡ decimal port) × (port ≤ max_port))

port_told : (other : ℕ) (word : List ℕ) (port : ℕ) → port_or other word ≡ Some port → TellsPort other word port
port_told other [] port h = inl (refl, sym (some_same other port h))
port_told other (b ∷ bs) port h = inr (decimal_of_number max_port (b ∷ bs) port (omega arith) h)

nothing_before : (first last : List ℕ) → (is_nothing first && is_nothing last) ≡ false → first ≡ [] → last ≡ [] → ⊥
nothing_before first last some none other = let e : (is_nothing first && is_nothing last) ≡ true = rw (none, other) refl in cc

between_said : (word first last : List ℕ) (low high : ℕ) → word ≡ first ++ (58 ∷ last) → (is_nothing first && is_nothing last) ≡ false
    → TellsPort 0 first low → TellsPort max_port last high → low ≤ high → ArePortsWord word low high
between_said word first last low high cut some (inl a) (inl b) order = absurd (nothing_before first last some a.0 b.0)
between_said word first last low high cut some (inl a) (inr b) order = record {
  order = order;
  fits = b.1;
  written = inr (inr (inr (cut ∙ ap (λ v. v ++ (58 ∷ last)) a.0 ∙ ap (λ (v : List ℕ). 58 ∷ v) b.0, a.1)));
}
between_said word first last low high cut some (inr a) (inl b) order = record {
  order = order;
  fits = omega (arith, b.1);
  written = inr (inr (inl (cut ∙ ap (λ v. v ++ (58 ∷ last)) a.0 ∙ ap (λ v. decimal low ++ (58 ∷ v)) b.0, b.1)));
}
between_said word first last low high cut some (inr a) (inr b) order = record {
  order = order;
  fits = b.1;
  written = inr (inl (cut ∙ ap (λ v. v ++ (58 ∷ last)) a.0 ∙ ap (λ v. decimal low ++ (58 ∷ v)) b.0));
}

abbrev AreAsked : List ℕ → ℕ × ℕ → Type 0
AreAsked word ports = ArePortsWord word ports.0 ports.1

in_order : (low high : ℕ) → nat_le low high ≡ true → low ≤ high
in_order low high h = grind (arith, nat_tests)

ports_by : (word : List ℕ) (o : Option (List ℕ × List ℕ)) (ports : ℕ × ℕ) → split_once 58 word ≡ o → ports_of_parts word o ≡ Some ports
    → AreAsked word ports
ports_by word None ports cut h =
    let port = bind_some (number max_port word) _ ports h in
    let told = decimal_of_number max_port word port.0 (omega arith) port.1 in
    subst (AreAsked word) (some_same (port.0, port.0) ports port.2) (record { order = omega arith; fits = told.1; written = inl (told.0, refl) })
ports_by word (Some parts) ports cut h = elim (if_parts (is_nothing parts.0 && is_nothing parts.1) None (ports_between parts.0 parts.1) (Some ports) h) [
  | inl none ↦ cc
  | inr some ↦
      let low = bind_some (port_or 0 parts.0) _ ports some.1 in
      let high = bind_some (port_or max_port parts.1) _ ports low.2 in
      elim (if_parts (nat_le low.0 high.0) (Some (low.0, high.0)) None (Some ports) high.2) [
        | inl order ↦
            subst (AreAsked word) (some_same (low.0, high.0) ports order.1)
            (between_said word parts.0 parts.1 low.0 high.0 (split_once_joined 58 word parts.0 parts.1 cut) some.0
            (port_told 0 parts.0 low.0 low.1) (port_told max_port parts.1 high.0 high.1) (in_order low.0 high.0 order.0))
        | inr turned ↦ cc
      ]
]

-- A token that is parsed to ports is a notation of them.
pub ports_said : (word : List ℕ) (ports : ℕ × ℕ) → asked_ports word ≡ Some ports → ArePortsWord word ports.0 ports.1
unfolding asked_ports
ports_said word ports h = ports_by word (split_once 58 word) ports refl h

port_there : (other port : ℕ) (word : List ℕ) → number max_port word ≡ Some port → (port_or other word ≡ Some port) × (is_nothing word ≡ false)
unfolding number digits
port_there other port [] h = cc
port_there other port (b ∷ bs) h = (h, refl)

decimal_there : (other port : ℕ) → port ≤ max_port → (port_or other (decimal port) ≡ Some port) × (is_nothing (decimal port) ≡ false)
decimal_there other port fits = port_there other port (decimal port) (number-decimal max_port port fits (omega arith))

cut_at : (port : ℕ) (rest : List ℕ) → port ≤ max_port → split_once 58 (decimal port ++ (58 ∷ rest)) ≡ Some (decimal port, rest)
cut_at port rest fits = split_once-append 58 (decimal port) rest (decimal_lacks 58 port refl (omega arith))

less : (low high : ℕ) → low ≤ high → nat_le low high ≡ true
less low high h = grind (arith, nat_tests)

one_read : (port : ℕ) → port ≤ max_port → asked_ports (decimal port) ≡ Some (port, port)
unfolding asked_ports
one_read port fits =
    rw (split_once_none 58 (decimal port) (decimal_lacks 58 port refl (omega arith)), number-decimal max_port port fits (omega arith)) refl

two_read : (low high : ℕ) → low ≤ high → high ≤ max_port → asked_ports (decimal low ++ (58 ∷ decimal high)) ≡ Some (low, high)
unfolding asked_ports
two_read low high order fits =
    let first = decimal_there 0 low (omega arith) in
    let last = decimal_there max_port high fits in
    rw (cut_at low (decimal high) (omega arith), first.1, first.0, last.0, less low high order) refl

from_read : (low : ℕ) → low ≤ max_port → asked_ports (decimal low ++ (58 ∷ [])) ≡ Some (low, max_port)
unfolding asked_ports
from_read low fits =
    let first = decimal_there 0 low fits in
    rw (cut_at low [] fits, first.1, first.0, less low max_port fits) refl

up_to_read : (high : ℕ) → high ≤ max_port → asked_ports (58 ∷ decimal high) ≡ Some (0, high)
unfolding asked_ports
up_to_read high fits =
    let last = decimal_there max_port high fits in
    rw (last.1, last.0, less 0 high (omega arith)) refl

pub ports_read : (word : List ℕ) (low high : ℕ) → ArePortsWord word low high → asked_ports word ≡ Some (low, high)
ports_read word low high are = elim are.written [
  | inl one ↦ ap asked_ports one.0 ∙ one_read low (omega (arith, are.order, are.fits)) ∙ ap (λ (n : ℕ). Some (low, n)) one.1
  | inr (inl two) ↦ ap asked_ports two ∙ two_read low high are.order are.fits
  | inr (inr (inl from)) ↦ ap asked_ports from.0 ∙ from_read low (omega (arith, are.order, are.fits)) ∙ ap (λ (n : ℕ). Some (low, n)) (sym from.1)
  | inr (inr (inr up)) ↦ ap asked_ports up.0 ∙ up_to_read high are.fits ∙ ap (λ (n : ℕ). Some (n, high)) (sym up.1)
]
