-- The lengths of the parts of a piece.
use Rattle.std.proofs.Common.{◌≡◌, ◌≤◌, ◌<◌, ◌^◌, ◌++◌, ℕ, Bool, true, false, ◌==◌, List, [], ◌∷◌, Option, Some, None, length, length-append, refl, arith}
use Rattle.std.specs.Prelude.{codes, decimal, if◌then◌else◌, slice_get}
use Rattle.std.specs.Option.{option_map_or}
use Rattle.std.proofs.lemmas.Fmt.{length-decimal-le}
use Rattle.host_net.specs.declared.prefix.Prefix.{Prefix}
use Rattle.host_net.specs.Prefix.{address_text, prefix_text}
use Rattle.host_net.specs.Service.{icmp, tcp, udp}
use Rattle.host_net.specs.ServiceText.{ports_text, protocol_text}
use Rattle.host_net.proofs.PrefixTextLaws.{prefix_short}
use Rattle.header_space.specs.declared.address_range.AddressRange.{AddressRange}
use Rattle.nft_rules.specs.declared.table.Chain.{Chain}
use Rattle.nft_rules.specs.declared.table.Element.{Element}
use Rattle.nft_rules.specs.declared.table.Verdict.{Verdict}
use Rattle.nft_rules.specs.declared.table.Verdict.TheVariants.{Accept, Drop, Goto}
use Rattle.host_net.specs.Prefix.{octet}
use Rattle.nft_text.specs.Text.{after_element, element_text, interval_text, name_of, range_prefix, range_text, verdict_text}
use Rattle.nft_text.specs.inner.Places.{AreShort}

octet_short : (a place : ℕ) → length (decimal (octet a place)) ≤ 3
unfolding octet
octet_short a place = length-decimal-le 3 (octet a place) (omega arith) (omega arith) (omega arith)

address_short : (a : ℕ) → length (address_text a) ≤ 15
unfolding address_text
address_short a =
    simp length-append (omega (arith, octet_short a 24, octet_short a 16, octet_short a 8, octet_short a 0))

shortest_short : (b : Bool) (p : Prefix) → length (if b then address_text p.addr else prefix_text p) ≤ 31
shortest_short true p = omega (arith, address_short p.addr)
shortest_short false p = omega (arith, prefix_short p)

interval_short : (range : AddressRange) (prefix : Option Prefix) → length (interval_text range prefix) ≤ 31
interval_short range None = simp length-append (omega (arith, address_short range.first, address_short range.last))
interval_short range (Some p) = shortest_short (p.len == 32) p

pub range_short : (range : AddressRange) → length (range_text range) ≤ 31
unfolding range_text
range_short range = interval_short range (range_prefix range)

found_short : (found : Option Chain) → ((chain : Chain) → found ≡ Some chain → length chain.name.items ≤ 128)
    → length (option_map_or (λ chain. chain.name.items) found []) ≤ 128
found_short None short = omega arith
found_short (Some chain) short = short chain refl

name_short : (chains : List Chain) (c : ℕ) → AreShort chains → length (name_of chains c) ≤ 128
name_short chains c short = found_short (slice_get chains c) (λ chain at. short c chain at)

pub verdict_short : (chains : List Chain) (v : Verdict) → AreShort chains → length (verdict_text chains v) ≤ 133
verdict_short chains Accept short = omega arith
verdict_short chains Drop short = omega arith
verdict_short chains (Goto c) short = simp length-append (omega (arith, name_short chains c short))

after_short : (behind : List Element) → length (after_element behind) ≤ 3
after_short [] = omega arith
after_short (e ∷ es) = omega arith

pub element_short : (chains : List Chain) (e : Element) (behind : List Element) → AreShort chains → length (element_text chains e behind) ≤ 256
unfolding element_text
element_short chains e behind short =
    simp length-append (omega (arith, range_short e.range, verdict_short chains e.verdict short, after_short behind))

pub protocol_short : (proto : ℕ) → proto < 2 ^ 8 → length (protocol_text proto) ≤ 4
protocol_short proto fits = by_name (proto == icmp) (proto == tcp) (proto == udp) (length-decimal-le 3 proto (omega arith) (omega arith) (omega arith))
  where
    by_name : (one six other : Bool) → length (decimal proto) ≤ 3
        → length (if one then codes "icmp" else if six then codes "tcp" else if other then codes "udp" else decimal proto) ≤ 4
    by_name true six other short = omega arith
    by_name false true other short = omega arith
    by_name false false true short = omega arith
    by_name false false false short = omega (arith, short)

pub ports_short : (low high : ℕ) → low < 2 ^ 16 → high < 2 ^ 16 → length (ports_text low high) ≤ 11
ports_short low high first last =
    by_same (low == high) (length-decimal-le 5 low (omega arith) (omega arith) (omega arith)) (length-decimal-le 5 high (omega arith) (omega arith) (omega arith))
  where
    by_same : (same : Bool) → length (decimal low) ≤ 5 → length (decimal high) ≤ 5
        → length (if same then decimal low else decimal low ++ (codes "-" ++ decimal high)) ≤ 11
    by_same true one two = omega (arith, one)
    by_same false one two = simp length-append (omega (arith, one, two))
