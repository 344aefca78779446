-- The length of the line of an entry.
use Rattle.std.proofs.Common.{Bool, true, false, ◌==◌, ◌||◌, ◌++◌, IsTrue, ℕ, ◌≤◌, ◌<◌, ◌^◌, [], ◌∷◌, Option, Some, None, length, arith, length-append}
use Rattle.std.specs.Prelude.{if◌then◌else◌, codes, decimal}
use Rattle.std.proofs.lemmas.Bool.Decides.{nat_tests}
use Rattle.std.proofs.lemmas.Fmt.{length-decimal-le}
use Rattle.host_net.specs.declared.prefix.Prefix.{Prefix}
use Rattle.host_net.proofs.PrefixTextLaws.{prefix_short}
use Rattle.host_net.specs.Prefix.{prefix_text}
use Rattle.host_net.specs.Service.{icmp, tcp, udp}
use Rattle.ofp_rules.specs.declared.entry.FrameKind.{FrameKind}
use Rattle.ofp_rules.specs.declared.entry.FrameKind.TheVariants.{Any, Arp, Ip}
use Rattle.ofp_rules.specs.declared.entry.Action.{Action}
use Rattle.ofp_rules.specs.declared.entry.Action.TheVariants.{Normal, Drop}
use Rattle.ofp_rules.specs.declared.entry.Entry.{Entry}
use Rattle.ofp_rules.specs.inner.Ranges.{in_range, number_fits}
use Rattle.ofp_rules.proofs.RangesLaws.{in_range_parts}
use Rattle.ofp_rules.specs.Text.{action_text, entry_line, field_text, kind_text}

protocol_short : (proto : ℕ) → proto < 2 ^ 8 → length (kind_text Ip (Some proto)) ≤ 16
protocol_short proto fits =
    let other : length (codes "ip,nw_proto=" ++ (decimal proto ++ codes ",")) ≤ 16 = simp length-append (omega (arith, length-decimal-le 3 proto (omega arith) (omega arith) (omega arith))) in
    by_name (proto == icmp) (proto == tcp) (proto == udp) other
  where
    by_name : (one six other : Bool) → length (codes "ip,nw_proto=" ++ (decimal proto ++ codes ",")) ≤ 16
        → length (if one || (six || other)
        then (if one then codes "icmp" else if six then codes "tcp" else if other then codes "udp" else decimal proto) ++ codes ","
        else codes "ip,nw_proto=" ++ (decimal proto ++ codes ",")) ≤ 16
    by_name true six other short = omega arith
    by_name false true other short = omega arith
    by_name false false true short = omega arith
    by_name false false false short = short

kind_short : (kind : FrameKind) (proto : Option ℕ) → IsTrue (number_fits (2 ^ 8) proto) → length (kind_text kind proto) ≤ 16
kind_short Any proto fits = omega arith
kind_short Arp proto fits = omega arith
kind_short Ip None fits = omega arith
kind_short Ip (Some proto) fits = protocol_short proto (grind (arith, nat_tests))

part_short : (a b c d e f g : ℕ) (part : Option Prefix) → length (field_text (a ∷ b ∷ c ∷ d ∷ e ∷ f ∷ g ∷ []) prefix_text part) ≤ 26
part_short a b c d e f g None = omega arith
part_short a b c d e f g (Some p) = simp length-append (omega (arith, prefix_short p))

port_short : (a b c d e f g : ℕ) (port : Option ℕ) → IsTrue (number_fits (2 ^ 16) port) → length (field_text (a ∷ b ∷ c ∷ d ∷ e ∷ f ∷ g ∷ []) decimal port) ≤ 13
port_short a b c d e f g None fits = omega arith
port_short a b c d e f g (Some n) fits =
    let small : n < 2 ^ 16 = grind (arith, nat_tests) in
    simp length-append (omega (arith, length-decimal-le 5 n (omega arith) (omega arith) (omega arith)))

action_short : (action : Action) → length (action_text action) ≤ 14
action_short Normal = omega arith
action_short Drop = omega arith

pub entry_line_short : (e : Entry) → IsTrue (in_range e) → length (entry_line e) ≤ 124
unfolding entry_line
entry_line_short e fits =
    let parts = in_range_parts e fits in
    let priority = parts.priority in
    simp length-append
    (omega (
      arith,
      length-decimal-le 5 e.priority (omega arith) (omega arith) (omega arith),
      kind_short e.kind e.proto parts.proto,
      part_short 110 119 95 115 114 99 61 e.src,
      part_short 110 119 95 100 115 116 61 e.dst,
      port_short 116 112 95 115 114 99 61 e.tp_src parts.tp_src,
      port_short 116 112 95 100 115 116 61 e.tp_dst parts.tp_dst,
      action_short e.action,
    ))
