-- The matches of rules as header fields.
use Rattle.std.proofs.Common.{◌≡◌, ℕ, Bool, true, false, ◌&&◌, refl, sym, ap, ◌∙◌}
use Rattle.host_net.specs.declared.packet.Packet.{Packet}
use Rattle.host_net.specs.declared.packet.CtState.{CtState}
use Rattle.host_net.specs.Prefix.{covers}
use Rattle.host_net.specs.PrefixView.{first_address, last_address}
use Rattle.host_net.proofs.RangesLemmas.{holds_covers}
use Rattle.header_space.specs.Matching.{range_fits}
use Rattle.header_space.proofs.NarrowLaws.{first_false, second_false}
use Rattle.ipt_rules.specs.declared.rule.AddrMatch.{AddrMatch}
use Rattle.ipt_rules.specs.declared.rule.Rule.{Rule}
use Rattle.ipt_rules.specs.Matching.{address_matches, matches, port_matches, protocol_matches, state_matches, turned}

-- A prefix covers the numbers from its first to its last address.
pub address_fits : (part : AddrMatch) (low high : ℕ) → low ≡ first_address part.prefix → high ≡ last_address part.prefix → (n : ℕ)
    → turned part.negated (covers part.prefix n) ≡ range_fits (record { low = low; high = high; negated = part.negated }) n
address_fits part low high first last n =
    ap (λ (b : Bool). turned part.negated b) (sym (holds_covers part.prefix (record { first = low; last = high; host = 0 }) n first last))

-- The matches of a rule in another order.
pub reordered : (a b c d e s : Bool) → (c && (d && (e && (a && (b && s))))) ≡ ((a && (b && (c && (d && e)))) && s)
reordered false b false d e s = refl
reordered false b true false e s = refl
reordered false b true true false s = refl
reordered false b true true true s = refl
reordered true false false d e s = refl
reordered true false true false e s = refl
reordered true false true true false s = refl
reordered true false true true true s = refl
reordered true true false d e s = refl
reordered true true true false e s = refl
reordered true true true true e s = refl

-- If a match of a rule does not hold for a packet, the rule does not match the packet.
module _ (p : Packet) (state : CtState) (rule : Rule) where
  pub not_by_sport : port_matches rule.sport p.sport ≡ false → matches p state rule ≡ false
  not_by_sport is = second_false (protocol_matches rule.proto p.proto) _ (first_false (port_matches rule.sport p.sport) _ is)

  behind_ports : (b : Bool) → b ≡ false → (protocol_matches rule.proto p.proto && (port_matches rule.sport p.sport && (port_matches rule.dport p.dport && b))) ≡ false
  behind_ports b is =
      second_false (protocol_matches rule.proto p.proto) _ (second_false (port_matches rule.sport p.sport) _ (second_false (port_matches rule.dport p.dport) b is))

  pub not_by_dport : port_matches rule.dport p.dport ≡ false → matches p state rule ≡ false
  not_by_dport is =
      second_false (protocol_matches rule.proto p.proto) _ (second_false (port_matches rule.sport p.sport) _ (first_false (port_matches rule.dport p.dport) _ is))

  pub not_by_src : address_matches rule.src p.src ≡ false → matches p state rule ≡ false
  not_by_src is = behind_ports _ (first_false (address_matches rule.src p.src) _ is)

  pub not_by_dst : address_matches rule.dst p.dst ≡ false → matches p state rule ≡ false
  not_by_dst is = behind_ports _ (second_false (address_matches rule.src p.src) _ (first_false (address_matches rule.dst p.dst) _ is))

  pub not_by_state : state_matches rule.state state ≡ false → matches p state rule ≡ false
  not_by_state is = behind_ports _ (second_false (address_matches rule.src p.src) _ (second_false (address_matches rule.dst p.dst) _ is))

and_true : (b : Bool) → (b && true) ≡ b
and_true true = refl
and_true false = refl

pub both_fit : (b answer s : Bool) → b ≡ answer → s ≡ true → (b && s) ≡ answer
both_fit b answer s same is = (λ i. same i && is i) ∙ and_true answer
