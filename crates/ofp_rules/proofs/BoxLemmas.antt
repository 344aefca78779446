-- The header matches of entries.
use Rattle.std.proofs.Common.{◌≡◌, ℕ, Bool, true, false, ◌&&◌, refl, sym}
use Rattle.host_net.specs.declared.prefix.Prefix.{Prefix}
use Rattle.host_net.specs.Prefix.{covers}
use Rattle.host_net.specs.PrefixView.{first_address, last_address}
use Rattle.host_net.proofs.RangesLemmas.{holds_covers}
use Rattle.host_net.specs.declared.packet.Packet.{Packet}
use Rattle.header_space.specs.Matching.{range_fits}
use Rattle.header_space.proofs.NarrowLaws.{first_false, second_false}
use Rattle.ofp_rules.specs.declared.entry.Entry.{Entry}
use Rattle.ofp_rules.specs.Matching.{number_matches, packet_matches, part_matches}

-- A prefix covers exactly the numbers from its first to its last address.
pub prefix_fits : (prefix : Prefix) (low high : ℕ) → low ≡ first_address prefix → high ≡ last_address prefix → (n : ℕ)
    → covers prefix n ≡ range_fits (record { low = low; high = high; negated = false }) n
prefix_fits prefix low high first last n = sym (holds_covers prefix (record { first = low; last = high; host = 0 }) n first last)

-- The fields of an entry in another order.
pub reordered : (a b c d e : Bool) → (c && (d && (e && (a && b)))) ≡ (a && (b && (c && (d && e))))
reordered false b false d e = refl
reordered false b true false e = refl
reordered false b true true false = refl
reordered false b true true true = refl
reordered true false false d e = refl
reordered true false true false e = refl
reordered true false true true false = refl
reordered true false true true true = refl
reordered true true false d e = refl
reordered true true true false e = refl
reordered true true true true false = refl
reordered true true true true true = refl

-- If a field of an entry does not match the packet, the entry does not match it.
module _ (p : Packet) (e : Entry) where
  pub not_by_sport : number_matches e.tp_src p.sport ≡ false → packet_matches e p ≡ false
  not_by_sport is = second_false (number_matches e.proto p.proto) _ (first_false (number_matches e.tp_src p.sport) _ is)

  pub not_by_dport : number_matches e.tp_dst p.dport ≡ false → packet_matches e p ≡ false
  not_by_dport is =
      second_false (number_matches e.proto p.proto) _ (second_false (number_matches e.tp_src p.sport) _ (first_false (number_matches e.tp_dst p.dport) _ is))

  behind_ports : (b : Bool) → b ≡ false → (number_matches e.proto p.proto && (number_matches e.tp_src p.sport && (number_matches e.tp_dst p.dport && b))) ≡ false
  behind_ports b is =
      second_false (number_matches e.proto p.proto) _ (second_false (number_matches e.tp_src p.sport) _ (second_false (number_matches e.tp_dst p.dport) b is))

  pub not_by_src : part_matches e.src p.src ≡ false → packet_matches e p ≡ false
  not_by_src is = behind_ports _ (first_false (part_matches e.src p.src) _ is)

  pub not_by_dst : part_matches e.dst p.dst ≡ false → packet_matches e p ≡ false
  not_by_dst is = behind_ports _ (second_false (part_matches e.src p.src) _ is)
