-- Two entries match a common frame if and only if their kinds are compatible and, for IPv4, their fields are.
use Rattle.std.proofs.Common.{◌≡◌, ◌↔◌, ◌<◌, ◌^◌, ℕ, Bool, true, ◌&&◌, ◌==◌, IsTrue, Option, Some, None, refl, arith}
use Rattle.std.proofs.lemmas.Bool.{and_parts, and_from}
use Rattle.std.proofs.lemmas.Bool.Decides.{nat_tests}
use Rattle.host_net.specs.declared.prefix.Prefix.{Prefix}
use Rattle.host_net.specs.declared.packet.Packet.{Packet}
use Rattle.host_net.specs.Packet.{IsPacket}
use Rattle.host_net.proofs.PrefixLaws.{covers_own, covered_by_both, share_where_meets}
use Rattle.ofp_rules.specs.declared.entry.Action.TheVariants.{Drop}
use Rattle.ofp_rules.specs.declared.entry.Frame.{Frame}
use Rattle.ofp_rules.specs.declared.entry.Frame.TheVariants.{Arp, Ipv4, Other}
use Rattle.ofp_rules.specs.declared.entry.FrameKind.{FrameKind}
use Rattle.ofp_rules.specs.declared.entry.FrameKind.TheVariants.{Any as OfAny, Arp as OfArp, Ip as OfIp}
use Rattle.ofp_rules.specs.declared.entry.Entry.{Entry}
use Rattle.ofp_rules.specs.Ambiguity.{IsFrame, MatchOneFrame}
use Rattle.ofp_rules.specs.Matching.{part_matches, number_matches, packet_matches, kind_matches}
use Rattle.ofp_rules.specs.inner.Meeting.{parts_meet, numbers_meet, packets_meet, kinds_meet, entries_meet}
use Rattle.ofp_rules.specs.inner.Ranges.{address_fits, in_range, number_fits}
use Rattle.ofp_rules.proofs.RangesLaws.{HasRoom, in_range_parts}

-- The conjunction of five tests.
record AllHold (a b c d e : Bool) : Type 0 where
  one : a ≡ true
  two : b ≡ true
  three : c ≡ true
  four : d ≡ true
  five : e ≡ true

all_parts : (a b c d e : Bool) → (a && (b && (c && (d && e)))) ≡ true → AllHold a b c d e
all_parts a b c d e all =
    let first = and_parts a (b && (c && (d && e))) all in
    let second = and_parts b (c && (d && e)) first.1 in
    let third = and_parts c (d && e) second.1 in
    let rest = and_parts d e third.1 in
    record { one = first.0; two = second.0; three = third.0; four = rest.0; five = rest.1 }

all_from : (a b c d e : Bool) → AllHold a b c d e → (a && (b && (c && (d && e)))) ≡ true
all_from a b c d e all = and_from _ _ all.one (and_from _ _ all.two (and_from _ _ all.three (and_from _ _ all.four all.five)))

-- An address that both prefixes match.
record SharedBy (s t : Option Prefix) : Type 0 where
  address : ℕ
  fits : address < 2 ^ 32
  by_first : part_matches s address ≡ true
  by_second : part_matches t address ≡ true

own_fits : (p : Prefix) → address_fits (Some p) ≡ true → p.addr < 2 ^ 32
own_fits p fits = grind (arith, nat_tests)

shared_by : (s t : Option Prefix) → address_fits s ≡ true → address_fits t ≡ true → parts_meet s t ≡ true → SharedBy s t
shared_by None None in_s in_t h = record { address = 0; fits = omega arith; by_first = refl; by_second = refl }
shared_by None (Some q) in_s in_t h = record { address = q.addr; fits = own_fits q in_t; by_first = refl; by_second = covers_own q }
shared_by (Some p) None in_s in_t h = record { address = p.addr; fits = own_fits p in_s; by_first = covers_own p; by_second = refl }
shared_by (Some p) (Some q) in_s in_t h =
    let shared = share_where_meets p q (own_fits p in_s) (own_fits q in_t) h in
    record { address = shared.0; fits = shared.1; by_first = shared.2; by_second = shared.3 }

parts_meet_where : (s t : Option Prefix) (a : ℕ) → part_matches s a ≡ true → part_matches t a ≡ true → parts_meet s t ≡ true
parts_meet_where None t a by_s by_t = refl
parts_meet_where (Some p) None a by_s by_t = refl
parts_meet_where (Some p) (Some q) a by_s by_t = covered_by_both p q a by_s by_t

-- A number below the limit that both fields match.
record SharedNumber (limit : ℕ) (m n : Option ℕ) : Type 0 where
  number : ℕ
  fits : number < limit
  by_first : number_matches m number ≡ true
  by_second : number_matches n number ≡ true

own_number : (n : ℕ) → (n == n) ≡ true
own_number n = grind (arith, nat_tests)

shared_number : (limit : ℕ) (m n : Option ℕ) → 0 < limit → number_fits limit m ≡ true → number_fits limit n ≡ true → numbers_meet m n ≡ true
    → SharedNumber limit m n
shared_number limit None None some in_m in_n h = record { number = 0; fits = some; by_first = refl; by_second = refl }
shared_number limit None (Some n) some in_m in_n h = record { number = n; fits = grind (arith, nat_tests); by_first = refl; by_second = own_number n }
shared_number limit (Some m) None some in_m in_n h = record { number = m; fits = grind (arith, nat_tests); by_first = own_number m; by_second = refl }
shared_number limit (Some m) (Some n) some in_m in_n h =
    record { number = m; fits = grind (arith, nat_tests); by_first = own_number m; by_second = grind (arith, nat_tests) }

numbers_meet_where : (m n : Option ℕ) (k : ℕ) → number_matches m k ≡ true → number_matches n k ≡ true → numbers_meet m n ≡ true
numbers_meet_where None n k by_m by_n = refl
numbers_meet_where (Some m) None k by_m by_n = refl
numbers_meet_where (Some m) (Some n) k by_m by_n = grind (arith, nat_tests)

-- A packet that both entries match.
record SharedPacket (e f : Entry) : Type 0 where
  packet : Packet
  is : IsPacket packet
  by_first : packet_matches e packet ≡ true
  by_second : packet_matches f packet ≡ true

shared_packet : (e f : Entry) → HasRoom e → HasRoom f → packets_meet e f ≡ true → SharedPacket e f
shared_packet e f in_e in_f h =
    let all = all_parts (numbers_meet e.proto f.proto) (numbers_meet e.tp_src f.tp_src) (numbers_meet e.tp_dst f.tp_dst) (parts_meet e.src f.src) (parts_meet e.dst f.dst) h in
    let src = shared_by e.src f.src in_e.src in_f.src all.four in
    let dst = shared_by e.dst f.dst in_e.dst in_f.dst all.five in
    let proto = shared_number (2 ^ 8) e.proto f.proto (omega arith) in_e.proto in_f.proto all.one in
    let sport = shared_number (2 ^ 16) e.tp_src f.tp_src (omega arith) in_e.tp_src in_f.tp_src all.two in
    let dport = shared_number (2 ^ 16) e.tp_dst f.tp_dst (omega arith) in_e.tp_dst in_f.tp_dst all.three in
    record {
      packet = record { src = src.address; dst = dst.address; proto = proto.number; sport = sport.number; dport = dport.number };
      is = (src.fits, dst.fits, proto.fits, sport.fits, dport.fits);
      by_first = all_from _ _ _ _ _ (record { one = proto.by_first; two = sport.by_first; three = dport.by_first; four = src.by_first; five = dst.by_first });
      by_second = all_from _ _ _ _ _ (record { one = proto.by_second; two = sport.by_second; three = dport.by_second; four = src.by_second; five = dst.by_second });
    }

packets_meet_where : (e f : Entry) (packet : Packet) → packet_matches e packet ≡ true → packet_matches f packet ≡ true → packets_meet e f ≡ true
packets_meet_where e f packet by_e by_f =
    let first = all_parts (number_matches e.proto packet.proto) (number_matches e.tp_src packet.sport) (number_matches e.tp_dst packet.dport) (part_matches e.src packet.src) (part_matches e.dst packet.dst) by_e in
    let second = all_parts (number_matches f.proto packet.proto) (number_matches f.tp_src packet.sport) (number_matches f.tp_dst packet.dport) (part_matches f.src packet.src) (part_matches f.dst packet.dst) by_f in
    all_from _ _ _ _ _ (record {
      one = numbers_meet_where e.proto f.proto packet.proto first.one second.one;
      two = numbers_meet_where e.tp_src f.tp_src packet.sport first.two second.two;
      three = numbers_meet_where e.tp_dst f.tp_dst packet.dport first.three second.three;
      four = parts_meet_where e.src f.src packet.src first.four second.four;
      five = parts_meet_where e.dst f.dst packet.dst first.five second.five;
    })

-- A packet that one entry matches: the other entry, which has no fields, matches every packet.
abbrev any_packet : Entry
any_packet = record { priority = 0; kind = OfIp; src = None; dst = None; proto = None; tp_src = None; tp_dst = None; action = Drop }

part_meets_none : (s : Option Prefix) → parts_meet s None ≡ true
part_meets_none None = refl
part_meets_none (Some p) = refl

number_meets_none : (m : Option ℕ) → numbers_meet m None ≡ true
number_meets_none None = refl
number_meets_none (Some m) = refl

own_packet : (e : Entry) → HasRoom e → SharedPacket e any_packet
own_packet e in_e =
    shared_packet e any_packet in_e (in_range_parts any_packet refl)
    (all_from _ _ _ _ _ (record {
      one = number_meets_none e.proto;
      two = number_meets_none e.tp_src;
      three = number_meets_none e.tp_dst;
      four = part_meets_none e.src;
      five = part_meets_none e.dst;
    }))

-- A frame that both entries match, by their kinds.
module _ (e f : Entry) where
  record Shared (k l : FrameKind) : Type 0 where
    frame : Frame
    is : IsFrame frame
    by_first : kind_matches k (packet_matches e) frame ≡ true
    by_second : kind_matches l (packet_matches f) frame ≡ true

  shared : HasRoom e → HasRoom f → (k l : FrameKind) → kinds_meet k l (packets_meet e f) ≡ true → Shared k l
  shared in_e in_f OfAny OfAny h = record { frame = Arp; is = tt; by_first = refl; by_second = refl }
  shared in_e in_f OfAny OfArp h = record { frame = Arp; is = tt; by_first = refl; by_second = refl }
  shared in_e in_f OfAny OfIp h = let own = own_packet f in_f in record { frame = Ipv4 own.packet; is = own.is; by_first = refl; by_second = own.by_first }
  shared in_e in_f OfArp OfAny h = record { frame = Arp; is = tt; by_first = refl; by_second = refl }
  shared in_e in_f OfArp OfArp h = record { frame = Arp; is = tt; by_first = refl; by_second = refl }
  shared in_e in_f OfArp OfIp h = cc
  shared in_e in_f OfIp OfAny h = let own = own_packet e in_e in record { frame = Ipv4 own.packet; is = own.is; by_first = own.by_first; by_second = refl }
  shared in_e in_f OfIp OfArp h = cc
  shared in_e in_f OfIp OfIp h =
      let both = shared_packet e f in_e in_f h in
      record { frame = Ipv4 both.packet; is = both.is; by_first = both.by_first; by_second = both.by_second }

  meet_where : (k l : FrameKind) (frame : Frame) → kind_matches k (packet_matches e) frame ≡ true → kind_matches l (packet_matches f) frame ≡ true
      → kinds_meet k l (packets_meet e f) ≡ true
  meet_where OfAny l frame by_k by_l = refl
  meet_where OfArp OfAny frame by_k by_l = refl
  meet_where OfArp OfArp frame by_k by_l = refl
  meet_where OfArp OfIp Arp by_k by_l = cc
  meet_where OfArp OfIp (Ipv4 packet) by_k by_l = cc
  meet_where OfArp OfIp Other by_k by_l = cc
  meet_where OfIp OfAny frame by_k by_l = refl
  meet_where OfIp OfArp Arp by_k by_l = cc
  meet_where OfIp OfArp (Ipv4 packet) by_k by_l = cc
  meet_where OfIp OfArp Other by_k by_l = cc
  meet_where OfIp OfIp Arp by_k by_l = cc
  meet_where OfIp OfIp (Ipv4 packet) by_k by_l = packets_meet_where e f packet by_k by_l
  meet_where OfIp OfIp Other by_k by_l = cc

pub meet_exactly : (e f : Entry) → IsTrue (in_range e) → IsTrue (in_range f) → IsTrue (entries_meet e f) ↔ MatchOneFrame e f
meet_exactly e f in_e in_f = (
  λ h.
      let one = shared e f (in_range_parts e in_e) (in_range_parts f in_f) e.kind f.kind h in
      record { frame = one.frame; is = one.is; by_first = one.by_first; by_second = one.by_second },
  λ one. meet_where e f e.kind f.kind one.frame one.by_first one.by_second,
)
