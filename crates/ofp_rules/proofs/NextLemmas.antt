-- Skipped entries do not match, and do not change the result.
use Rattle.std.proofs.Common.{◌≡◌, ℕ, zero, suc, ◌+◌, ◌-◌, ◌^◌, ◌≤◌, ◌<◌, ◌∙◌, inl, inr, sym, ap, refl, subst, arith, true, false, List, [], ◌∷◌, ◌++◌, Option, Some, None, length, get_or, take, slice_get}
use Rattle.std.proofs.lemmas.Bool.{and_from, and_parts, false_from_ne_true}
use Rattle.std.proofs.lemmas.List.{take_more}
use Rattle.std.proofs.lemmas.Option.{same_Some, slice_get_within, slice_get_cases}
use Rattle.host_net.specs.declared.tuple_space.TupleSpaceIndex.{TupleSpaceIndex}
use Rattle.host_net.specs.declared.prefix.Prefix.{Prefix}
use Rattle.host_net.specs.inner.Cover.{IsFirstFrom, covers_both, part_covers}
use Rattle.host_net.specs.inner.CoverView.{IsIndexOf, key_of}
use Rattle.ofp_rules.specs.declared.entry.Frame.{Frame}
use Rattle.ofp_rules.specs.declared.entry.Frame.TheVariants.{Arp, Ipv4, Other}
use Rattle.ofp_rules.specs.declared.entry.FrameKind.{FrameKind}
use Rattle.ofp_rules.specs.declared.entry.FrameKind.TheVariants.{Any as OfAny, Arp as OfArp, Ip as OfIp}
use Rattle.ofp_rules.specs.declared.entry.Entry.{Entry}
use Rattle.ofp_rules.specs.inner.Highest.{IsFound, higher}
use Rattle.ofp_rules.proofs.HighestLaws.{found_more, skipped, with_last}
use Rattle.ofp_rules.specs.Matching.{kind_matches, matches, number_matches, packet_matches, part_matches}
use Rattle.ofp_rules.specs.inner.Next.{IsNext, NoneMatches, all_ends, destination_of, ends_of, kind_ends, source_of}

part_needs : (part : Option Prefix) (a : ℕ) → part_matches part a ≡ true → part_covers part a ≡ true
part_needs None a on = refl
part_needs (Some p) a on = on

-- The prefixes of a matching entry cover the addresses of the frame.
kind_needs : (k : FrameKind) (e : Entry) (frame : Frame) → kind_matches k (packet_matches e) frame ≡ true
    → covers_both (source_of frame) (destination_of frame) (kind_ends k e.src e.dst) ≡ true
kind_needs OfAny e frame on = refl
kind_needs OfArp e frame on = refl
kind_needs OfIp e Arp on = cc
kind_needs OfIp e (Ipv4 packet) on =
    let (proto, ports) = and_parts (number_matches e.proto packet.proto) _ on in
    let (sport, others) = and_parts (number_matches e.tp_src packet.sport) _ ports in
    let (dport, addresses) = and_parts (number_matches e.tp_dst packet.dport) _ others in
    let (src, dst) = and_parts (part_matches e.src packet.src) (part_matches e.dst packet.dst) addresses in
    and_from (part_covers e.src packet.src) (part_covers e.dst packet.dst) (part_needs e.src packet.src src) (part_needs e.dst packet.dst dst)
kind_needs OfIp e Other on = cc

not_covered : (frame : Frame) (e : Entry) → covers_both (source_of frame) (destination_of frame) (ends_of e) ≡ false → matches frame e ≡ false
not_covered frame e off = false_from_ne_true (matches frame e) (λ on. let covered = kind_needs e.kind e frame on in cc)

ends_at : (entries : List Entry) (i : ℕ) (e : Entry) → slice_get entries i ≡ Some e → slice_get (all_ends entries) i ≡ Some (ends_of e)
ends_at [] i e there = cc
ends_at (x ∷ entries) zero e there = ap (λ (y : Entry). Some (ends_of y)) (same_Some x e there)
ends_at (x ∷ entries) (suc i) e there = ends_at entries i e there

pub length_ends : (entries : List Entry) → length (all_ends entries) ≡ length entries
length_ends [] = refl
length_ends (e ∷ entries) = ap suc (length_ends entries)

pub next_is : (entries : List Entry) (frame : Frame) (from : ℕ) (found : Option ℕ) → IsFirstFrom (all_ends entries) from (source_of frame) (destination_of frame) found → IsNext (matches frame) entries from found
next_is entries frame from None none = λ i e low high there.
    let all = length_ends entries in
    not_covered frame e (none i (ends_of e) low (omega (arith, high, all)) (ends_at entries i e there))
next_is entries frame from (Some at) first = record {
  later = first.later;
  within = let all = length_ends entries in let low = slice_get_within (all_ends entries) at first.ends first.there in omega (arith, all, low);
  passed = λ i e low high there. not_covered frame e (first.first i (ends_of e) low high (ends_at entries i e there));
}

-- Each entry of an index has a 32-bit position.
pub at_small : (entries : List Entry) (index : TupleSpaceIndex) → IsIndexOf (all_ends entries) index → (at : ℕ) → at < length entries → at < 2 ^ 32
at_small entries index is at within = elim (slice_get_cases entries at).1 [
  | inl (e, low, there, same) ↦ (is.order.small (key_of (ends_of e) at) (is.every at (ends_of e) (ends_at entries at e there))).place
  | inr (past, there) ↦ absurd (omega (arith, past, within))
]

-- Skipping entries does not change the entry found.
passed_some : (frame : Frame) (entries : List Entry) (found : Option Entry) (from n : ℕ) → from + n ≤ length entries → NoneMatches (matches frame) entries from (from + n)
    → IsFound (take from entries) frame found → IsFound (take (from + n) entries) frame found
passed_some frame entries found from zero within none is = subst (λ (k : ℕ). IsFound (take k entries) frame found) (omega arith) is
passed_some frame entries found from (suc n) within none is =
    let before = passed_some frame entries found from n (omega (arith, within)) (λ i e low high there. none i e low (omega (arith, high)) there) is in
    elim (slice_get_cases entries (from + n)).1 [
      | inl (e, low, there, same) ↦
          let old = take (from + n) entries in
          let more : take (from + n + 1) entries ≡ old ++ e ∷ [] = take_more entries (from + n) e low ∙ ap (λ (x : Entry). old ++ x ∷ []) same in
          subst (λ (k : ℕ). IsFound (take k entries) frame found) (omega arith)
          (subst (λ (es : List Entry). IsFound es frame found) (sym more)
          (skipped frame e old (old ++ e ∷ []) found (with_last e old) (none (from + n) e (omega arith) (omega arith) there) before))
      | inr (past, there) ↦ absurd (omega (arith, past, within))
    ]

pub found_passed : (frame : Frame) (entries : List Entry) (found : Option Entry) (from at : ℕ) → from ≤ at → at ≤ length entries → NoneMatches (matches frame) entries from at
    → IsFound (take from entries) frame found → IsFound (take at entries) frame found
found_passed frame entries found from at later within none is =
    let place : from + (at - from) ≡ at = omega (arith, later) in
    subst (λ (k : ℕ). IsFound (take k entries) frame found) place
    (passed_some frame entries found from (at - from) (omega (arith, place, within)) (λ i e low high there. none i e low (omega (arith, place, high)) there) is)

pub found_next : (frame : Frame) (entries : List Entry) (found next : Option Entry) (i : ℕ) (e : Entry) → i < length entries → e ≡ get_or entries i e → next ≡ higher frame found e
    → IsFound (take i entries) frame found → IsFound (take (i + 1) entries) frame next
found_next frame entries found next i e low here is so_far =
    let old = take i entries in
    let more : take (i + 1) entries ≡ old ++ e ∷ [] = take_more entries i e low ∙ ap (λ (x : Entry). old ++ x ∷ []) (sym here) in
    subst (λ (es : List Entry). IsFound es frame next) (sym more)
    (subst (IsFound (old ++ e ∷ []) frame) (sym is) (found_more frame e old (old ++ e ∷ []) found (with_last e old) so_far))
