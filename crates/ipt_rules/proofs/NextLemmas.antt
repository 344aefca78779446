-- Rules that are skipped do not match.
use Rattle.std.proofs.Common.{◌≡◌, ℕ, zero, suc, ◌+◌, ◌-◌, ◌≤◌, ◌<◌, ◌^◌, ◌∙◌, inl, inr, sym, ap, refl, subst, arith, Bool, true, false, cond, List, [], ◌∷◌, ◌++◌, Option, Some, None, length, append_assoc, get_or, drop, slice_get}
use Rattle.std.proofs.lemmas.Bool.{and_from, and_parts, false_from_ne_true}
use Rattle.std.proofs.lemmas.List.{drop_more}
use Rattle.std.specs.Prelude.{IfSome}
use Rattle.std.proofs.lemmas.Option.{same_Some, slice_get_within, slice_get_read}
use Rattle.std.specs.Option.{option_map_or}
use Rattle.host_net.specs.declared.tuple_space.TupleSpaceIndex.{TupleSpaceIndex}
use Rattle.host_net.specs.declared.tuple_space.Ends.{Ends}
use Rattle.host_net.specs.declared.packet.Packet.{Packet}
use Rattle.host_net.specs.declared.packet.CtState.{CtState}
use Rattle.host_net.specs.declared.prefix.Prefix.{Prefix}
use Rattle.host_net.specs.inner.Cover.{IsFirstFrom, covers_both, part_covers}
use Rattle.host_net.specs.inner.CoverView.{IsIndexOf}
use Rattle.host_net.specs.Prefix.{covers}
use Rattle.ipt_rules.specs.declared.rule.AddrMatch.{AddrMatch}
use Rattle.ipt_rules.specs.declared.rule.Rule.{Rule}
use Rattle.ipt_rules.specs.Chain.{Chain, rules_of}
use Rattle.ipt_rules.specs.ChainTable.{rule_count}
use Rattle.ipt_rules.specs.Matching.{address_matches, matches, port_matches, protocol_matches, turned}
use Rattle.ipt_rules.specs.inner.Next.{AreIndexes, IsNext, all_ends, ends_of, part_of}
use Rattle.ipt_rules.proofs.Gets.{get_pushed}

turned_covers : (negated : Bool) (p : Prefix) (a : ℕ) → turned negated (covers p a) ≡ true → part_covers (cond negated None (Some p)) a ≡ true
turned_covers true p a fits = refl
turned_covers false p a fits = fits

part_fits : (part : Option AddrMatch) (a : ℕ) → address_matches part a ≡ true → part_covers (part_of part) a ≡ true
part_fits None a fits = refl
part_fits (Some part) a fits = turned_covers part.negated part.prefix a fits

-- If a rule matches, its matches on the addresses hold.
rule_covers : (packet : Packet) (state : CtState) (r : Rule) → matches packet state r ≡ true → covers_both packet.src packet.dst (ends_of r) ≡ true
rule_covers packet state r fits =
    let (proto, ports) = and_parts (protocol_matches r.proto packet.proto) _ fits in
    let (sport, others) = and_parts (port_matches r.sport packet.sport) _ ports in
    let (dport, addresses) = and_parts (port_matches r.dport packet.dport) _ others in
    let (src, rest) = and_parts (address_matches r.src packet.src) _ addresses in
    let (dst, last) = and_parts (address_matches r.dst packet.dst) _ rest in
    and_from (part_covers (part_of r.src) packet.src) (part_covers (part_of r.dst) packet.dst) (part_fits r.src packet.src src) (part_fits r.dst packet.dst dst)

not_covered : (packet : Packet) (state : CtState) (r : Rule) → covers_both packet.src packet.dst (ends_of r) ≡ false → matches packet state r ≡ false
not_covered packet state r off = false_from_ne_true (matches packet state r) (λ fits. let on = rule_covers packet state r fits in cc)

ends_at : (rules : List Rule) (i : ℕ) (r : Rule) → slice_get rules i ≡ Some r → slice_get (all_ends rules) i ≡ Some (ends_of r)
ends_at [] i r there = cc
ends_at (x ∷ rules) zero r there = ap (λ (y : Rule). Some (ends_of y)) (same_Some x r there)
ends_at (x ∷ rules) (suc i) r there = ends_at rules i r there

pub length_ends : (rules : List Rule) → length (all_ends rules) ≡ length rules
length_ends [] = refl
length_ends (r ∷ rules) = ap suc (length_ends rules)

pub next_is : (rules : List Rule) (packet : Packet) (state : CtState) (from : ℕ) (found : Option ℕ) → IsFirstFrom (all_ends rules) from packet.src packet.dst found → IsNext (matches packet state) rules from found
next_is rules packet state from None none = λ i r low high there.
    let all = length_ends rules in
    not_covered packet state r (none i (ends_of r) low (omega (arith, high, all)) (ends_at rules i r there))
next_is rules packet state from (Some at) first = record {
  later = first.later;
  within = let all = length_ends rules in let low = slice_get_within (all_ends rules) at first.ends first.there in omega (arith, all, low);
  passed = λ i r low high there. not_covered packet state r (first.first i (ends_of r) low high (ends_at rules i r there));
}

pub next_small : (rules : List Rule) (from src dst : ℕ) (found : Option ℕ) → length rules < 2 ^ 32 → IsFirstFrom (all_ends rules) from src dst found → IfSome found (λ at. at < 2 ^ 32)
next_small rules from src dst None few none = tt
next_small rules from src dst (Some at) few first =
    let all = length_ends rules in
    let low = slice_get_within (all_ends rules) at first.ends first.there in
    omega (arith, all, low, few)

-- ---- the indexes of chains

pub ends_more : (rules : List Rule) (all now : List Ends) (i : ℕ) (r : Rule) (e : Ends) → i < length rules → r ≡ get_or rules i r → all ++ all_ends (drop i rules) ≡ all_ends rules → e ≡ ends_of r → now ≡ all ++ e ∷ []
    → now ++ all_ends (drop (i + 1) rules) ≡ all_ends rules
ends_more rules all now i r e low is so_far of_r more =
    let rest = all_ends (drop (i + 1) rules) in
    let here : all_ends (drop i rules) ≡ e ∷ rest = ap all_ends (drop_more rules i r low) ∙ ap (λ (x : Rule). ends_of x ∷ rest) (sym is) ∙ ap (λ (x : Ends). x ∷ rest) (sym of_r) in
    ap (λ (es : List Ends). es ++ rest) more ∙ append_assoc all (e ∷ []) rest ∙ ap (λ (es : List Ends). all ++ es) (sym here) ∙ so_far

-- A chain has at most as many rules as all chains.
pub rules_few : (xs : List Chain) (i : ℕ) (x : Chain) → i < length xs → x ≡ get_or xs i x → length x.rules ≤ rule_count xs
rules_few [] i x low is = absurd (omega (arith, low))
rules_few (y ∷ ys) zero x low is = let same = ap (λ (c : Chain). length c.rules) is in omega (arith, same)
rules_few (y ∷ ys) (suc i) x low is = let rest = rules_few ys i x (omega (arith, low)) is in omega (arith, rest)

pub indexes_more : (chains : List Chain) (indexes now : List TupleSpaceIndex) (i : ℕ) (x : Chain) (rules : List Rule) (index : TupleSpaceIndex) → i < length chains → x ≡ get_or chains i x → rules ≡ x.rules → length indexes ≡ i
    → ((c : ℕ) (own : TupleSpaceIndex) → slice_get indexes c ≡ Some own → IsIndexOf (all_ends (rules_of chains c)) own) → IsIndexOf (all_ends rules) index → now ≡ indexes ++ index ∷ []
    → (c : ℕ) (own : TupleSpaceIndex) → slice_get now c ≡ Some own → IsIndexOf (all_ends (rules_of chains c)) own
indexes_more chains indexes now i x rules index low is same counted so_far new more c own there =
    elim (get_pushed indexes index c own (ap (λ (l : List TupleSpaceIndex). slice_get l c) (sym more) ∙ there)) [
      | inl old ↦ so_far c own old
      | inr (place, last) ↦
          let at : c ≡ i = place ∙ counted in
          let here : slice_get chains i ≡ Some x = slice_get_read chains (length chains) i x refl low is in
          let own_rules : rules ≡ rules_of chains c = same ∙ ap (λ (o : Option Chain). option_map_or (λ y. y.rules) o []) (sym here) ∙ ap (rules_of chains) (sym at) in
          subst (λ (y : TupleSpaceIndex). IsIndexOf (all_ends (rules_of chains c)) y) last (subst (λ (rs : List Rule). IsIndexOf (all_ends rs) index) own_rules new)
    ]

-- A chain has at most as many rules as all chains, also if it does not exist.
pub chain_few : (chains : List Chain) (c : ℕ) → length (rules_of chains c) ≤ rule_count chains
chain_few [] c = omega arith
chain_few (x ∷ chains) zero = omega arith
chain_few (x ∷ chains) (suc c) = let rest = chain_few chains c in omega (arith, rest)

-- No chain has an index.
pub no_indexes : (indexes : List TupleSpaceIndex) (chains : List Chain) → indexes ≡ [] → AreIndexes indexes chains
no_indexes [] chains none = λ c index there. cc
no_indexes (index ∷ indexes) chains none = cc
