-- Rules that are right about the packet of a class are right about all packets of the class. Each packet is in a class.
use Rattle.std.proofs.Common.{◌≡◌, inl, inr, ℕ, zero, suc, ◌<◌, ◌≤◌, ◌^◌, Bool, ◌&&◌, ◌||◌, true, false, List, ◌∷◌, refl, subst, ◌∙◌, arith}
use Rattle.std.specs.List.{Contains, flat_map}
use Rattle.host_net.specs.declared.packet.Packet.{Packet}
use Rattle.host_net.specs.declared.packet.CtState.{CtState}
use Rattle.host_net.specs.declared.packet.CtState.TheVariants.{New, Established}
use Rattle.host_net.specs.Packet.{IsPacket, swap_of}
use Rattle.pkt_core.specs.Firewall.{may_pass}
use Rattle.pkt_core.specs.FlowPolicy.{permits, permits_reply_to}
use Rattle.audit_core.specs.declared.kind.Kind.{Kind}
use Rattle.audit_core.specs.declared.kind.Kind.TheVariants.{Alone, AfterSwap, AfterBoth}
use Rattle.audit_core.specs.Cuts.{cut_addresses, cut_ports, cuts_between, named_protocols, parts_between}
use Rattle.audit_core.specs.inner.Cuts.{AreOneClass}
use Rattle.audit_core.specs.inner.Faults.{Right, is_asked, state_in}
use Rattle.rules_space.proofs.ListLaws.{contains_first}
use Rattle.audit_core.specs.Parts.{rules_parts, site_parts}
use Rattle.audit_core.specs.Classes.{is_among, represents_protocol}
use Rattle.rules_space.specs.Numbers.{numbers_where}
use Rattle.audit_core.specs.Places.{IsClassPacket, representatives_of}
use Rattle.audit_core.proofs.RepresentativeLemmas.{among_has, represents}
use Rattle.rules_space.proofs.NumberLaws.{where_has}
use Rattle.audit_core.specs.inner.Ranges.{AreTogether}
use Rattle.audit_core.proofs.RangeLemmas.{is_in, protocol_of}
use Rattle.rules_space.specs.Rules.{filter_of}
use Rattle.header_space.specs.Boxes.{IsNoHigher}
use Rattle.audit_core.specs.Sides.{Sides}
use Rattle.audit_core.proofs.PartLemmas.{AreAlikeFor, IsAlikeFor, all_parts, alike_back, alike_swapped}
use Rattle.audit_core.proofs.RulesLemmas.{filter_alike}
use Rattle.audit_core.proofs.SiteLemmas.{is_of_alike}

-- 1. Rules that are right about a packet are right about equivalent packets.

-- Rules that are right about p are right about q: each verdict on q is also a verdict on p, and the policy decides equally on both packets,
-- on their swaps and on the answers to the swaps.
pub record AreAlike (sides : Sides) (p q : Packet) : Type 0 where
  pub said : (state : CtState) (b : Bool) → filter_of sides.rules state q b → filter_of sides.rules state p b
  pub own : permits sides.policy p ≡ permits sides.policy q
  pub other : permits sides.policy (swap_of p) ≡ permits sides.policy (swap_of q)
  pub answers : permits_reply_to sides.policy (swap_of p) ≡ permits_reply_to sides.policy (swap_of q)

pub right_alike : (sides : Sides) (kind : Kind) (p q : Packet) → AreAlike sides p q → Right sides kind p → Right sides kind q
right_alike sides kind p q alike right asked b said =
    right (same_asked kind ∙ asked) b (alike.said (state_in kind) b said) ∙ same_policy (state_in kind)
  where
    same_asked : (k : Kind) → is_asked (permits sides.policy) k p ≡ is_asked (permits sides.policy) k q
    same_asked Alone = refl
    same_asked AfterSwap = alike.other
    same_asked AfterBoth = alike.own

    same_policy : (state : CtState) → may_pass (permits sides.policy) (permits_reply_to sides.policy) state p ≡ may_pass (permits sides.policy) (permits_reply_to sides.policy) state q
    same_policy New = λ i. alike.own i || (alike.answers i && false)
    same_policy Established = λ i. alike.own i || (alike.answers i && true)

-- Packets that no part separates are equivalent.
pub alike_by_parts : (sides : Sides) (p q : Packet) → AreAlikeFor (parts_between sides) p q → AreAlike sides p q
alike_by_parts sides p q alike =
    let there = both p q alike in
    let back = both q p (alike_back (parts_between sides) p q alike) in
    let swapped = both (swap_of p) (swap_of q) (alike_swapped (parts_between sides) p q alike) in
    record {
      said = λ state b h. filter_alike sides.rules q p state b back.1 h;
      own = is_of_alike sides.policy.site sides.policy.permitted p q there.0;
      other = is_of_alike sides.policy.site sides.policy.permitted (swap_of p) (swap_of q) swapped.0;
      answers = is_of_alike sides.policy.site sides.policy.stateful (swap_of p) (swap_of q) swapped.0;
    }
  where
    both : (a b : Packet) → AreAlikeFor (parts_between sides) a b → AreAlikeFor (site_parts sides.policy.site) a b × AreAlikeFor (rules_parts sides.rules) a b
    both a b = all_parts (IsAlikeFor a b) (site_parts sides.policy.site) (rules_parts sides.rules)

-- 2. Each packet is in one class with the packet of a class.

-- If 0 is a cut, each number is in one class with a cut that is at most the number.
class_of : (cuts : List ℕ) (a : ℕ) → (c : ℕ) × (c ≤ a) × Contains (0 ∷ cuts) c × AreTogether (0 ∷ cuts) c a
class_of cuts zero = (0, omega arith, contains_first 0 cuts 0 refl, λ d there. ((λ low. low), (λ low. low)))
class_of cuts (suc a) = elim (is_in (0 ∷ cuts) (suc a)) [
  | inl there ↦ (suc a, omega arith, there, λ d at. ((λ low. low), (λ low. low)))
  | inr none ↦
      let rest = class_of cuts a in
      let low = rest.1 in (
        rest.0,
        omega arith,
        rest.2,
        λ d there. ((λ more. omega arith), (λ more. (rest.3 d there).1 (below d (λ is. none (subst (λ (n : ℕ). Contains (0 ∷ cuts) n) is there)) more))),
      )
]
  where
    below : (d : ℕ) → (d ≡ suc a → ⊥) → d ≤ suc a → d ≤ a
    below d apart more = omega (arith, apart)

-- Each packet is in one class with the packet of a class whose numbers are no greater.
pub class_of_packet : (sides : Sides) (p : Packet) → IsPacket p
    → (q : Packet) × IsPacket q × IsClassPacket (representatives_of (cuts_between sides)) q × AreOneClass (cuts_between sides) q p × IsNoHigher q p
class_of_packet sides p known =
    let parts = parts_between sides in
    let addresses = flat_map cut_addresses parts in
    let ports = flat_map cut_ports parts in
    let named = flat_map named_protocols parts in
    let src = class_of addresses p.src in
    let dst = class_of addresses p.dst in
    let sport = class_of ports p.sport in
    let dport = class_of ports p.dport in
    let proto = protocol_of named p.proto in (
      record { src = src.0; dst = dst.0; proto = proto.0; sport = sport.0; dport = dport.0 },
      (
        at_most src.0 p.src (2 ^ 32) src.1 known.0,
        at_most dst.0 p.dst (2 ^ 32) dst.1 known.1,
        at_most proto.0 p.proto (2 ^ 8) proto.1 known.2,
        at_most sport.0 p.sport (2 ^ 16) sport.1 known.3,
        at_most dport.0 p.dport (2 ^ 16) dport.1 known.4,
      ),
      record {
        src = cut_there (0 ∷ addresses) (2 ^ 32) src.0 p.src src.1 known.0 src.2;
        dst = cut_there (0 ∷ addresses) (2 ^ 32) dst.0 p.dst dst.1 known.1 dst.2;
        proto = where_has (represents_protocol named) (2 ^ 8) proto.0 (at_most proto.0 p.proto (2 ^ 8) proto.1 known.2)
            (represents named proto.0 (elim (is_in named proto.0) [ inl there ↦ inl there | inr none ↦ inr (below named proto.0 (proto.3 none)) ]));
        sport = cut_there (0 ∷ ports) (2 ^ 16) sport.0 p.sport sport.1 known.3 sport.2;
        dport = cut_there (0 ∷ ports) (2 ^ 16) dport.0 p.dport dport.1 known.4 dport.2;
      },
      record { src = src.3; dst = dst.3; proto = proto.2; sport = sport.3; dport = dport.3 },
      record { src = src.1; dst = dst.1; proto = proto.1; sport = sport.1; dport = dport.1 },
    )
  where
    at_most : (c a n : ℕ) → c ≤ a → a < n → c < n
    at_most c a n low below = omega arith

    cut_there : (cuts : List ℕ) (limit c a : ℕ) → c ≤ a → a < limit → Contains cuts c → Contains (numbers_where (is_among cuts) limit) c
    cut_there cuts limit c a low fits there = where_has (is_among cuts) limit c (at_most c a limit low fits) (among_has cuts c there)

    below : (named : List ℕ) (c : ℕ) → ((d : ℕ) → (Contains named d → ⊥) → c ≤ d) → (d : ℕ) → d < c → Contains named d
    below named c least d less = elim (is_in named d) [ inl there ↦ there | inr none ↦ let high = least d none in absurd (omega arith) ]
