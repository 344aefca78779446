-- The finding for two sides is unique.
use Rattle.std.proofs.Common.{◌≡◌, ◌⊎◌, inl, inr, ℕ, ◌<◌, ◌≤◌, Bool, true, false, refl, sym, ap, subst, ◌∙◌, arith, true≢false}
use Rattle.std.proofs.lemmas.Bool.{cases_lt}
use Rattle.host_net.specs.declared.packet.Packet.{Packet}
use Rattle.pkt_core.specs.Filter.{ArePackets}
use Rattle.pkt_core.specs.FlowPolicy.{permits, permits_reply_to}
use Rattle.audit_core.specs.declared.kind.Kind.{Kind}
use Rattle.audit_core.specs.declared.kind.Kind.TheVariants.{Alone, AfterSwap, AfterBoth}
use Rattle.audit_core.specs.declared.finding.Finding.{Finding}
use Rattle.audit_core.specs.declared.finding.Finding.TheVariants.{Equal, Differ as Differing}
use Rattle.audit_core.specs.declared.finding.Trace.{Trace}
use Rattle.pkt_core.specs.Expected.{Expected}
use Rattle.audit_core.specs.Agreement.{IsWrong}
use Rattle.audit_core.specs.Cuts.{cuts_between}
use Rattle.audit_core.specs.Findings.{IsFirstClass, IsFirstTrace, events_of, place_of, trace_of}
use Rattle.audit_core.specs.inner.Findings.{IsFinding}
use Rattle.audit_core.specs.laws.FindingLaws.{trace_packets}
use Rattle.audit_core.specs.laws.ListLaws.{agree_not_differ, differ_on}
use Rattle.audit_core.specs.Lists.{front_of, list_of}
use Rattle.header_space.specs.Order.{ComesBefore, comes_first}
use Rattle.audit_core.specs.Places.{IsClassPacket, Representatives, representatives_of}
use Rattle.rules_space.specs.Rules.{filter_of}
use Rattle.audit_core.specs.Sides.{Agree, Sides}

-- 1. Of two packets, one comes before the other, or they are equal.

abbrev Apart : ℕ → ℕ → Type 0 → Type 0 → Type 0 → Type 0
Apart a b L M E = comes_first a b L ⊎ (comes_first b a M ⊎ ((a ≡ b) × E))

by_first : (a b : ℕ) (L M E : Type 0) → L ⊎ (M ⊎ E) → Apart a b L M E
by_first a b L M E later = elim (cases_lt a b) [
  | inl less ↦ inl (inl less)
  | inr more ↦ elim (cases_lt b a) [
    | inl above ↦ inr (inl (inl above))
    | inr equal ↦
        let is : a ≡ b = omega arith in
        elim later [ inl l ↦ inl (inr (is, l)) | inr rest ↦ elim rest [ inl m ↦ inr (inl (inr (sym is, m))) | inr e ↦ inr (inr (is, e)) ] ]
  ]
]

by_last : (a b : ℕ) → (a < b) ⊎ ((b < a) ⊎ (a ≡ b))
by_last a b = elim (cases_lt a b) [
  | inl less ↦ inl less
  | inr more ↦ elim (cases_lt b a) [ inl above ↦ inr (inl above) | inr equal ↦ inr (inr (omega arith)) ]
]

pub ordered : (p q : Packet) → ComesBefore p q ⊎ (ComesBefore q p ⊎ (p ≡ q))
ordered p q =
    elim (by_first p.src q.src _ _ _ (by_first p.dst q.dst _ _ _ (by_first p.proto q.proto _ _ _ (by_first p.sport q.sport _ _ _ (by_last p.dport q.dport))))) [
      | inl before ↦ inl before
      | inr rest ↦ elim rest [
        | inl after ↦ inr (inl after)
        | inr same ↦ inr (inr (λ i. record { src = same.0 i; dst = same.1.0 i; proto = same.1.1.0 i; sport = same.1.1.1.0 i; dport = same.1.1.1.1 i }))
      ]
    ]

-- 2. A wrong verdict is unique.

one_wrong : (b c : Bool) (E : Type 0) → IsWrong b E → IsWrong c E → b ≡ c
one_wrong true true E first second = refl
one_wrong false false E first second = refl
one_wrong true false E (inl first) (inl second) = absurd (true≢false (sym second.0))
one_wrong true false E (inl first) (inr second) = absurd (first.1 second.1)
one_wrong true false E (inr first) second = absurd (true≢false first.0)
one_wrong false true E (inl first) second = absurd (true≢false (sym first.0))
one_wrong false true E (inr first) (inl second) = absurd (second.1 first.1)
one_wrong false true E (inr first) (inr second) = absurd (true≢false second.0)

module _ (sides : Sides) (representatives : Representatives) where
  -- If the two sides differ on a list, they do not agree on it.
  not_agreed : (kind : Kind) (p : Packet) (b : Bool) → IsFirstClass sides representatives kind p b → Agree sides (list_of kind p) → ⊥
  not_agreed kind p b first agree =
      agree_not_differ (filter_of sides.rules) (permits sides.policy) (permits_reply_to sides.policy) (list_of kind p) agree
      (differ_on (filter_of sides.rules) (permits sides.policy) (permits_reply_to sides.policy) (front_of kind p) p b first.differ)

  -- The first packet of one kind, and the verdict of the rules there, are unique.
  one_class : (kind : Kind) (p q : Packet) (b c : Bool) → IsFirstClass sides representatives kind p b → IsFirstClass sides representatives kind q c → (p ≡ q) × (b ≡ c)
  one_class kind p q b c first second = elim (ordered p q) [
    | inl before ↦ absurd (not_agreed kind p b first (second.first p first.is_class before))
    | inr rest ↦ elim rest [
      | inl after ↦ absurd (not_agreed kind q c second (first.first q second.is_class after))
      | inr same ↦ (same, wrong_alike same)
    ]
  ]
    where
      wrong_alike : p ≡ q → b ≡ c
      wrong_alike same = one_wrong b c _ (subst (λ (r : Packet). IsWrong b (Expected (permits sides.policy) (permits_reply_to sides.policy) (front_of kind r) r)) same first.differ.wrong) second.differ.wrong

  -- The kind is also unique.
  one_kind : (k l : Kind) (p q : Packet) (b c : Bool) → IsFirstClass sides representatives k p b → IsFirstClass sides representatives l q c
      → ((m : Kind) → place_of m < place_of k → (r : Packet) → IsClassPacket representatives r → Agree sides (list_of m r))
      → ((m : Kind) → place_of m < place_of l → (r : Packet) → IsClassPacket representatives r → Agree sides (list_of m r)) → k ≡ l
  one_kind k l p q b c first second before_first before_second = by_places (cases_lt (place_of k) (place_of l)) (cases_lt (place_of l) (place_of k))
    where
      same_place : (k l : Kind) → place_of k ≡ place_of l → k ≡ l
      same_place Alone Alone is = refl
      same_place AfterSwap AfterSwap is = refl
      same_place AfterBoth AfterBoth is = refl
      same_place Alone AfterSwap is = absurd (omega (arith, is))
      same_place Alone AfterBoth is = absurd (omega (arith, is))
      same_place AfterSwap Alone is = absurd (omega (arith, is))
      same_place AfterSwap AfterBoth is = absurd (omega (arith, is))
      same_place AfterBoth Alone is = absurd (omega (arith, is))
      same_place AfterBoth AfterSwap is = absurd (omega (arith, is))

      by_places : (place_of k < place_of l) ⊎ (place_of l ≤ place_of k) → (place_of l < place_of k) ⊎ (place_of k ≤ place_of l) → k ≡ l
      by_places (inl less) other = absurd (not_agreed k p b first (before_second k less p first.is_class))
      by_places (inr more) (inl less) = absurd (not_agreed l q c second (before_first l less q second.is_class))
      by_places (inr more) (inr same) = same_place k l (omega arith)

  one_trace : (s t : Trace) → IsFirstTrace sides representatives s → IsFirstTrace sides representatives t → s ≡ t
  one_trace s t first second =
      let kinds = one_kind first.kind second.kind first.packet second.packet s.forwards t.forwards first.first second.first first.earlier second.earlier in
      let same =
      one_class second.kind first.packet second.packet s.forwards t.forwards
      (subst (λ (k : Kind). IsFirstClass sides representatives k first.packet s.forwards) kinds first.first) second.first in
      first.is ∙ (λ i. trace_of (kinds i) (same.0 i) (same.1 i)) ∙ sym second.is

equal_not_differ : (sides : Sides) (t : Trace) → IsFinding sides Equal → IsFinding sides (Differing t) → ⊥
equal_not_differ sides t agree found =
    agree_not_differ (filter_of sides.rules) (permits sides.policy) (permits_reply_to sides.policy) (events_of t)
    (agree (events_of t) (subst (λ (u : Trace). ArePackets (events_of u)) (sym found.is) (trace_packets found.kind found.packet t.forwards found.first.packet)))
    found.differ

-- The finding for two sides is unique.
pub finding_once : (sides : Sides) (f g : Finding) → IsFinding sides f → IsFinding sides g → f ≡ g
finding_once sides Equal Equal first second = refl
finding_once sides Equal (Differing t) first second = absurd (equal_not_differ sides t first second)
finding_once sides (Differing s) Equal first second = absurd (equal_not_differ sides s second first)
finding_once sides (Differing s) (Differing t) first second =
    ap (λ (u : Trace). Differing u) (one_trace sides (representatives_of (cuts_between sides)) s t first second)
