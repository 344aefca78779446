-- The two sides differ at the end of a list at a packet iff the verdict of the rules on the packet there is not the verdict that the policy
-- expects.
use Rattle.std.proofs.Common.{◌≡◌, ◌≢◌, ◌↔◌, inl, inr, Bool, true, false, ◌||◌, IsTrue, List, [], ◌∷◌, ◌++◌, Option, Some, None, length, refl, sym, subst, ap, ◌∙◌, true≢false, arith}
use Rattle.std.proofs.Math.Bool.{beq}
use Rattle.host_net.specs.declared.packet.Packet.{Packet}
use Rattle.host_net.specs.declared.packet.CtState.{CtState}
use Rattle.host_net.specs.declared.packet.CtState.TheVariants.{New, Established}
use Rattle.host_net.specs.Packet.{IsPacket, swap_of}
use Rattle.header_space.specs.declared.packet_box.PacketBox.{PacketBox}
use Rattle.header_space.specs.Boxes.{IsIn, swapped}
use Rattle.header_space.proofs.BoxLaws.{in_swapped}
use Rattle.pkt_core.specs.declared.event.Event.TheVariants.{Seen}
use Rattle.pkt_core.specs.Expected.{Expected}
use Rattle.pkt_core.specs.laws.EventLaws.{WasSeen-now}
use Rattle.pkt_core.specs.laws.ConnectionTableLaws.{begins_behind_seen}
use Rattle.pkt_core.specs.Tracking.{Runs, after_seen, no_connections, state_of}
use Rattle.pkt_core.specs.FlowPolicy.{permits, permits_reply_to}
use Rattle.audit_core.specs.Agreement.{IsWrong}
use Rattle.audit_core.specs.declared.difference.Direction.{Direction}
use Rattle.audit_core.specs.declared.kind.Kind.{Kind}
use Rattle.audit_core.specs.declared.kind.Kind.TheVariants.{Alone, AfterSwap, AfterBoth}
use Rattle.audit_core.specs.declared.list_end.Ends.{Ends}
use Rattle.audit_core.specs.inner.Faults.{expected_at}
use Rattle.audit_core.specs.inner.Pairs.{DiffersBy, DiffersSo, EndsBy, HaveSameEnds, HoldsOf, state_after}
use Rattle.rules_space.specs.Verdicts.{HaveSameVerdicts, GivesOne}
use Rattle.audit_core.specs.inner.Parts.{IsPartOf}
use Rattle.audit_core.specs.laws.FindingLaws.{swaps_known}
use Rattle.audit_core.specs.laws.ListLaws.{differ_more}
use Rattle.audit_core.specs.Lists.{front_of}
use Rattle.audit_core.specs.Pairs.{DiffersAt}
use Rattle.rules_space.specs.Rules.{AnyRules, filter_of}
use Rattle.audit_core.specs.Sides.{Sides}
use Rattle.rules_space.proofs.RulesLaws.{one_verdict}
use Rattle.audit_core.proofs.ShortLaws.{expects_behind, expects_first, kept_established, swap_established}

-- 1. The expectation of the policy.

pub wrong_by : {E : Type 0} (b e : Bool) → b ≢ e → (IsTrue e ↔ E) → IsWrong b E
wrong_by true true other is = absurd (other refl)
wrong_by true false other is = inl (refl, λ x. true≢false (sym (is.1 x)))
wrong_by false true other is = inr (refl, is.0 refl)
wrong_by false false other is = absurd (other refl)

other_by : {E : Type 0} (b e : Bool) → IsWrong b E → (IsTrue e ↔ E) → b ≢ e
other_by b e wrong is same = elim wrong [
  | inl h ↦ h.1 (is.0 (sym same ∙ h.0))
  | inr h ↦ true≢false (sym (is.1 h.1) ∙ sym same ∙ h.0)
]

pub expects : (sides : Sides) (kind : Kind) (p : Packet) → IsTrue (expected_at sides kind p) ↔ Expected (permits sides.policy) (permits_reply_to sides.policy) (front_of kind p) p
expects sides Alone p = expects_first (permits sides.policy) (permits_reply_to sides.policy) p
expects sides AfterSwap p =
    expects_behind (permits sides.policy) (permits_reply_to sides.policy) (Seen (swap_of p) ∷ []) p (WasSeen-now [] (swap_of p) (swap_of p) refl)
expects sides AfterBoth p =
    expects_behind (permits sides.policy) (permits_reply_to sides.policy) (Seen p ∷ Seen (swap_of p) ∷ []) p (WasSeen-now (Seen p ∷ []) (swap_of p) (swap_of p) refl)

-- 2. The verdicts of the rules.

behind_swap_state : (p : Packet) (passed : Bool) → state_of (after_seen no_connections (swap_of p) passed) p ≡ state_after passed
behind_swap_state p true = swap_established (swap_of p)
behind_swap_state p false = refl

one_end : (rules swaps : AnyRules) → GivesOne (filter_of rules) → GivesOne (filter_of swaps) → (kind : Kind) (p : Packet) → IsPacket p → (b c : Bool)
    → EndsBy rules swaps kind p b → EndsBy rules swaps kind p c → b ≡ c
one_end rules swaps gives others Alone p is b c first second = one_verdict rules gives New p is b c first second
one_end rules swaps gives others AfterSwap p is b c first second =
    let same = one_verdict swaps others New (swap_of p) (swaps_known p is) first.0 second.0 first.1 second.1 in
    one_verdict rules gives (state_after second.0) p is b c (subst (λ (x : Bool). filter_of rules (state_after x) p b) same first.2) second.2
one_end rules swaps gives others AfterBoth p is b c first second =
    let own = one_verdict rules gives New p is first.0 second.0 first.1 second.1 in
    let other = one_verdict swaps others New (swap_of p) (swaps_known p is) first.2 second.2 first.3 second.3 in
    one_verdict rules gives (state_after (second.0 || second.2)) p is b c
    (subst (λ (x : Bool). filter_of rules (state_after (second.0 || x)) p b) other
    (subst (λ (x : Bool). filter_of rules (state_after (x || first.2)) p b) own first.4)) second.4

-- 3. The results of a question.

pub same_where : (a b : Bool) → (IsTrue (beq a b) → a ≡ b) × (a ≡ b → IsTrue (beq a b))
same_where true true = ((λ h. refl), (λ e. refl))
same_where false false = ((λ h. refl), (λ e. refl))
same_where true false = ((λ h. absurd (true≢false (sym h))), (λ e. absurd (true≢false e)))
same_where false true = ((λ h. absurd (true≢false (sym h))), (λ e. absurd (true≢false (sym e))))

pub other_where : (a b : Bool) → beq a b ≡ false → a ≢ b
other_where a b not same = true≢false (sym ((same_where a b).1 same) ∙ not)

pub kind_differs_where : (e : Ends) → GivesOne (filter_of e.part.rules) → GivesOne (filter_of e.swaps.rules) → (kind : Kind) (p : Packet) → IsPacket p
    → (passes expected answer : Bool) → EndsBy e.part.rules e.swaps.rules kind p passes → expected_at e.part kind p ≡ expected
    → (IsTrue answer → passes ≢ expected) × (passes ≢ expected → IsTrue answer) → IsTrue answer ↔ ((forwards : Bool) × DiffersBy e kind p forwards)
kind_differs_where e gives others kind p is passes expected answer ends expects by = (
  (λ yes'. (passes, record { ends = ends; other = λ same. by.0 yes' (same ∙ expects) })),
  (λ differs. by.1 (λ same. differs.1.other
      (one_end e.part.rules e.swaps.rules gives others kind p is differs.0 passes differs.1.ends ends ∙ same ∙ sym expects))),
)

pub differs_where : (e : Ends) → GivesOne (filter_of e.part.rules) → GivesOne (filter_of e.swaps.rules) → (kind : Kind) (p : Packet) → IsPacket p
    → (passes expected forwards answer : Bool) → EndsBy e.part.rules e.swaps.rules kind p passes → expected_at e.part kind p ≡ expected
    → expected ≢ forwards → (IsTrue answer → passes ≡ forwards) × (passes ≡ forwards → IsTrue answer) → IsTrue answer ↔ DiffersBy e kind p forwards
differs_where e gives others kind p is passes expected forwards answer ends expects other by = (
  (λ yes'. record {
    ends = subst (λ (b : Bool). EndsBy e.part.rules e.swaps.rules kind p b) (by.0 yes') ends;
    other = λ same. other (sym expects ∙ sym same);
  }),
  (λ differs. by.1 (one_end e.part.rules e.swaps.rules gives others kind p is passes forwards ends differs.ends)),
)

-- 4. With the same rules for packets and for their swaps, a difference at the end of a list is a difference on the list.

module _ (sides : Sides) (gives : GivesOne (filter_of sides.rules)) where
  differ_by : (kind : Kind) (p : Packet) → IsPacket p → (b : Bool) → EndsBy sides.rules sides.rules kind p b → b ≢ expected_at sides kind p
      → DiffersAt sides kind p b
  differ_by Alone p is b ends other =
      differ_more (filter_of sides.rules) (permits sides.policy) (permits_reply_to sides.policy) [] [] tt p b ends (wrong_by b (expected_at sides Alone p) other (expects sides Alone p))
  differ_by AfterSwap p is b ends other =
      differ_more (filter_of sides.rules) (permits sides.policy) (permits_reply_to sides.policy) (front_of AfterSwap p) (Some ends.0 ∷ []) (ends.1, tt) p b
      (subst (λ (s : CtState). filter_of sides.rules s p b) (sym (behind_swap_state p ends.0)) ends.2)
      (wrong_by b (expected_at sides AfterSwap p) other (expects sides AfterSwap p))
  differ_by AfterBoth p is b ends other = by_first ends.0 ends.1 ends.2 ends.3 ends.4
    where
      by_first : (first : Bool) → filter_of sides.rules New p first → (passed : Bool) → filter_of sides.rules New (swap_of p) passed
          → filter_of sides.rules (state_after (first || passed)) p b → DiffersAt sides AfterBoth p b
      by_first true first passed second last =
          let answer = gives Established (swap_of p) (swaps_known p is) in
          differ_more (filter_of sides.rules) (permits sides.policy) (permits_reply_to sides.policy) (front_of AfterBoth p) (Some true ∷ Some answer.0 ∷ [])
          (first, (subst (λ (s : CtState). filter_of sides.rules s (swap_of p) answer.0) (sym (swap_established p)) answer.1, tt)) p b
          (subst (λ (s : CtState). filter_of sides.rules s p b)
          (sym (kept_established (after_seen no_connections p true) p answer.0 (begins_behind_seen no_connections p refl refl))) last)
          (wrong_by b (expected_at sides AfterBoth p) other (expects sides AfterBoth p))
      by_first false first passed second last =
          differ_more (filter_of sides.rules) (permits sides.policy) (permits_reply_to sides.policy) (front_of AfterBoth p) (Some false ∷ Some passed ∷ [])
          (first, (second, tt)) p b
          (subst (λ (s : CtState). filter_of sides.rules s p b) (sym (behind_swap_state p passed)) last)
          (wrong_by b (expected_at sides AfterBoth p) other (expects sides AfterBoth p))

  ends_alone : (p : Packet) (b : Bool) (answers : List (Option Bool)) → length answers ≡ 0
      → Runs (filter_of sides.rules) no_connections (Seen p ∷ []) (answers ++ Some b ∷ []) → EndsBy sides.rules sides.rules Alone p b
  ends_alone p b [] many run = run.0
  ends_alone p b (x ∷ xs) many run = absurd (omega (arith, many))

  ends_behind_swap : (p : Packet) (b : Bool) (answers : List (Option Bool)) → length answers ≡ 1
      → Runs (filter_of sides.rules) no_connections (Seen (swap_of p) ∷ Seen p ∷ []) (answers ++ Some b ∷ []) → EndsBy sides.rules sides.rules AfterSwap p b
  ends_behind_swap p b [] many run = absurd (omega (arith, many))
  ends_behind_swap p b (None ∷ xs) many run = absurd run
  ends_behind_swap p b (Some a ∷ []) many run =
      (a, run.0, subst (λ (s : CtState). filter_of sides.rules s p b) (behind_swap_state p a) run.1.0)
  ends_behind_swap p b (Some a ∷ x ∷ xs) many run = absurd (omega (arith, many))

  ends_behind_both : (p : Packet) → IsPacket p → (b : Bool) (answers : List (Option Bool)) → length answers ≡ 2
      → Runs (filter_of sides.rules) no_connections (Seen p ∷ Seen (swap_of p) ∷ Seen p ∷ []) (answers ++ Some b ∷ [])
      → EndsBy sides.rules sides.rules AfterBoth p b
  ends_behind_both p is b [] many run = absurd (omega (arith, many))
  ends_behind_both p is b (None ∷ xs) many run = absurd run
  ends_behind_both p is b (Some a ∷ []) many run = absurd (omega (arith, many))
  ends_behind_both p is b (Some a ∷ None ∷ xs) many run = absurd run.1
  ends_behind_both p is b (Some true ∷ Some c ∷ []) many run =
      let answer = gives New (swap_of p) (swaps_known p is) in (
        true,
        run.0,
        answer.0,
        answer.1,
        subst (λ (s : CtState). filter_of sides.rules s p b)
            (kept_established (after_seen no_connections p true) p c (begins_behind_seen no_connections p refl refl)) run.1.1.0,
      )
  ends_behind_both p is b (Some false ∷ Some c ∷ []) many run =
      (false, run.0, c, run.1.0, subst (λ (s : CtState). filter_of sides.rules s p b) (behind_swap_state p c) run.1.1.0)
  ends_behind_both p is b (Some a ∷ Some c ∷ x ∷ xs) many run = absurd (omega (arith, many))

  ends_by : (kind : Kind) (p : Packet) → IsPacket p → (b : Bool) → DiffersAt sides kind p b → EndsBy sides.rules sides.rules kind p b
  ends_by Alone p is b differs = ends_alone p b differs.results differs.many differs.run
  ends_by AfterSwap p is b differs = ends_behind_swap p b differs.results differs.many differs.run
  ends_by AfterBoth p is b differs = ends_behind_both p is b differs.results differs.many differs.run

  pub whole_differs : (kind : Kind) (p : Packet) → IsPacket p → (b : Bool) → DiffersBy (record { part = sides; swaps = sides }) kind p b ↔ DiffersAt sides kind p b
  whole_differs kind p is b = (
    (λ d. differ_by kind p is b d.ends d.other),
    (λ d. record { ends = ends_by kind p is b d; other = other_by b (expected_at sides kind p) d.wrong (expects sides kind p) }),
  )

  pub whole_holds : (direction : Option Direction) (p : Packet) → IsPacket p
      → HoldsOf (record { part = sides; swaps = sides }) direction p ↔ DiffersSo sides direction p
  whole_holds None p is = (
    (λ h. (h.0, h.1, (whole_differs h.0 p is h.1).0 h.2)),
    (λ h. (h.0, h.1, (whole_differs h.0 p is h.1).1 h.2)),
  )
  whole_holds (Some direction) p is = whole_differs direction.kind p is direction.forwards

-- 5. Parts of the rules.

ends_in_part : (b : PacketBox) (rules swaps more others : AnyRules) → HaveSameVerdicts b rules more → HaveSameVerdicts (swapped b) swaps others
    → (kind : Kind) (p : Packet) → IsIn b p → (passes : Bool) → EndsBy rules swaps kind p passes ↔ EndsBy more others kind p passes
ends_in_part b rules swaps more others same back Alone p inside passes = same p inside New passes
ends_in_part b rules swaps more others same back AfterSwap p inside passes =
    let other = back (swap_of p) (in_swapped b p inside) New in (
      (λ e. (e.0, (other e.0).0 e.1, (same p inside (state_after e.0) passes).0 e.2)),
      (λ e. (e.0, (other e.0).1 e.1, (same p inside (state_after e.0) passes).1 e.2)),
    )
ends_in_part b rules swaps more others same back AfterBoth p inside passes =
    let other = back (swap_of p) (in_swapped b p inside) New in (
      (λ e. (e.0, (same p inside New e.0).0 e.1, e.2, (other e.2).0 e.3, (same p inside (state_after (e.0 || e.2)) passes).0 e.4)),
      (λ e. (e.0, (same p inside New e.0).1 e.1, e.2, (other e.2).1 e.3, (same p inside (state_after (e.0 || e.2)) passes).1 e.4)),
    )

module _ (b : PacketBox) (e f : Ends) (part : IsPartOf b e.part f.part) (swaps : IsPartOf (swapped b) e.swaps f.swaps) where
  expected_same : (kind : Kind) (p : Packet) → expected_at f.part kind p ≡ expected_at e.part kind p
  expected_same kind p = ap (λ (s : Sides). expected_at s kind p) part.policy

  part_differs : (kind : Kind) (p : Packet) → IsIn b p → (passes : Bool) → DiffersBy f kind p passes ↔ DiffersBy e kind p passes
  part_differs kind p inside passes =
      let same = ends_in_part b e.part.rules e.swaps.rules f.part.rules f.swaps.rules part.verdicts swaps.verdicts kind p inside passes in (
        (λ d. record { ends = same.1 d.ends; other = λ is. d.other (is ∙ sym (expected_same kind p)) }),
        (λ d. record { ends = same.0 d.ends; other = λ is. d.other (is ∙ expected_same kind p) }),
      )

  pub part_holds : HaveSameEnds b e f
  part_holds p inside None = (
    (λ h. (h.0, h.1, (part_differs h.0 p inside h.1).0 h.2)),
    (λ h. (h.0, h.1, (part_differs h.0 p inside h.1).1 h.2)),
  )
  part_holds p inside (Some direction) = part_differs direction.kind p inside direction.forwards
