-- Rules that are wrong about a packet differ from the policy at the end of a list. Rules that are right agree with it on the lists.
use Rattle.std.proofs.Common.{◌≡◌, ◌↔◌, inl, inr, ◌<◌, Bool, true, false, ◌&&◌, ◌||◌, IsTrue, List, [], ◌∷◌, ◌++◌, Option, Some, None, refl, sym, ap, subst, ◌∙◌, true≢false, arith}
use Rattle.std.proofs.lemmas.Bool.{or_cases, or_left}
use Rattle.host_net.specs.declared.packet.Packet.{Packet}
use Rattle.host_net.specs.declared.packet.CtState.TheVariants.{New, Established}
use Rattle.host_net.specs.Packet.{IsPacket, swap_of}
use Rattle.flow_set.specs.FlowSet.{IsSubset}
use Rattle.pkt_core.specs.declared.event.Event.{Event}
use Rattle.pkt_core.specs.declared.event.Event.TheVariants.{Seen, Forget}
use Rattle.pkt_core.specs.Expected.{AreExpected, Expected}
use Rattle.pkt_core.specs.Firewall.{Filter}
use Rattle.pkt_core.proofs.FilterLaws.{is_of-within}
use Rattle.pkt_core.specs.Tracking.{ConnectionTable, Runs, after_forget, after_seen, no_connections}
use Rattle.ofp_rules.specs.declared.entry.Entry.{Entry}
use Rattle.pkt_core.specs.FlowPolicy.{permits, permits_reply_to}
use Rattle.audit_core.specs.declared.kind.Kind.{Kind}
use Rattle.audit_core.specs.declared.kind.Kind.TheVariants.{Alone, AfterSwap, AfterBoth}
use Rattle.audit_core.specs.Agreement.{AgreeOn}
use Rattle.audit_core.specs.Findings.{place_of}
use Rattle.audit_core.specs.inner.Faults.{AreRight, Right, Wrong, expected_at}
use Rattle.audit_core.specs.inner.Pairs.{EndsBy, state_after}
use Rattle.audit_core.specs.inner.Sides.{AgreeAlways, AgreeShortly}
use Rattle.audit_core.specs.laws.FindingLaws.{swaps_known}
use Rattle.audit_core.specs.laws.ListLaws.{agree_not_differ, differ_on, expected_more, run_long}
use Rattle.audit_core.specs.Lists.{DifferAfter, front_of, list_of}
use Rattle.audit_core.specs.Pairs.{DiffersAt}
use Rattle.rules_space.specs.Rules.{Entries, AnyRules, filter_of}
use Rattle.audit_core.specs.Sides.{Agree, Sides}
use Rattle.rules_space.specs.Verdicts.{GivesOne}
use Rattle.audit_core.proofs.FaultLaws.{right_where, same_where_not, says_new}
use Rattle.audit_core.proofs.ListEndLaws.{expects, whole_differs, wrong_by}
use Rattle.audit_core.proofs.ShortLaws.{agree_where_judged}

-- 1. One more packet.

module _ (filter : Filter) where
  run_parts : (kept : ConnectionTable) (past : List Event) (p : Packet) (answers : List (Option Bool)) → Runs filter kept (past ++ Seen p ∷ []) answers
      → (front : List (Option Bool)) × (b : Bool) × (answers ≡ front ++ Some b ∷ []) × Runs filter kept past front
  run_parts kept [] p [] run = absurd run
  run_parts kept [] p (None ∷ answers) run = absurd run
  run_parts kept [] p (Some b ∷ []) run = ([], b, refl, tt)
  run_parts kept [] p (Some b ∷ x ∷ xs) run = absurd run.1
  run_parts kept (Seen q ∷ past) p [] run = absurd run
  run_parts kept (Seen q ∷ past) p (None ∷ answers) run = absurd run
  run_parts kept (Seen q ∷ past) p (Some a ∷ answers) run =
      let rest = run_parts (after_seen kept q a) past p answers run.1 in
      (Some a ∷ rest.0, rest.1, ap (λ (xs : List (Option Bool)). Some a ∷ xs) rest.2, (run.0, rest.3))
  run_parts kept (Forget q ∷ past) p [] run = absurd run
  run_parts kept (Forget q ∷ past) p (Some a ∷ answers) run = absurd run
  run_parts kept (Forget q ∷ past) p (None ∷ answers) run =
      let rest = run_parts (after_forget kept q) past p answers run in
      (None ∷ rest.0, rest.1, ap (λ (xs : List (Option Bool)). None ∷ xs) rest.2, rest.3)

  module _ (permitted stateful : Packet → Bool) where
    agree_none : AgreeOn filter permitted stateful []
    agree_none [] run = record { as_many = refl; seen = λ k q there. let no : ⊥ = cc in absurd no; forgotten = λ k q there. cc }
    agree_none (x ∷ xs) run = absurd run

    -- The two sides agree on a list if they agree on it without its last packet, and do not differ at this packet.
    agree_more : (past : List Event) (p : Packet) (e : Bool) → IsTrue e ↔ Expected permitted stateful past p → AgreeOn filter permitted stateful past
        → ((b : Bool) → DifferAfter filter permitted stateful past p b → ⊥) → AgreeOn filter permitted stateful (past ++ Seen p ∷ [])
    agree_more past p e is agree none answers run =
        let parts = run_parts no_connections past p answers run in
        let same : parts.1 ≡ e = same_where_not parts.1 e (λ apart. none parts.1 (record {
          results = parts.0;
          run = subst (λ (xs : List (Option Bool)). Runs filter no_connections (past ++ Seen p ∷ []) xs) parts.2 run;
          many = run_long filter no_connections past parts.0 parts.3;
          wrong = wrong_by parts.1 e apart is;
        })) in
        subst (λ (xs : List (Option Bool)). AreExpected permitted stateful (past ++ Seen p ∷ []) xs) (sym parts.2)
        (expected_more filter permitted stateful past parts.0 p parts.1 (agree parts.0 parts.3)
        (subst (λ (b : Bool). IsTrue b ↔ Expected permitted stateful past p) (sym same) is))

-- 2. Rules that are wrong or right about a packet, and right about all packets for earlier kinds.

abbrev pub AreRightBefore : Sides → Kind → Type 0
AreRightBefore sides kind = (k : Kind) → place_of k < place_of kind → AreRight sides k

none_before : (sides : Sides) → AreRightBefore sides Alone
none_before sides k h = absurd (omega arith)

module _ (sides : Sides) (gives : GivesOne (filter_of sides.rules)) (subset : IsSubset sides.policy.stateful sides.policy.permitted) where
  -- A stateful packet is permitted.
  policy_within : (p : Packet) → IsPacket p → permits_reply_to sides.policy p ≡ true → permits sides.policy p ≡ true
  policy_within p is stateful = is_of-within sides.policy.site sides.policy.stateful sides.policy.permitted p subset stateful

  passes_new : AreRight sides Alone → (p : Packet) → IsPacket p → permits sides.policy p ≡ true → filter_of sides.rules New p true
  passes_new alone p is permitted =
      let one = gives New p is in
      subst (λ (b : Bool). filter_of sides.rules New p b) (alone p is refl one.0 one.1 ∙ or_left (permits sides.policy p) _ permitted) one.1

  -- Rules that are wrong about a packet differ from the policy there.
  pub wrong_differs : (kind : Kind) → (0 < place_of kind → AreRight sides Alone) → (p : Packet) → IsPacket p → (b : Bool) → Wrong sides kind p b
      → DiffersAt sides kind p b
  wrong_differs kind alone p is b wrong = (whole_differs sides gives kind p is b).0 (record { ends = ends kind alone wrong; other = wrong.wrong })
    where
      ends : (kind : Kind) → (0 < place_of kind → AreRight sides Alone) → Wrong sides kind p b → EndsBy sides.rules sides.rules kind p b
      ends Alone alone wrong = wrong.said
      ends AfterSwap alone wrong = (true, passes_new (alone (omega arith)) (swap_of p) (swaps_known p is) wrong.asked, wrong.said)
      ends AfterBoth alone wrong =
          let other = gives New (swap_of p) (swaps_known p is) in
          (true, passes_new (alone (omega arith)) p is wrong.asked, other.0, other.1, wrong.said)

  -- A packet that passes as a new packet is permitted.
  permitted_new : AreRight sides Alone → (p : Packet) → IsPacket p → (b : Bool) → filter_of sides.rules New p b → permits sides.policy p ≡ b
  permitted_new alone p is b said = sym (alone p is refl b said ∙ says_new (permits sides.policy) (permits_reply_to sides.policy) p)

  -- The verdict on a packet after its swap.
  behind : AreRight sides Alone → (p : Packet) → IsPacket p → Right sides AfterSwap p → (passed : Bool) → filter_of sides.rules New (swap_of p) passed
      → (b : Bool) → filter_of sides.rules (state_after passed) p b → b ≡ expected_at sides AfterSwap p
  behind alone p is right true other b said = right (permitted_new alone (swap_of p) (swaps_known p is) true other) b said
  behind alone p is right false other b said =
      alone p is refl b said ∙ (λ i. permits sides.policy p || (none i && false)) ∙ sym (λ i. permits sides.policy p || (none i && true))
    where
      by_test : (c : Bool) → permits_reply_to sides.policy (swap_of p) ≡ c → c ≡ false
      by_test true is_stateful =
          absurd (true≢false (sym (policy_within (swap_of p) (swaps_known p is) is_stateful)
          ∙ permitted_new alone (swap_of p) (swaps_known p is) false other))
      by_test false is_not = refl

      none : permits_reply_to sides.policy (swap_of p) ≡ false
      none = by_test (permits_reply_to sides.policy (swap_of p)) refl

  -- Rules that are right about a packet do not differ from the policy there.
  not_differs : (kind : Kind) → AreRightBefore sides kind → (p : Packet) → IsPacket p → Right sides kind p → (b : Bool) → DiffersAt sides kind p b → ⊥
  not_differs kind before p is right b differs =
      let by = (whole_differs sides gives kind p is b).1 differs in
      by.other (expected kind before right by.ends)
    where
      both_right : AreRightBefore sides AfterBoth → Right sides AfterBoth p → (first : Bool) → filter_of sides.rules New p first
          → (passed : Bool) → filter_of sides.rules New (swap_of p) passed → filter_of sides.rules (state_after (first || passed)) p b
          → b ≡ expected_at sides AfterBoth p
      both_right before right true first passed other said = right (permitted_new (before Alone (omega arith)) p is true first) b said
      both_right before right false first passed other said =
          behind (before Alone (omega arith)) p is (before AfterSwap (omega arith) p is) passed other b said

      expected : (kind : Kind) → AreRightBefore sides kind → Right sides kind p → EndsBy sides.rules sides.rules kind p b → b ≡ expected_at sides kind p
      expected Alone before right ends = right refl b ends
      expected AfterSwap before right ends = behind (before Alone (omega arith)) p is right ends.0 ends.1 b ends.2
      expected AfterBoth before right ends = both_right before right ends.0 ends.1 ends.2 ends.3 ends.4

  agree_at_end : (kind : Kind) → AreRightBefore sides kind → (p : Packet) → IsPacket p → Right sides kind p → Agree sides (front_of kind p)
      → Agree sides (list_of kind p)
  agree_at_end kind before p is right front =
      agree_more (filter_of sides.rules) (permits sides.policy) (permits_reply_to sides.policy) (front_of kind p) p (expected_at sides kind p) (expects sides kind p) front
      (not_differs kind before p is right)

  agree_alone : (p : Packet) → IsPacket p → Right sides Alone p → Agree sides (list_of Alone p)
  agree_alone p is right =
      agree_at_end Alone (none_before sides) p is right (agree_none (filter_of sides.rules) (permits sides.policy) (permits_reply_to sides.policy))

  agree_behind_swap : AreRightBefore sides AfterSwap → (p : Packet) → IsPacket p → Right sides AfterSwap p → Agree sides (list_of AfterSwap p)
  agree_behind_swap before p is right =
      let swaps = swaps_known p is in
      agree_at_end AfterSwap before p is right (agree_alone (swap_of p) swaps (before Alone (omega arith) (swap_of p) swaps))

  -- Rules that are right about a packet agree with the policy on the list.
  pub agree_kind : (kind : Kind) → AreRightBefore sides kind → (p : Packet) → IsPacket p → Right sides kind p → Agree sides (list_of kind p)
  agree_kind Alone before p is right = agree_alone p is right
  agree_kind AfterSwap before p is right = agree_behind_swap before p is right
  agree_kind AfterBoth before p is right =
      let swaps = swaps_known p is in
      agree_at_end AfterBoth before p is right
      (agree_behind_swap (λ k h. before k (omega arith)) (swap_of p) swaps (before AfterSwap (omega arith) (swap_of p) swaps))

  -- Rules that are right about all packets agree with the policy on all lists.
  pub agree_where_right : ((kind : Kind) → AreRight sides kind) → AgreeAlways sides
  agree_where_right right =
      agree_where_judged (filter_of sides.rules) (permits sides.policy) (permits_reply_to sides.policy) IsPacket policy_within (λ p is. record {
        new = right Alone p is refl;
        established = λ some b said. elim (or_cases (permits sides.policy p) (permits sides.policy (swap_of p)) some) [
          | inl own ↦ right AfterBoth p is own b said
          | inr other ↦ right AfterSwap p is other b said
        ];
      })

  -- Rules that do not differ from the policy at the end of the lists of a kind are right about all packets.
  pub right_from : (kind : Kind) → (0 < place_of kind → AreRight sides Alone) → ((p : Packet) → IsPacket p → (b : Bool) → DiffersAt sides kind p b → ⊥)
      → AreRight sides kind
  right_from kind alone none p is = right_where sides kind p (λ fault. none p is fault.0 (wrong_differs kind alone p is fault.0 fault.1))

  right_from_lists : (kind : Kind) → (0 < place_of kind → AreRight sides Alone) → ((p : Packet) → IsPacket p → Agree sides (list_of kind p)) → AreRight sides kind
  right_from_lists kind alone agree = right_from kind alone (λ p is b differs.
      agree_not_differ (filter_of sides.rules) (permits sides.policy) (permits_reply_to sides.policy) (list_of kind p) (agree p is)
      (differ_on (filter_of sides.rules) (permits sides.policy) (permits_reply_to sides.policy) (front_of kind p) p b differs))

  -- 3. The law of short lists.

  pub short_lists_at : ((p : Packet) → IsPacket p → AgreeShortly sides p) → AgreeAlways sides
  short_lists_at agree = agree_where_right right
    where
      alone : AreRight sides Alone
      alone = right_from_lists Alone (λ h. absurd (omega arith)) (λ p is. (agree p is).first)

      right : (kind : Kind) → AreRight sides kind
      right Alone = alone
      right AfterSwap = right_from_lists AfterSwap (λ h. alone) (λ p is. (agree p is).second)
      right AfterBoth = right_from_lists AfterBoth (λ h. alone) (λ p is. (agree p is).third)

-- For a flow table, which is stateless, the first two lists suffice.
pub two_lists_at : (sides : Sides) (entries : List Entry) → sides.rules ≡ Entries entries → GivesOne (filter_of sides.rules)
    → IsSubset sides.policy.stateful sides.policy.permitted
    → ((packet : Packet) → IsPacket packet → Agree sides (list_of Alone packet) × Agree sides (list_of AfterSwap packet)) → AgreeAlways sides
two_lists_at sides entries is_table gives subset agree = agree_where_right sides gives subset right
  where
    alone : AreRight sides Alone
    alone = right_from_lists sides gives subset Alone (λ h. absurd (omega arith)) (λ p is. (agree p is).0)

    new : (p : Packet) (b : Bool) → filter_of sides.rules Established p b → filter_of sides.rules New p b
    new p b = subst (λ (rules : AnyRules). filter_of rules Established p b → filter_of rules New p b) (sym is_table) (λ said. said)

    right : (kind : Kind) → AreRight sides kind
    right Alone = alone
    right AfterSwap = right_from_lists sides gives subset AfterSwap (λ h. alone) (λ p is. (agree p is).1)
    right AfterBoth = λ p is own b said.
        alone p is refl b (new p b said) ∙ or_left (permits sides.policy p) _ own ∙ sym (or_left (permits sides.policy p) _ own)
