-- Lemmas on a list of events with one more packet at its end.
use Rattle.std.proofs.Common.{◌≡◌, ◌↔◌, inl, inr, ℕ, suc, ◌+◌, ◌<◌, ◌≤◌, Bool, IsTrue, List, [], ◌∷◌, ◌++◌, Option, Some, None, length, take, slice_get, refl, sym, ap, subst, ◌∙◌, arith, true≢false, length-append}
use Rattle.std.proofs.lemmas.List.{take-append-le}
use Rattle.std.proofs.Math.Seq.{take-append_seam}
use Rattle.std.proofs.lemmas.Option.{slice_get_within}
use Rattle.host_net.specs.declared.packet.Packet.{Packet}
use Rattle.pkt_core.specs.declared.event.Event.{Event}
use Rattle.pkt_core.specs.declared.event.Event.TheVariants.{Seen, Forget}
use Rattle.pkt_core.specs.laws.EventLaws.{get_back, get_before, get_last}
use Rattle.pkt_core.specs.Expected.{AreExpected, Expected}
use Rattle.pkt_core.specs.Firewall.{Filter}
use Rattle.pkt_core.specs.inner.ConnectionTable.{kept_after}
use Rattle.pkt_core.specs.Tracking.{ConnectionTable, Runs, after_forget, after_seen, no_connections, state_of}
use Rattle.audit_core.specs.Agreement.{AgreeOn, DifferOn, IsWrong}
use Rattle.audit_core.specs.Lists.{DifferAfter}

module _ (filter : Filter) where
  pub run_more : (kept : ConnectionTable) (past : List Event) (results : List (Option Bool)) → Runs filter kept past results → (p : Packet) (b : Bool) → filter (state_of (kept_after kept past results) p) p b →
      Runs filter kept (past ++ Seen p ∷ []) (results ++ Some b ∷ [])
  run_more kept [] [] run p b h = (h, tt)
  run_more kept [] (x ∷ xs) run p b h = absurd run
  run_more kept (Seen q ∷ past) [] run p b h = absurd run
  run_more kept (Forget q ∷ past) [] run p b h = absurd run
  run_more kept (Seen q ∷ past) (None ∷ xs) run p b h = absurd run
  run_more kept (Seen q ∷ past) (Some a ∷ xs) run p b h = (run.0, run_more (after_seen kept q a) past xs run.1 p b h)
  run_more kept (Forget q ∷ past) (Some a ∷ xs) run p b h = absurd run
  run_more kept (Forget q ∷ past) (None ∷ xs) run p b h = run_more (after_forget kept q) past xs run p b h

  pub run_long : (kept : ConnectionTable) (past : List Event) (results : List (Option Bool)) → Runs filter kept past results → length results ≡ length past
  run_long kept [] [] run = refl
  run_long kept [] (x ∷ xs) run = absurd run
  run_long kept (Seen q ∷ past) [] run = absurd run
  run_long kept (Forget q ∷ past) [] run = absurd run
  run_long kept (Seen q ∷ past) (None ∷ xs) run = absurd run
  run_long kept (Seen q ∷ past) (Some a ∷ xs) run = ap suc (run_long (after_seen kept q a) past xs run.1)
  run_long kept (Forget q ∷ past) (Some a ∷ xs) run = absurd run
  run_long kept (Forget q ∷ past) (None ∷ xs) run = ap suc (run_long (after_forget kept q) past xs run)

  module _ (permitted stateful : Packet → Bool) where
    pub expected_more : (past : List Event) (results : List (Option Bool)) (p : Packet) (b : Bool) → AreExpected permitted stateful past results → (IsTrue b ↔ Expected permitted stateful past p) →
        AreExpected permitted stateful (past ++ Seen p ∷ []) (results ++ Some b ∷ [])
    expected_more past results p b old is = record {
      as_many = length-append results (Some b ∷ []) ∙ ap (λ (n : ℕ). n + 1) old.as_many ∙ sym (length-append past (Seen p ∷ []));
      seen = λ k q there. elim (get_back past (Seen p) (Seen q) k there) [
        | inl h ↦
            let at = old.seen k q h in (
              at.0,
              get_before results (Some b ∷ []) k (Some at.0) at.1,
              subst (λ (es : List Event). IsTrue at.0 ↔ Expected permitted stateful es q) (sym (take-append-le k past (Seen p ∷ []) (small k (slice_get_within past k (Seen q) h)))) at.2,
            )
        | inr h ↦ (
          b,
          ap (slice_get (results ++ Some b ∷ [])) (h.0 ∙ sym old.as_many) ∙ get_last results (Some b),
          subst (λ (r : Packet). IsTrue b ↔ Expected permitted stateful (take k (past ++ Seen p ∷ [])) r) (same p q h.1)
              (subst (λ (es : List Event). IsTrue b ↔ Expected permitted stateful es p) (sym (ap (λ (n : ℕ). take n (past ++ Seen p ∷ [])) h.0 ∙ take-append_seam past (Seen p ∷ []))) is),
        )
      ];
      forgotten = λ k q there. elim (get_back past (Seen p) (Forget q) k there) [
        | inl h ↦ get_before results (Some b ∷ []) k None (old.forgotten k q h)
        | inr h ↦ absurd (apart p q h.1)
      ];
    }
      where
        small : (k : ℕ) → k < length past → k ≤ length past
        small k h = omega arith

        same : (p q : Packet) → Seen p ≡ Seen q → p ≡ q
        same p q h = cc

        apart : (p q : Packet) → Seen p ≡ Forget q → ⊥
        apart p q h = cc

    -- The filter and the policy differ on one more packet whose result is not the expected result.
    pub differ_more : (past : List Event) (results : List (Option Bool)) → Runs filter no_connections past results → (p : Packet) (b : Bool)
        → filter (state_of (kept_after no_connections past results) p) p b → IsWrong b (Expected permitted stateful past p)
        → DifferAfter filter permitted stateful past p b
    differ_more past results run p b h wrong = record {
      results = results;
      run = run_more no_connections past results run p b h;
      many = run_long no_connections past results run;
      wrong = wrong;
    }

    -- A difference at the end of a list is a difference on the list with the packet.
    pub differ_on : (past : List Event) (p : Packet) (b : Bool) → DifferAfter filter permitted stateful past p b → DifferOn filter permitted stateful (past ++ Seen p ∷ [])
    differ_on past p b behind = record {
      results = behind.results ++ Some b ∷ [];
      run = behind.run;
      place = length past;
      packet = p;
      seen = get_last past (Seen p);
      passes = b;
      answer = ap (slice_get (behind.results ++ Some b ∷ [])) (sym behind.many) ∙ get_last behind.results (Some b);
      wrong = subst (λ (es : List Event). IsWrong b (Expected permitted stateful es p)) (sym (take-append_seam past (Seen p ∷ []))) behind.wrong;
    }

    -- Agreement on a list excludes a difference on it.
    pub agree_not_differ : (events : List Event) → AgreeOn filter permitted stateful events → DifferOn filter permitted stateful events → ⊥
    agree_not_differ events agree differ =
        let at = (agree differ.results differ.run).seen differ.place differ.packet differ.seen in
        let same : at.0 ≡ differ.passes = only at.0 differ.passes (sym at.1 ∙ differ.answer) in
        let is = subst (λ (b : Bool). IsTrue b ↔ Expected permitted stateful (take differ.place events) differ.packet) same at.2 in
        elim differ.wrong [ inl h ↦ h.1 (is.0 h.0) | inr h ↦ true≢false (sym (is.1 h.1) ∙ h.0) ]
      where
        only : (b c : Bool) → Some (Some b) ≡ Some (Some c) → b ≡ c
        only b c h = cc
