-- If fewer packets are ESTABLISHED than the connection table says, only expected packets pass.
use Rattle.std.proofs.Common.{◌≡◌, inl, inr, ℕ, zero, suc, Bool, true, false, not, ◌&&◌, ◌||◌, List, [], ◌∷◌, ◌++◌, take, slice_get, Some, None, refl, sym, ap, subst, ◌∙◌, append_assoc, append-nil, true≢false}
use Rattle.std.specs.Prelude.{is_some, if◌then◌else◌, Option, ⊤}
use Rattle.std.specs.Option.{unwrap_or}
use Rattle.std.proofs.lemmas.Bool.{and_from, and_parts, cases_Bool, or_cases, or_right}
use Rattle.host_net.specs.declared.packet.Packet.{Packet}
use Rattle.host_net.specs.declared.packet.CtState.{CtState}
use Rattle.host_net.specs.declared.packet.CtState.TheVariants.{New, Established}
use Rattle.host_net.specs.Packet.{swap_of}
use Rattle.pkt_core.specs.declared.event.Event.{Event}
use Rattle.pkt_core.specs.declared.event.Event.TheVariants.{Seen, Forget}
use Rattle.pkt_core.specs.Events.{SeenAt}
use Rattle.pkt_core.specs.Expected.{Expected}
use Rattle.pkt_core.proofs.ExpectedLaws.{passes_as_expected}
use Rattle.pkt_core.specs.Firewall.{Filter, is_established, may_pass}
use Rattle.pkt_core.specs.inner.FewerStates.{PassOnlyExpected, RunsWithFewer}
use Rattle.pkt_core.specs.inner.FirewallFor.{AllKnown, IsFirewallFor, StatefulArePermitted}
use Rattle.pkt_core.specs.laws.ConnectionTableLaws.{Fits, Fits-forget, Fits-seen, Fits-start}
use Rattle.pkt_core.specs.Tracking.{ConnectionTable, after_forget, after_seen, no_connections, state_of, with_connection}

-- The table after an established packet does not depend on whether the packet passes.
same_table : (kept : ConnectionTable) (p : Packet) (a b : Bool) → is_established (state_of kept p) ≡ true → after_seen kept p a ≡ after_seen kept p b
same_table kept p a b h = by_marks (kept (swap_of p)) (kept p) h
  where
    stays : (c : Bool) → (if c && false then with_connection kept p (Some false) else kept) ≡ kept
    stays true = refl
    stays false = refl

    by_marks : (other own : Option Bool) → is_established (if (is_some other || unwrap_or own false) then Established else New) ≡ true
        → (if is_some other then with_connection kept (swap_of p) (Some true) else (if a && not (is_some own) then with_connection kept p (Some false) else kept))
        ≡ (if is_some other then with_connection kept (swap_of p) (Some true) else (if b && not (is_some own) then with_connection kept p (Some false) else kept))
    by_marks (Some m) own h = refl
    by_marks None (Some m) h = stays a ∙ sym (stays b)
    by_marks None None h = absurd (true≢false (sym h))

-- So it is the table after the packet in the state of the table.
fewer_table : (permitted stateful : Packet → Bool) (kept : ConnectionTable) (p : Packet) (state : CtState) (passes : Bool)
    → (is_established state ≡ true → is_established (state_of kept p) ≡ true) → passes ≡ may_pass permitted stateful state p
    → after_seen kept p (may_pass permitted stateful (state_of kept p) p) ≡ after_seen kept p passes
fewer_table permitted stateful kept p state passes fewer is = elim (cases_Bool (is_established (state_of kept p))) [
  | inl h ↦ same_table kept p _ passes h
  | inr h ↦ elim (cases_Bool (is_established state)) [
    | inl e ↦ absurd (true≢false (sym (fewer e) ∙ h))
    | inr n ↦ ap (after_seen kept p) (ap (λ (b : Bool). permitted p || (stateful (swap_of p) && b)) (h ∙ sym n) ∙ sym is)
  ]
]

fewer_expected : {Known : Packet → Type 0} (permitted stateful : Packet → Bool) → StatefulArePermitted Known permitted stateful → (past : List Event) (kept : ConnectionTable)
    → Fits Known permitted past kept → (p : Packet) (state : CtState) → (is_established state ≡ true → is_established (state_of kept p) ≡ true)
    → may_pass permitted stateful state p ≡ true → Expected permitted stateful past p
fewer_expected permitted stateful policy past kept fits p state fewer passes = elim (or_cases (permitted p) (stateful (swap_of p) && is_established state) passes) [
  | inl allowed ↦ inl allowed
  | inr answers ↦
      let parts = and_parts (stateful (swap_of p)) (is_established state) answers in
      (passes_as_expected permitted stateful policy past kept fits p).0 (or_right (permitted p) _ (and_from (stateful (swap_of p)) _ parts.0 (fewer parts.1)))
]

module _ (filter : Filter) (Known : Packet → Type 0) (permitted stateful : Packet → Bool) (firewall : IsFirewallFor filter Known permitted stateful) where
  -- Only packets that are expected after these events pass.
  abbrev OnlyExpectedBehind : List Event → List Event → List (Option Bool) → Type 0
  OnlyExpectedBehind past events answers =
      (k : ℕ) (p : Packet) → SeenAt events k p → slice_get answers k ≡ Some (Some true) → Expected permitted stateful (past ++ take k events) p

  fewer_behind : (past : List Event) (kept : ConnectionTable) → Fits Known permitted past kept → (events : List Event) → AllKnown Known events
      → (answers : List (Option Bool)) → RunsWithFewer filter kept events answers → OnlyExpectedBehind past events answers
  fewer_behind past kept fits [] known answers run k p there passed = cc
  fewer_behind past kept fits (Seen q ∷ events) known [] run k p there passed = absurd run
  fewer_behind past kept fits (Seen q ∷ events) known (None ∷ answers) run k p there passed = absurd run
  fewer_behind past kept fits (Seen q ∷ events) known (Some passes ∷ answers) run zero p there passed =
      let is : passes ≡ may_pass permitted stateful run.0.state q = firewall.only run.0.state q passes (known zero q refl) run.0.verdict in
      subst (λ (es : List Event). Expected permitted stateful es p) (sym (append-nil past))
      (subst (λ (r : Packet). Expected permitted stateful past r) (same q p there)
      (fewer_expected permitted stateful firewall.policy past kept fits q run.0.state run.0.fewer (sym is ∙ so passes passed)))
    where
      same : (q p : Packet) → Some (Seen q) ≡ Some (Seen p) → q ≡ p
      same q p h = cc

      so : (b : Bool) → Some (Some b) ≡ Some (Some true) → b ≡ true
      so b h = cc
  fewer_behind past kept fits (Seen q ∷ events) known (Some passes ∷ answers) run (suc k) p there passed =
      let is : passes ≡ may_pass permitted stateful run.0.state q = firewall.only run.0.state q passes (known zero q refl) run.0.verdict in
      subst (λ (es : List Event). Expected permitted stateful es p) (append_assoc past (Seen q ∷ []) (take k events))
      (fewer_behind (past ++ Seen q ∷ []) (after_seen kept q passes)
      (subst (λ (table : ConnectionTable). Fits Known permitted (past ++ Seen q ∷ []) table) (fewer_table permitted stateful kept q run.0.state passes run.0.fewer is)
      (Fits-seen permitted stateful past kept q (known zero q refl) fits)) events (λ j r at. known (suc j) r at) answers run.1 k p there passed)
  fewer_behind past kept fits (Forget q ∷ events) known [] run k p there passed = absurd run
  fewer_behind past kept fits (Forget q ∷ events) known (Some passes ∷ answers) run k p there passed = absurd run
  fewer_behind past kept fits (Forget q ∷ events) known (None ∷ answers) run zero p there passed = cc
  fewer_behind past kept fits (Forget q ∷ events) known (None ∷ answers) run (suc k) p there passed =
      subst (λ (es : List Event). Expected permitted stateful es p) (append_assoc past (Forget q ∷ []) (take k events))
      (fewer_behind (past ++ Forget q ∷ []) (after_forget kept q) (Fits-forget permitted past kept q fits) events (λ j r at. known (suc j) r at) answers run k p there passed)

  pub fewer_only_expected : (events : List Event) → AllKnown Known events → (answers : List (Option Bool)) → RunsWithFewer filter no_connections events answers
      → PassOnlyExpected permitted stateful events answers
  fewer_only_expected events known answers run = fewer_behind [] no_connections (Fits-start permitted) events known answers run

-- The same for the verdicts of a policy.
pub policy_fewer : (permitted stateful : Packet → Bool) → StatefulArePermitted (λ p. ⊤) permitted stateful → (events : List Event) (answers : List (Option Bool))
    → RunsWithFewer (λ state p passes. passes ≡ may_pass permitted stateful state p) no_connections events answers → PassOnlyExpected permitted stateful events answers
policy_fewer permitted stateful policy events answers run =
    fewer_only_expected _ (λ p. ⊤) permitted stateful (record { given = λ state p known. refl; only = λ state p passes known h. h; policy = policy }) events (λ k p there. tt) answers run
