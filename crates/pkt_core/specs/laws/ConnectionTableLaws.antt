-- Lemmas on the connection table after the events of a run.
use Rattle.std.proofs.Common.{◌≡◌, ◌≢◌, ◌⊎◌, inl, inr, Bool, true, false, not, ◌&&◌, ◌||◌, List, [], ◌∷◌, ◌++◌, Some, None, refl, sym, ap, subst, ◌∙◌, true≢false}
use Rattle.std.specs.Prelude.{is_some, if◌then◌else◌, Option}
use Rattle.std.specs.Option.{unwrap_or}
use Rattle.std.proofs.lemmas.Bool.{and_from, and_parts, cases_Bool, not-true, not_from_false, or_cases, or_from, or_left, or_parts, or_right}
use Rattle.host_net.specs.declared.packet.Packet.{Packet}
use Rattle.host_net.specs.declared.packet.CtState.TheVariants.{New, Established}
use Rattle.host_net.specs.Packet.{swap_of}
use Rattle.pkt_core.specs.declared.event.Event.{Event}
use Rattle.pkt_core.specs.declared.event.Event.TheVariants.{Seen, Forget}
use Rattle.pkt_core.specs.Events.{WasSeen}
use Rattle.pkt_core.specs.laws.EventLaws.{WasSeen-behind_forget, WasSeen-behind_seen, WasSeen-kept, WasSeen-none, WasSeen-now, WasSeen-stays}
use Rattle.pkt_core.specs.Tracking.{ConnectionTable, after_forget, after_seen, no_connections, same_packet, state_of}
use Rattle.pkt_core.specs.laws.TrackingLaws.{keys-after_forget, keys-after_seen, not_same_packet, same_packet-is, same_packet-not, same_packet-self}
use Rattle.pkt_core.specs.Firewall.{is_established, may_pass}

-- The table agrees with the events: tracked packets are permitted and were seen, and the connection of each permitted packet that was seen
-- is tracked.
pub record Fits (Known : Packet → Type 0) (permitted : Packet → Bool) (past : List Event) (kept : ConnectionTable) : Type 0 where
  pub allowed : (q : Packet) → is_some (kept q) ≡ true → permitted q ≡ true
  pub was_seen : (q : Packet) → is_some (kept q) ≡ true → WasSeen past q
  pub is_kept : (q : Packet) → WasSeen past q → permitted q ≡ true → (is_some (kept q) || is_some (kept (swap_of q))) ≡ true
  pub known : (q : Packet) → WasSeen past q → Known q

-- An established packet belongs to a tracked connection.
pub established_by : (kept : ConnectionTable) (p : Packet) → is_established (state_of kept p) ≡ true
    → is_some (kept (swap_of p)) ≡ true ⊎ is_some (kept p) ≡ true
established_by kept p h = by_marks (kept (swap_of p)) (kept p) h
  where
    by_marks : (other own : Option Bool) → is_established (if (is_some other || unwrap_or own false) then Established else New) ≡ true
        → (is_some other ≡ true) ⊎ (is_some own ≡ true)
    by_marks (Some m) own h = inl refl
    by_marks None (Some m) h = inr refl
    by_marks None None h = absurd (true≢false (sym h))

pub answer_is_established : (kept : ConnectionTable) (p : Packet) → is_some (kept (swap_of p)) ≡ true → is_established (state_of kept p) ≡ true
answer_is_established kept p h = by_test (is_some (kept (swap_of p))) h
  where
    by_test : (b : Bool) → b ≡ true → is_established (if (b || unwrap_or (kept p) false) then Established else New) ≡ true
    by_test true h = refl
    by_test false h = absurd (true≢false (sym h))

-- A packet that begins a connection is permitted: an answer to a tracked packet begins none.
pub new_permitted : {Known : Packet → Type 0} (permitted stateful : Packet → Bool) (past : List Event) (kept : ConnectionTable)
    → Fits Known permitted past kept → (p : Packet) →
    may_pass permitted stateful (state_of kept p) p ≡ true → is_some (kept (swap_of p)) ≡ false → permitted p ≡ true
new_permitted permitted stateful past kept fits p passes none =
    elim (or_cases (permitted p) (stateful (swap_of p) && is_established (state_of kept p)) passes) [
      | inl h ↦ h
      | inr h ↦ elim (established_by kept p (and_parts (stateful (swap_of p)) (is_established (state_of kept p)) h).1) [
        | inl answers ↦ absurd (true≢false (sym answers ∙ none))
        | inr own ↦ fits.allowed p own
      ]
    ]

-- The packets that a packet event adds to the table, as a disjunction.
pub kept_behind_seen : (kept : ConnectionTable) (p : Packet) (passes : Bool) (q : Packet) → is_some (after_seen kept p passes q) ≡ true →
    (is_some (kept q) ≡ true) ⊎ ((p ≡ q) × (passes ≡ true) × (is_some (kept p) ≡ false) × (is_some (kept (swap_of p)) ≡ false))
kept_behind_seen kept p passes q h =
    elim (or_cases (is_some (kept q)) _ (sym (keys-after_seen kept p passes q) ∙ h)) [
      | inl old ↦ inl old
      | inr new ↦
          let same = and_parts (same_packet p q) _ new in
          let let_pass = and_parts passes _ same.1 in
          let free = and_parts (not (is_some (kept p))) (not (is_some (kept (swap_of p)))) let_pass.1 in
          inr (same_packet-is p q same.0, let_pass.0, not-true (is_some (kept p)) free.0, not-true (is_some (kept (swap_of p))) free.1)
    ]

pub stays_behind_seen : (kept : ConnectionTable) (p : Packet) (passes : Bool) (q : Packet) → is_some (kept q) ≡ true
    → is_some (after_seen kept p passes q) ≡ true
stays_behind_seen kept p passes q h = keys-after_seen kept p passes q ∙ or_left (is_some (kept q)) _ h

pub begins_behind_seen : (kept : ConnectionTable) (p : Packet) → is_some (kept p) ≡ false → is_some (kept (swap_of p)) ≡ false
    → is_some (after_seen kept p true p) ≡ true
begins_behind_seen kept p own other = keys-after_seen kept p true p ∙ or_right (is_some (kept p)) _ (and_from (same_packet p p) _ (same_packet-self p) (and_from (not (is_some (kept p))) _ (ap not own) (ap not other)))

-- The connection of a permitted packet that passes is tracked.
kept_once_seen : (kept : ConnectionTable) (p : Packet) → (is_some (after_seen kept p true p) || is_some (after_seen kept p true (swap_of p))) ≡ true
kept_once_seen kept p =
    elim (cases_Bool (is_some (kept p))) [
      | inl own ↦ or_left _ _ (stays_behind_seen kept p true p own)
      | inr no_own ↦ elim (cases_Bool (is_some (kept (swap_of p)))) [
        | inl other ↦ or_right _ _ (stays_behind_seen kept p true (swap_of p) other)
        | inr no_other ↦ or_left _ _ (begins_behind_seen kept p no_own no_other)
      ]
    ]

pub Fits-seen : {Known : Packet → Type 0} (permitted stateful : Packet → Bool) (past : List Event) (kept : ConnectionTable) (p : Packet) → Known p
    → Fits Known permitted past kept →
    Fits Known permitted (past ++ Seen p ∷ []) (after_seen kept p (may_pass permitted stateful (state_of kept p) p))
Fits-seen {Known} permitted stateful past kept p is_known fits = record {
  allowed = λ q h. elim (kept_behind_seen kept p passes q h) [
    | inl old ↦ fits.allowed q old
    | inr new ↦ ap permitted (sym new.0) ∙ new_permitted permitted stateful past kept fits p new.1 new.3
  ];
  was_seen = λ q h. elim (kept_behind_seen kept p passes q h) [
    | inl old ↦ WasSeen-stays past p q (fits.was_seen q old)
    | inr new ↦ WasSeen-now past p q new.0
  ];
  is_kept = λ q was allowed. elim (WasSeen-behind_seen past p q was) [
    | inl old ↦ stays q (fits.is_kept q old allowed)
    | inr now ↦ subst (λ (r : Packet). (is_some (after_seen kept p passes r) || is_some (after_seen kept p passes (swap_of r))) ≡ true) now (kept_now passes (or_left (permitted p) _ (ap permitted now ∙ allowed)))
  ];
  known = λ q was. elim (WasSeen-behind_seen past p q was) [ inl old ↦ fits.known q old | inr now ↦ subst Known now is_known ];
}
  where
    passes : Bool
    passes = may_pass permitted stateful (state_of kept p) p

    stays : (q : Packet) → (is_some (kept q) || is_some (kept (swap_of q))) ≡ true
        → (is_some (after_seen kept p passes q) || is_some (after_seen kept p passes (swap_of q))) ≡ true
    stays q h = elim (or_cases (is_some (kept q)) (is_some (kept (swap_of q))) h) [
      | inl own ↦ or_left _ _ (stays_behind_seen kept p passes q own)
      | inr other ↦ or_right _ _ (stays_behind_seen kept p passes (swap_of q) other)
    ]

    kept_now : (b : Bool) → b ≡ true → (is_some (after_seen kept p b p) || is_some (after_seen kept p b (swap_of p))) ≡ true
    kept_now true h = kept_once_seen kept p
    kept_now false h = absurd (true≢false (sym h))

-- The table still agrees after a packet that is not permitted and not tracked.
pub Fits-untaken : {Known : Packet → Type 0} (permitted : Packet → Bool) (past : List Event) (kept : ConnectionTable) (p : Packet)
    → permitted p ≡ false → Known p → Fits Known permitted past kept → Fits Known permitted (past ++ Seen p ∷ []) kept
Fits-untaken {Known} permitted past kept p barred is_known fits = record {
  allowed = fits.allowed;
  was_seen = λ q h. WasSeen-stays past p q (fits.was_seen q h);
  is_kept = λ q was allowed. elim (WasSeen-behind_seen past p q was) [
    | inl old ↦ fits.is_kept q old allowed
    | inr now ↦ absurd (true≢false (sym allowed ∙ ap permitted (sym now) ∙ barred))
  ];
  known = λ q was. elim (WasSeen-behind_seen past p q was) [ inl old ↦ fits.known q old | inr now ↦ subst Known now is_known ];
}

pub kept_behind_forget : (kept : ConnectionTable) (p q : Packet) → is_some (after_forget kept p q) ≡ true
    → (is_some (kept q) ≡ true) × (p ≢ q) × (p ≢ swap_of q)
kept_behind_forget kept p q h =
    let parts = and_parts (not (same_packet p q || same_packet p (swap_of q))) (is_some (kept q)) (sym (keys-after_forget kept p q) ∙ h) in
    let none = or_parts (same_packet p q) (same_packet p (swap_of q)) (not-true _ parts.0) in
    (parts.1, not_same_packet p q none.0, not_same_packet p (swap_of q) none.1)

pub stays_behind_forget : (kept : ConnectionTable) (p q : Packet) → is_some (kept q) ≡ true → p ≢ q → p ≢ swap_of q
    → is_some (after_forget kept p q) ≡ true
stays_behind_forget kept p q h apart turned =
    keys-after_forget kept p q ∙ and_from _ _ (not_from_false _ (or_from _ _ (same_packet-not p q apart) (same_packet-not p (swap_of q) turned))) h

pub Fits-forget : {Known : Packet → Type 0} (permitted : Packet → Bool) (past : List Event) (kept : ConnectionTable) (p : Packet)
    → Fits Known permitted past kept →
    Fits Known permitted (past ++ Forget p ∷ []) (after_forget kept p)
Fits-forget permitted past kept p fits = record {
  allowed = λ q h. fits.allowed q (kept_behind_forget kept p q h).0;
  was_seen = λ q h. let old = kept_behind_forget kept p q h in WasSeen-kept past p q (fits.was_seen q old.0) old.1 old.2;
  is_kept = λ q was allowed.
      let old = WasSeen-behind_forget past p q was in
      elim (or_cases (is_some (kept q)) (is_some (kept (swap_of q))) (fits.is_kept q old.0 allowed)) [
        | inl own ↦ or_left _ _ (stays_behind_forget kept p q own old.1 old.2)
        | inr other ↦ or_right _ _ (stays_behind_forget kept p (swap_of q) other old.2 old.1)
      ];
  known = λ q was. fits.known q (WasSeen-behind_forget past p q was).0;
}

pub Fits-start : {Known : Packet → Type 0} (permitted : Packet → Bool) → Fits Known permitted [] no_connections
Fits-start permitted = record {
  allowed = λ q h. absurd (true≢false (sym h));
  was_seen = λ q h. absurd (true≢false (sym h));
  is_kept = λ q was allowed. absurd (WasSeen-none q was);
  known = λ q was. absurd (WasSeen-none q was);
}
