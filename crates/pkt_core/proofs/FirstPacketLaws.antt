-- Lemmas on first packets: after each event, the table tracks exactly the permitted first packets.
use Rattle.std.proofs.Common.{◌≡◌, ◌≢◌, ◌⊎◌, inl, inr, ℕ, ◌<◌, ◌≤◌, Bool, true, false, IsTrue, List, [], ◌∷◌, ◌++◌, length, take, Some, sym, ap, subst, ◌∙◌, true≢false, arith}
use Rattle.std.specs.Prelude.{is_some}
use Rattle.std.proofs.lemmas.List.{take-append-le}
use Rattle.std.proofs.Math.Seq.{take-append_seam}
use Rattle.std.proofs.lemmas.Option.{slice_get_within}
use Rattle.std.proofs.lemmas.Bool.{cases_Bool, or_cases, or_left}
use Rattle.host_net.specs.declared.packet.Packet.{Packet}
use Rattle.host_net.specs.Packet.{swap_of}
use Rattle.pkt_core.specs.declared.event.Event.{Event}
use Rattle.pkt_core.specs.declared.event.Event.TheVariants.{Seen, Forget}
use Rattle.pkt_core.specs.Events.{SeenAt, UnforgottenSince, WasSeen}
use Rattle.pkt_core.specs.laws.EventLaws.{get_back, get_before, get_last, seen_behind_forget, unforgotten-behind_forget, unforgotten-forget, unforgotten-seen, unforgotten_back, unforgotten_last}
use Rattle.pkt_core.specs.Tracking.{ConnectionTable, after_forget, after_seen, no_connections, state_of}
use Rattle.pkt_core.specs.Connections.{IsFirstPacket, TracksFirstPackets}
use Rattle.pkt_core.specs.Firewall.{may_pass}
use Rattle.pkt_core.specs.laws.ConnectionTableLaws.{Fits, begins_behind_seen, kept_behind_forget, kept_behind_seen, new_permitted, stays_behind_forget, stays_behind_seen}

-- The events before an index are unchanged by one more event.
past_before : (past : List Event) (e : Event) (k : ℕ) (q : Packet) → SeenAt past k q → take k (past ++ e ∷ []) ≡ take k past
past_before past e k q there = take-append-le k past (e ∷ []) (small k (slice_get_within past k (Seen q) there))
  where
    small : (k : ℕ) → k < length past → k ≤ length past
    small k h = omega arith

-- A first packet, with a name for the events before its index.
first_by : (permitted : Packet → Bool) (past before : List Event) (k : ℕ) (q : Packet) → SeenAt past k q → UnforgottenSince past k q
    → IsTrue (permitted q) → take k past ≡ before →
    (WasSeen before q → ⊥) → (IsTrue (permitted (swap_of q)) → WasSeen before (swap_of q) → ⊥) → IsFirstPacket permitted past k q
first_by permitted past before k q there none allowed is begins answers = record {
  seen = there;
  unforgotten = none;
  allowed = allowed;
  begins = subst (λ (es : List Event). WasSeen es q → ⊥) (sym is) begins;
  answers_none = subst (λ (es : List Event). IsTrue (permitted (swap_of q)) → WasSeen es (swap_of q) → ⊥) (sym is) answers;
}

pub IsFirstPacket-stays : (permitted : Packet → Bool) (past : List Event) (p : Packet) (k : ℕ) (q : Packet)
    → IsFirstPacket permitted past k q → IsFirstPacket permitted (past ++ Seen p ∷ []) k q
IsFirstPacket-stays permitted past p k q first =
    first_by permitted (past ++ Seen p ∷ []) (take k past) k q (get_before past (Seen p ∷ []) k (Seen q) first.seen) (unforgotten-seen past p k q first.unforgotten) first.allowed
    (past_before past (Seen p) k q first.seen) first.begins first.answers_none

IsFirstPacket-now : (permitted : Packet → Bool) (past : List Event) (p q : Packet) → p ≡ q → IsTrue (permitted q) → (WasSeen past q → ⊥)
    → (IsTrue (permitted (swap_of q)) → WasSeen past (swap_of q) → ⊥) →
    IsFirstPacket permitted (past ++ Seen p ∷ []) (length past) q
IsFirstPacket-now permitted past p q is allowed begins answers =
    first_by permitted (past ++ Seen p ∷ []) past (length past) q (get_last past (Seen p) ∙ ap (λ (r : Packet). Some (Seen r)) is) (unforgotten_last past p q) allowed
    (take-append_seam past (Seen p ∷ [])) begins answers

-- A first packet after one more event at index k, where the packet is among the earlier events.
IsFirstPacket-earlier : (permitted : Packet → Bool) (past : List Event) (e : Event) (k : ℕ) (q : Packet) → SeenAt past k q
    → IsFirstPacket permitted (past ++ e ∷ []) k q → IsFirstPacket permitted past k q
IsFirstPacket-earlier permitted past e k q there first =
    first_by permitted past (take k (past ++ e ∷ [])) k q there (unforgotten_back past e k q first.unforgotten) first.allowed (sym (past_before past e k q there)) first.begins first.answers_none

-- A first packet after one more packet event: a first packet before, or the new packet.
unfoldable pub IsNew : (Packet → Bool) → List Event → Packet → ℕ → Packet → Type 0
IsNew permitted past p k q = (k ≡ length past) × (p ≡ q) × IsTrue (permitted q) × (WasSeen past q → ⊥) × (IsTrue (permitted (swap_of q)) → WasSeen past (swap_of q) → ⊥)

pub IsFirstPacket-behind_seen : (permitted : Packet → Bool) (past : List Event) (p : Packet) (k : ℕ) (q : Packet)
    → IsFirstPacket permitted (past ++ Seen p ∷ []) k q → IsFirstPacket permitted past k q ⊎ IsNew permitted past p k q
unfolding IsNew
IsFirstPacket-behind_seen permitted past p k q first =
    elim (get_back past (Seen p) (Seen q) k first.seen) [
      | inl old ↦ inl (IsFirstPacket-earlier permitted past (Seen p) k q old first)
      | inr new ↦
          let whole : take k (past ++ Seen p ∷ []) ≡ past = ap (λ n. take n (past ++ Seen p ∷ [])) new.0 ∙ take-append_seam past (Seen p ∷ []) in
          inr (
            new.0,
            same p q new.1,
            first.allowed,
            subst (λ (es : List Event). WasSeen es q → ⊥) whole first.begins,
            subst (λ (es : List Event). IsTrue (permitted (swap_of q)) → WasSeen es (swap_of q) → ⊥) whole first.answers_none,
          )
    ]
  where
    same : (p q : Packet) → Seen p ≡ Seen q → p ≡ q
    same p q h = cc

pub IsFirstPacket-kept : (permitted : Packet → Bool) (past : List Event) (p : Packet) (k : ℕ) (q : Packet) → p ≢ q → p ≢ swap_of q
    → IsFirstPacket permitted past k q → IsFirstPacket permitted (past ++ Forget p ∷ []) k q
IsFirstPacket-kept permitted past p k q apart turned first =
    first_by permitted (past ++ Forget p ∷ []) (take k past) k q (get_before past (Forget p ∷ []) k (Seen q) first.seen) (unforgotten-forget past p k q first.unforgotten apart turned) first.allowed
    (past_before past (Forget p) k q first.seen) first.begins first.answers_none

pub IsFirstPacket-behind_forget : (permitted : Packet → Bool) (past : List Event) (p : Packet) (k : ℕ) (q : Packet)
    → IsFirstPacket permitted (past ++ Forget p ∷ []) k q → IsFirstPacket permitted past k q × (p ≢ q) × (p ≢ swap_of q)
IsFirstPacket-behind_forget permitted past p k q first =
    let there = seen_behind_forget past p q k first.seen in
    let apart = unforgotten-behind_forget past p k q (slice_get_within past k (Seen q) there) first.unforgotten in
    (IsFirstPacket-earlier permitted past (Forget p) k q there first, apart.0, apart.1)

pub TracksFirstPackets-seen : {Known : Packet → Type 0} (permitted stateful : Packet → Bool) (past : List Event) (kept : ConnectionTable) (p : Packet)
    → Fits Known permitted past kept → TracksFirstPackets permitted past kept →
    TracksFirstPackets permitted (past ++ Seen p ∷ []) (after_seen kept p (may_pass permitted stateful (state_of kept p) p))
unfolding IsNew
TracksFirstPackets-seen {Known} permitted stateful past kept p fits first q = ((λ h. begun q h), (λ h. is_begun q h.0 h.1))
  where
    passes : Bool
    passes = may_pass permitted stateful (state_of kept p) p

    both : List Event
    both = past ++ Seen p ∷ []

    -- If a connection is not tracked, none of its packets was seen and is permitted.
    no_first : (q : Packet) → is_some (kept q) ≡ false → is_some (kept (swap_of q)) ≡ false → permitted q ≡ true → WasSeen past q → ⊥
    no_first q own other allowed was = elim (or_cases (is_some (kept q)) (is_some (kept (swap_of q))) (fits.is_kept q was allowed)) [
      | inl h ↦ true≢false (sym h ∙ own)
      | inr h ↦ true≢false (sym h ∙ other)
    ]

    begun : (q : Packet) → is_some (after_seen kept p passes q) ≡ true → (place : ℕ) × IsFirstPacket permitted both place q
    begun q h = elim (kept_behind_seen kept p passes q h) [
      | inl old ↦ let before = (first q).0 old in (before.0, IsFirstPacket-stays permitted past p before.0 q before.1)
      | inr new ↦
          let own = ap (λ (r : Packet). is_some (kept r)) (sym new.0) ∙ new.2 in
          let other = ap (λ (r : Packet). is_some (kept (swap_of r))) (sym new.0) ∙ new.3 in
          let allowed = ap permitted (sym new.0) ∙ new_permitted permitted stateful past kept fits p new.1 new.3 in
          (length past, IsFirstPacket-now permitted past p q new.0 allowed (no_first q own other allowed) (no_first (swap_of q) other own))
    ]

    is_new : (q : Packet) (k : ℕ) → IsNew permitted past p k q → is_some (after_seen kept p passes q) ≡ true
    is_new q k new =
        elim (cases_Bool (is_some (kept q))) [
          | inl own ↦ absurd (new.3 (fits.was_seen q own))
          | inr own ↦ elim (cases_Bool (is_some (kept (swap_of q)))) [
            | inl other ↦ absurd (new.4 (fits.allowed (swap_of q) other) (fits.was_seen (swap_of q) other))
            | inr other ↦
                subst (λ (r : Packet). is_some (after_seen kept p passes r) ≡ true) new.1
                (subst (λ (b : Bool). is_some (after_seen kept p b p) ≡ true) (sym (or_left (permitted p) _ (ap permitted new.1 ∙ new.2)))
                (begins_behind_seen kept p (ap (λ (r : Packet). is_some (kept r)) new.1 ∙ own) (ap (λ (r : Packet). is_some (kept (swap_of r))) new.1 ∙ other)))
          ]
        ]

    is_begun : (q : Packet) (k : ℕ) → IsFirstPacket permitted both k q → is_some (after_seen kept p passes q) ≡ true
    is_begun q k at_first = elim (IsFirstPacket-behind_seen permitted past p k q at_first) [
      | inl old ↦ stays_behind_seen kept p passes q ((first q).1 (k, old))
      | inr new ↦ is_new q k new
    ]

-- The table still tracks exactly the first packets after a packet that is not permitted and not tracked.
pub TracksFirstPackets-untaken : (permitted : Packet → Bool) (past : List Event) (kept : ConnectionTable) (p : Packet) → permitted p ≡ false
    → TracksFirstPackets permitted past kept → TracksFirstPackets permitted (past ++ Seen p ∷ []) kept
unfolding IsNew
TracksFirstPackets-untaken permitted past kept p barred first q = ((λ h. begun h), (λ h. is_begun h.0 h.1))
  where
    begun : is_some (kept q) ≡ true → (place : ℕ) × IsFirstPacket permitted (past ++ Seen p ∷ []) place q
    begun h = let before = (first q).0 h in (before.0, IsFirstPacket-stays permitted past p before.0 q before.1)

    is_begun : (k : ℕ) → IsFirstPacket permitted (past ++ Seen p ∷ []) k q → is_some (kept q) ≡ true
    is_begun k at_first = elim (IsFirstPacket-behind_seen permitted past p k q at_first) [
      | inl old ↦ (first q).1 (k, old)
      | inr new ↦ absurd (true≢false (sym new.2 ∙ ap permitted (sym new.1) ∙ barred))
    ]

pub TracksFirstPackets-forget : (permitted : Packet → Bool) (past : List Event) (kept : ConnectionTable) (p : Packet) → TracksFirstPackets permitted past kept
    → TracksFirstPackets permitted (past ++ Forget p ∷ []) (after_forget kept p)
TracksFirstPackets-forget permitted past kept p first q = ((λ h. begun q h), (λ h. is_begun q h.0 h.1))
  where
    both : List Event
    both = past ++ Forget p ∷ []

    begun : (q : Packet) → is_some (after_forget kept p q) ≡ true → (place : ℕ) × IsFirstPacket permitted both place q
    begun q h =
        let old = kept_behind_forget kept p q h in
        let before = (first q).0 old.0 in
        (before.0, IsFirstPacket-kept permitted past p before.0 q old.1 old.2 before.1)

    is_begun : (q : Packet) (k : ℕ) → IsFirstPacket permitted both k q → is_some (after_forget kept p q) ≡ true
    is_begun q k at_first =
        let old = IsFirstPacket-behind_forget permitted past p k q at_first in
        stays_behind_forget kept p q ((first q).1 (k, old.0)) old.1 old.2

pub none_at : (k : ℕ) (q : Packet) → SeenAt [] k q → ⊥
none_at k q h = cc

pub TracksFirstPackets-start : (permitted : Packet → Bool) → TracksFirstPackets permitted [] no_connections
TracksFirstPackets-start permitted q = ((λ h. absurd (true≢false (sym h))), (λ h. absurd (none_at h.0 q h.1.seen)))
