-- Lemmas on connections: the table marks a first packet as answered if its reverse was seen after it.
use Rattle.std.proofs.Common.{◌≡◌, ◌≢◌, ◌⊎◌, inl, inr, ℕ, zero, suc, ◌<◌, Bool, true, false, not, ◌&&◌, List, [], ◌∷◌, ◌++◌, length, Some, None, refl, sym, ap, subst, ◌∙◌, append_assoc, append-nil, true≢false, arith}
use Rattle.std.specs.Prelude.{is_some, if◌then◌else◌, Option, ⊤}
use Rattle.std.proofs.lemmas.Option.{slice_get_within}
use Rattle.host_net.specs.declared.packet.Packet.{Packet}
use Rattle.host_net.specs.Packet.{swap_of}
use Rattle.pkt_core.specs.declared.event.Event.{Event}
use Rattle.pkt_core.specs.declared.event.Event.TheVariants.{Seen, Forget}
use Rattle.pkt_core.specs.Events.{SeenAt}
use Rattle.pkt_core.specs.laws.EventLaws.{get_back, get_before, get_last, seen_behind_forget}
use Rattle.pkt_core.specs.Tracking.{ConnectionTable, Runs, after_forget, after_seen, no_connections, same_packet, state_of, with_connection}
use Rattle.pkt_core.specs.inner.ConnectionTable.{kept_after}
use Rattle.pkt_core.specs.laws.TrackingLaws.{same_packet-is, same_packet-not, same_packet-self, same_packet-swap}
use Rattle.pkt_core.specs.Connections.{IsFirstPacket}
use Rattle.pkt_core.specs.inner.Connections.{TracksConnections, WasAnswered}
use Rattle.pkt_core.specs.Firewall.{Filter, may_pass}
use Rattle.pkt_core.specs.inner.FirewallFor.{AllKnown, IsFirewallFor, StatefulArePermitted}
use Rattle.pkt_core.specs.inner.PolicyRuns.{TracksAsExpected}
use Rattle.pkt_core.proofs.ExpectedLaws.{runs_as_expected, some_run}
use Rattle.pkt_core.specs.laws.ConnectionTableLaws.{Fits, Fits-forget, Fits-seen, Fits-start, kept_behind_forget}
use Rattle.pkt_core.proofs.FirstPacketLaws.{IsFirstPacket-stays, IsNew, IsFirstPacket-behind_seen, IsFirstPacket-kept, IsFirstPacket-behind_forget, none_at, TracksFirstPackets-seen, TracksFirstPackets-forget, TracksFirstPackets-start}

some_true : (o : Option Bool) → o ≡ Some true → is_some o ≡ true
some_true o h = ap is_some h

-- The marks after a packet.
marked_behind_seen : (kept : ConnectionTable) (p : Packet) (passes : Bool) (q : Packet) → after_seen kept p passes q ≡ Some true → (kept q ≡ Some true) ⊎ ((p ≡ swap_of q) × (is_some (kept q) ≡ true))
marked_behind_seen kept p passes q = by_tests (kept (swap_of p)) (passes && not (is_some (kept p))) refl
  where
    marks : (b : Bool) → same_packet (swap_of p) q ≡ b → is_some (kept (swap_of p)) ≡ true → (if b then Some true else kept q) ≡ Some true → (kept q ≡ Some true) ⊎ ((p ≡ swap_of q) × (is_some (kept q) ≡ true))
    marks true is there h = let same = same_packet-is (swap_of p) q is in inr (ap swap_of same, ap (λ (r : Packet). is_some (kept r)) (sym same) ∙ there)
    marks false is there h = inl h

    begins : (b : Bool) → (if b then Some false else kept q) ≡ Some true → kept q ≡ Some true
    begins true h = cc
    begins false h = h

    by_tests : (other : Option Bool) (new : Bool) → kept (swap_of p) ≡ other →
        (if is_some other then with_connection kept (swap_of p) (Some true) else (if new then with_connection kept p (Some false) else kept)) q ≡ Some true → (kept q ≡ Some true) ⊎ ((p ≡ swap_of q) × (is_some (kept q) ≡ true))
    by_tests (Some m) new is h = marks (same_packet (swap_of p) q) refl (ap is_some is) h
    by_tests None true is h = inl (begins (same_packet p q) h)
    by_tests None false is h = inl h

mark_stays : (kept : ConnectionTable) (p : Packet) (passes : Bool) (q : Packet) → kept q ≡ Some true → after_seen kept p passes q ≡ Some true
mark_stays kept p passes q h = by_tests (kept (swap_of p)) (kept p) passes refl
  where
    set : (b : Bool) → (if b then Some true else kept q) ≡ Some true
    set true = refl
    set false = h

    other_key : (b : Bool) → same_packet p q ≡ b → kept p ≡ None → (if b then Some false else kept q) ≡ Some true
    other_key true is none = absurd (apart none (ap kept (same_packet-is p q is) ∙ h))
      where
        apart : kept p ≡ None → kept p ≡ Some true → ⊥
        apart a b = cc
    other_key false is none = h

    by_tests : (other own : Option Bool) (a : Bool) → kept p ≡ own →
        (if is_some other then with_connection kept (swap_of p) (Some true) else (if a && not (is_some own) then with_connection kept p (Some false) else kept)) q ≡ Some true
    by_tests (Some m) own a is = set (same_packet (swap_of p) q)
    by_tests None None true is = other_key (same_packet p q) refl is
    by_tests None (Some m) true is = h
    by_tests None own false is = h

mark_now : (kept : ConnectionTable) (p : Packet) (passes : Bool) (q : Packet) → p ≡ swap_of q → is_some (kept q) ≡ true → after_seen kept p passes q ≡ Some true
mark_now kept p passes q is there = by_test (is_some (kept (swap_of p))) (ap (λ (r : Packet). is_some (kept (swap_of r))) is ∙ there)
  where
    own : (b : Bool) → b ≡ true → (if b then Some true else kept q) ≡ Some true
    own true h = refl
    own false h = absurd (true≢false (sym h))

    by_test : (b : Bool) → b ≡ true → (if b then with_connection kept (swap_of p) (Some true) else (if passes && not (is_some (kept p)) then with_connection kept p (Some false) else kept)) q ≡ Some true
    by_test true h = own (same_packet (swap_of p) q) (ap (λ (r : Packet). same_packet (swap_of r) q) is ∙ same_packet-self q)
    by_test false h = absurd (true≢false (sym h))

marked_behind_forget : (kept : ConnectionTable) (p q : Packet) → after_forget kept p q ≡ Some true → kept q ≡ Some true
marked_behind_forget kept p q h = by_tests (same_packet (swap_of p) q) (same_packet p q) h
  where
    by_tests : (turned same : Bool) → (if turned then None else (if same then None else kept q)) ≡ Some true → kept q ≡ Some true
    by_tests true same h = cc
    by_tests false true h = cc
    by_tests false false h = h

mark_kept : (kept : ConnectionTable) (p q : Packet) → p ≢ q → p ≢ swap_of q → kept q ≡ Some true → after_forget kept p q ≡ Some true
mark_kept kept p q apart turned h = by_tests (same_packet (swap_of p) q) (same_packet p q) (same_packet-swap p q ∙ same_packet-not p (swap_of q) turned) (same_packet-not p q apart)
  where
    by_tests : (b a : Bool) → b ≡ false → a ≡ false → (if b then None else (if a then None else kept q)) ≡ Some true
    by_tests true a x y = absurd (true≢false x)
    by_tests false true x y = absurd (true≢false y)
    by_tests false false x y = h

TracksConnections-seen : {Known : Packet → Type 0} (permitted stateful : Packet → Bool) (past : List Event) (kept : ConnectionTable) (p : Packet) → Fits Known permitted past kept → TracksConnections permitted past kept →
    TracksConnections permitted (past ++ Seen p ∷ []) (after_seen kept p (may_pass permitted stateful (state_of kept p) p))
unfolding IsNew
TracksConnections-seen {Known} permitted stateful past kept p fits keeps = record {
  first = TracksFirstPackets-seen permitted stateful past kept p fits keeps.first;
  answered = λ q. ((λ h. marked q h), (λ h. is_marked q h.0 h.1 h.2.0 h.2.1 h.2.2));
}
  where
    passes : Bool
    passes = may_pass permitted stateful (state_of kept p) p

    both : List Event
    both = past ++ Seen p ∷ []

    marked : (q : Packet) → after_seen kept p passes q ≡ Some true → WasAnswered permitted both q
    marked q h = elim (marked_behind_seen kept p passes q h) [
      | inl old ↦
          let before = (keeps.answered q).0 old in
          (before.0, IsFirstPacket-stays permitted past p before.0 q before.1, (before.2.0, before.2.1, get_before past (Seen p ∷ []) before.2.0 (Seen (swap_of q)) before.2.2))
      | inr now ↦
          let before = (keeps.first q).0 now.1 in (
            before.0,
            IsFirstPacket-stays permitted past p before.0 q before.1,
            (length past, slice_get_within past before.0 (Seen q) before.1.seen, get_last past (Seen p) ∙ ap (λ (r : Packet). Some (Seen r)) now.0),
          )
    ]

    none_later : (q : Packet) (k later : ℕ) → k ≡ length past → k < later → SeenAt both later (swap_of q) → ⊥
    none_later q k later is behind there = elim (get_back past (Seen p) (Seen (swap_of q)) later there) [
      | inl h ↦ within (slice_get_within past later (Seen (swap_of q)) h)
      | inr h ↦ last h.0
    ]
      where
        within : later < length past → ⊥
        within h = omega arith

        last : later ≡ length past → ⊥
        last h = omega arith

    is_marked : (q : Packet) (k : ℕ) → IsFirstPacket permitted both k q → (later : ℕ) → k < later → SeenAt both later (swap_of q) → after_seen kept p passes q ≡ Some true
    is_marked q k first later behind there = elim (IsFirstPacket-behind_seen permitted past p k q first) [
      | inl old ↦ elim (get_back past (Seen p) (Seen (swap_of q)) later there) [
        | inl h ↦ mark_stays kept p passes q ((keeps.answered q).1 (k, old, (later, behind, h)))
        | inr h ↦ mark_now kept p passes q (same p (swap_of q) h.1) ((keeps.first q).1 (k, old))
      ]
      | inr new ↦ absurd (none_later q k later new.0 behind there)
    ]
      where
        same : (p q : Packet) → Seen p ≡ Seen q → p ≡ q
        same p q h = cc

TracksConnections-forget : (permitted : Packet → Bool) (past : List Event) (kept : ConnectionTable) (p : Packet) → TracksConnections permitted past kept → TracksConnections permitted (past ++ Forget p ∷ []) (after_forget kept p)
TracksConnections-forget permitted past kept p keeps = record {
  first = TracksFirstPackets-forget permitted past kept p keeps.first;
  answered = λ q. ((λ h. marked q h), (λ h. is_marked q h.0 h.1 h.2.0 h.2.1 h.2.2));
}
  where
    both : List Event
    both = past ++ Forget p ∷ []

    marked : (q : Packet) → after_forget kept p q ≡ Some true → WasAnswered permitted both q
    marked q h =
        let apart = kept_behind_forget kept p q (some_true (after_forget kept p q) h) in
        let before = (keeps.answered q).0 (marked_behind_forget kept p q h) in
        (before.0, IsFirstPacket-kept permitted past p before.0 q apart.1 apart.2 before.1, (before.2.0, before.2.1, get_before past (Forget p ∷ []) before.2.0 (Seen (swap_of q)) before.2.2))

    is_marked : (q : Packet) (k : ℕ) → IsFirstPacket permitted both k q → (later : ℕ) → k < later → SeenAt both later (swap_of q) → after_forget kept p q ≡ Some true
    is_marked q k first later behind there =
        let old = IsFirstPacket-behind_forget permitted past p k q first in
        mark_kept kept p q old.1 old.2 ((keeps.answered q).1 (k, old.0, (later, behind, seen_behind_forget past p (swap_of q) later there)))

TracksConnections-start : (permitted : Packet → Bool) → TracksConnections permitted [] no_connections
TracksConnections-start permitted = record {
  first = TracksFirstPackets-start permitted;
  answered = λ q. ((λ h. absurd (unmarked h)), (λ h. absurd (none_at h.0 q h.1.seen)));
}
  where
    unmarked : None ≡ Some true → ⊥
    unmarked h = cc

-- After every run from the empty table, the table has exactly the connections.
connections_behind : (filter : Filter) (Known : Packet → Type 0) (permitted stateful : Packet → Bool) → IsFirewallFor filter Known permitted stateful →
    (past : List Event) (kept : ConnectionTable) → Fits Known permitted past kept → TracksConnections permitted past kept → (events : List Event) → AllKnown Known events → (answers : List (Option Bool)) → Runs filter kept events answers →
    TracksConnections permitted (past ++ events) (kept_after kept events answers)
connections_behind filter Known permitted stateful firewall past kept fits keeps [] known [] run = subst (λ (es : List Event). TracksConnections permitted es kept) (sym (append-nil past)) keeps
connections_behind filter Known permitted stateful firewall past kept fits keeps [] known (answer ∷ answers) run = absurd run
connections_behind filter Known permitted stateful firewall past kept fits keeps (Seen p ∷ events) known [] run = absurd run
connections_behind filter Known permitted stateful firewall past kept fits keeps (Forget p ∷ events) known [] run = absurd run
connections_behind filter Known permitted stateful firewall past kept fits keeps (Seen p ∷ events) known (None ∷ answers) run = absurd run
connections_behind filter Known permitted stateful firewall past kept fits keeps (Seen p ∷ events) known (Some passes ∷ answers) run =
    let is : passes ≡ may_pass permitted stateful (state_of kept p) p = firewall.only (state_of kept p) p passes (known zero p refl) run.0 in
    subst (λ (es : List Event). TracksConnections permitted es (kept_after (after_seen kept p passes) events answers)) (append_assoc past (Seen p ∷ []) events)
    (connections_behind filter Known permitted stateful firewall (past ++ Seen p ∷ []) (after_seen kept p passes)
    (subst (λ (b : Bool). Fits Known permitted (past ++ Seen p ∷ []) (after_seen kept p b)) (sym is) (Fits-seen permitted stateful past kept p (known zero p refl) fits))
    (subst (λ (b : Bool). TracksConnections permitted (past ++ Seen p ∷ []) (after_seen kept p b)) (sym is) (TracksConnections-seen permitted stateful past kept p fits keeps))
    events (λ k q there. known (suc k) q there) answers run.1)
connections_behind filter Known permitted stateful firewall past kept fits keeps (Forget p ∷ events) known (Some passes ∷ answers) run = absurd run
connections_behind filter Known permitted stateful firewall past kept fits keeps (Forget p ∷ events) known (None ∷ answers) run =
    subst (λ (es : List Event). TracksConnections permitted es (kept_after (after_forget kept p) events answers)) (append_assoc past (Forget p ∷ []) events)
    (connections_behind filter Known permitted stateful firewall (past ++ Forget p ∷ []) (after_forget kept p)
    (Fits-forget permitted past kept p fits) (TracksConnections-forget permitted past kept p keeps) events (λ k q there. known (suc k) q there) answers run)

pub runs_keep_connections : (filter : Filter) (Known : Packet → Type 0) (permitted stateful : Packet → Bool) → IsFirewallFor filter Known permitted stateful →
    (events : List Event) → AllKnown Known events → (answers : List (Option Bool)) → Runs filter no_connections events answers → TracksConnections permitted events (kept_after no_connections events answers)
runs_keep_connections filter Known permitted stateful firewall events known answers run =
    connections_behind filter Known permitted stateful firewall [] no_connections (Fits-start permitted) (TracksConnections-start permitted) events known answers run

-- Both lemmas for the verdicts of a policy.
pub tracks_from_nothing : TracksAsExpected no_connections
tracks_from_nothing = record {
  answers = λ permitted stateful policy events answers run. runs_as_expected _ (λ p. ⊤) permitted stateful (verdicts permitted stateful policy) events (λ k p there. tt) answers run;
  connections = λ permitted stateful policy events answers run. runs_keep_connections _ (λ p. ⊤) permitted stateful (verdicts permitted stateful policy) events (λ k p there. tt) answers run;
  some = λ permitted stateful policy events. some_run _ (λ p. ⊤) permitted stateful (verdicts permitted stateful policy) no_connections events (λ k p there. tt);
}
  where
    verdicts : (permitted stateful : Packet → Bool) → StatefulArePermitted (λ p. ⊤) permitted stateful → IsFirewallFor (λ state p passes. passes ≡ may_pass permitted stateful state p) (λ p. ⊤) permitted stateful
    verdicts permitted stateful policy = record { given = λ state p known. refl; only = λ state p passes known h. h; policy = policy }
