-- Forwarding with any connection tracking: laws for filters that enforce a policy, for filters that forward what it expects, and for the
-- connection table.
use Rattle.std.proofs.Common.{◌≡◌, inl, inr, ◌⊎◌, ◌↔◌, ℕ, ◌<◌, arith, zero, suc, Bool, true, false, ◌&&◌, ◌||◌, IsTrue, List, [], ◌∷◌, Option, Some, None, refl, sym, ap, subst, ◌∙◌, true≢false}
use Rattle.std.specs.Option.{unwrap_or}
use Rattle.std.specs.Prelude.{⊤, if◌then◌else◌, is_some}
use Rattle.std.proofs.lemmas.Bool.{and_parts, or_cases, or_left}
use Rattle.host_net.specs.declared.packet.Packet.{Packet}
use Rattle.host_net.specs.declared.packet.CtState.{CtState}
use Rattle.host_net.specs.declared.packet.CtState.TheVariants.{New, Established}
use Rattle.host_net.specs.Packet.{IsPacket, swap_of}
use Rattle.pkt_core.specs.declared.event.Event.{Event}
use Rattle.pkt_core.specs.declared.event.Event.TheVariants.{Seen}
use Rattle.pkt_core.specs.Events.{WasSeen}
use Rattle.pkt_core.specs.Expected.{Expected}
use Rattle.pkt_core.specs.Filter.{ArePackets, Enforces, ForwardsAsExpected, RunsFromNoConnections}
use Rattle.pkt_core.proofs.ConnectionLaws.{tracks_from_nothing}
use Rattle.pkt_core.specs.inner.ConnectionTable.{kept_after}
use Rattle.pkt_core.specs.inner.FirewallFor.{StatefulArePermitted}
use Rattle.pkt_core.specs.inner.PolicyRuns.{RunsBy}
use Rattle.pkt_core.specs.inner.Connections.{TracksConnections}
use Rattle.pkt_core.specs.laws.EventLaws.{WasSeen-none}
use Rattle.pkt_core.specs.laws.TrackingLaws.{same_packet-self}
use Rattle.pkt_core.specs.Tracking.{ConnectionTable, after_seen, no_connections, same_packet, state_of}
use Rattle.pkt_core.specs.Firewall.{Filter, is_established, may_pass}
use Rattle.pkt_core.specs.FlowPolicy.{FlowPolicy, permits, permits_reply_to}
use Rattle.pkt_core.specs.AnyTracking.{ForwardsInAnyState, IsSound, IsSoundFor}

-- In a sound state the policy allows only expected packets.
pub allowed_expected : (permitted stateful : Packet → Bool) (past : List Event) (p : Packet) (state : CtState) → IsSound past p state
    → may_pass permitted stateful state p ≡ true → Expected permitted stateful past p
allowed_expected permitted stateful past p state sound passes = elim (or_cases (permitted p) (stateful (swap_of p) && is_established state) passes) [
  | inl allowed ↦ inl allowed
  | inr answers ↦ let parts = and_parts (stateful (swap_of p)) (is_established state) answers in inr (parts.0, sound parts.1)
]

new_allowed : (permitted stateful : Bool) → (permitted || (stateful && false)) ≡ true → permitted ≡ true
new_allowed true stateful is = refl
new_allowed false true is = is
new_allowed false false is = is

-- A filter that enforces a policy forwards only expected packets in sound states, and exactly the permitted packets in every state.
pub enforced_in_any_state : (filter : Filter) (policy : FlowPolicy) → Enforces filter policy → ForwardsInAnyState filter policy
enforced_in_any_state filter policy enforces = record {
  only_expected = λ past packet state is sound passes. allowed_expected (permits policy) (permits_reply_to policy) past packet state sound (sym (enforces.only packet state true is passes));
  all_permitted = λ packet is. (
    λ always. new_allowed (permits policy packet) (permits_reply_to policy (swap_of packet)) (sym (enforces.only packet New true is (always New))),
    λ permitted state. subst (filter state packet) (or_left (permits policy packet) _ permitted) (enforces.given packet state is),
  );
}

-- The connection table has sound states.
pub tracked_sound : (permitted : Packet → Bool) (past : List Event) (kept : ConnectionTable) → TracksConnections permitted past kept → (p : Packet)
    → IsSoundFor permitted past p (state_of kept p)
tracked_sound permitted past kept tracks p established = by_marks (kept (swap_of p)) (kept p) refl refl established
  where
    answers : is_some (kept (swap_of p)) ≡ true → WasSeen past (swap_of p) × (IsTrue (permitted p) ⊎ IsTrue (permitted (swap_of p)))
    answers h =
        let first = (tracks.first (swap_of p)).0 h in
        (record { place = first.0; seen = first.1.seen; unforgotten = first.1.unforgotten }, inr first.1.allowed)

    answered : kept p ≡ Some true → WasSeen past (swap_of p) × (IsTrue (permitted p) ⊎ IsTrue (permitted (swap_of p)))
    answered h =
        let was = (tracks.answered p).0 h in (
          record {
            place = was.2.0;
            seen = was.2.2;
            unforgotten = λ j r later there. let none = was.1.unforgotten j r (follows was.0 was.2.0 j was.2.1 later) there in (none.1, none.0);
          },
          inl was.1.allowed,
        )
      where
        follows : (a b c : ℕ) → a < b → b < c → a < c
        follows a b c first second = omega arith

    by_marks : (other own : Option Bool) → kept (swap_of p) ≡ other → kept p ≡ own → is_established (if (is_some other || unwrap_or own false) then Established else New) ≡ true
        → WasSeen past (swap_of p) × (IsTrue (permitted p) ⊎ IsTrue (permitted (swap_of p)))
    by_marks (Some m) own is has h = answers (ap is_some is)
    by_marks None (Some true) is has h = answered has
    by_marks None (Some false) is has h = absurd (true≢false (sym h))
    by_marks None None is has h = absurd (true≢false (sym h))

-- A filter that forwards what a policy expects, from its runs over one packet and over a packet and its answer.
module _ (filter : Filter) (policy : FlowPolicy) (forwards : ForwardsAsExpected filter policy) where
  only : (a b : Bool) → Some (Some a) ≡ Some (Some b) → a ≡ b
  only a b h = cc

  alone : (packet : Packet) → IsPacket packet → ArePackets (Seen packet ∷ [])
  alone packet is zero q there = subst IsPacket (same packet q there) is
    where
      same : (a b : Packet) → Some (Seen a) ≡ Some (Seen b) → a ≡ b
      same a b h = cc
  alone packet is (suc k) q there = cc

  -- As a new packet exactly a permitted packet passes.
  new_expected : (packet : Packet) (passes : Bool) → IsPacket packet → filter New packet passes → IsTrue passes ↔ IsTrue (permits policy packet)
  new_expected packet passes is has =
      let at = (forwards.expected (Seen packet ∷ []) (Some passes ∷ []) (alone packet is) (has, tt)).seen zero packet refl in
      let same : at.0 ≡ passes = only at.0 passes (sym at.1) in
      ((λ h. nothing_seen (at.2.0 (same ∙ h))), (λ h. sym same ∙ at.2.1 (inl h)))
    where
      nothing_seen : Expected (permits policy) (permits_reply_to policy) [] packet → IsTrue (permits policy packet)
      nothing_seen (inl allowed) = allowed
      nothing_seen (inr answers) = absurd (WasSeen-none (swap_of packet) answers.1)

  new_passes : (packet : Packet) → IsPacket packet → IsTrue (permits policy packet) → filter New packet true
  new_passes packet is allowed = by_run (forwards.some (Seen packet ∷ []) (alone packet is)).0 (forwards.some (Seen packet ∷ []) (alone packet is)).1
    where
      by_run : (answers : List (Option Bool)) → RunsFromNoConnections filter (Seen packet ∷ []) answers → filter New packet true
      by_run [] run = absurd run
      by_run (None ∷ answers) run = absurd run
      by_run (Some b ∷ answers) run = subst (filter New packet) ((new_expected packet b is run.0).1 allowed) run.0

  swaps_packet : (packet : Packet) → IsPacket packet → IsPacket (swap_of packet)
  swaps_packet packet is = (is.1, is.0, is.2, is.4, is.3)

  -- The table after the first packet of a connection.
  answer_state : (packet : Packet) → state_of (after_seen no_connections (swap_of packet) true) packet ≡ Established
  answer_state packet = ap (λ b. if is_some (if b then Some false else None) || unwrap_or (if same_packet (swap_of packet) packet then Some false else None) false then Established else New) (same_packet-self (swap_of packet))

  pair : (packet : Packet) → IsPacket packet → ArePackets (Seen (swap_of packet) ∷ Seen packet ∷ [])
  pair packet is zero q there = alone (swap_of packet) (swaps_packet packet is) zero q there
  pair packet is (suc k) q there = alone packet is k q there

  answer_expected : (packet : Packet) → IsPacket packet → IsTrue (permits policy (swap_of packet)) → filter Established packet true
      → Expected (permits policy) (permits_reply_to policy) (Seen (swap_of packet) ∷ []) packet
  answer_expected packet is allowed has =
      let run : RunsFromNoConnections filter (Seen (swap_of packet) ∷ Seen packet ∷ []) (Some true ∷ Some true ∷ []) =
      (new_passes (swap_of packet) (swaps_packet packet is) allowed, (subst (λ state. filter state packet true) (sym (answer_state packet)) has, tt)) in
      let at = (forwards.expected (Seen (swap_of packet) ∷ Seen packet ∷ []) (Some true ∷ Some true ∷ []) (pair packet is) run).seen 1 packet refl in
      at.2.0 (only at.0 true (sym at.1))

  pub forwards_only_expected : (past : List Event) (packet : Packet) (state : CtState) → IsPacket packet → IsSoundFor (permits policy) past packet state
      → filter state packet true → Expected (permits policy) (permits_reply_to policy) past packet
  forwards_only_expected past packet New is sound has = inl ((new_expected packet true is has).0 refl)
  forwards_only_expected past packet Established is sound has = elim (sound refl).1 [
    | inl allowed ↦ inl allowed
    | inr allowed ↦ elim (answer_expected packet is allowed has) [
      | inl permitted ↦ inl permitted
      | inr answers ↦ inr (answers.0, (sound refl).0)
    ]
  ]

-- So has the table after a run of a policy.
pub states_are_sound : (permitted stateful : Packet → Bool) → StatefulArePermitted (λ p. ⊤) permitted stateful → (events : List Event) (answers : List (Option Bool))
    → RunsBy permitted stateful no_connections events answers → (p : Packet) → IsSoundFor permitted events p (state_of (kept_after no_connections events answers) p)
states_are_sound permitted stateful policy events answers run =
    tracked_sound permitted events (kept_after no_connections events answers) (tracks_from_nothing.connections permitted stateful policy events answers run)
