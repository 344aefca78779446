-- A filter that has the verdict of a policy on each packet agrees with the policy on every list of events. States and expectations after
-- short lists.
use Rattle.std.proofs.Common.{◌≡◌, inl, inr, ◌↔◌, zero, suc, Bool, true, false, not, ◌&&◌, ◌||◌, IsTrue, List, [], ◌∷◌, ◌++◌, Some, None, refl, sym, ap, subst, true≢false}
use Rattle.std.specs.Prelude.{is_some, if◌then◌else◌, Option}
use Rattle.std.specs.Option.{unwrap_or}
use Rattle.std.proofs.lemmas.Bool.{and_from, and_parts, or_cases, or_left, or_right}
use Rattle.host_net.specs.declared.packet.Packet.{Packet}
use Rattle.host_net.specs.declared.packet.CtState.{CtState}
use Rattle.host_net.specs.declared.packet.CtState.TheVariants.{New, Established}
use Rattle.host_net.specs.Packet.{swap_of}
use Rattle.pkt_core.specs.declared.event.Event.{Event}
use Rattle.pkt_core.specs.declared.event.Event.TheVariants.{Seen, Forget}
use Rattle.pkt_core.specs.Events.{WasSeen}
use Rattle.pkt_core.specs.laws.EventLaws.{WasSeen-none}
use Rattle.pkt_core.specs.Expected.{Expected}
use Rattle.pkt_core.proofs.ExpectedLaws.{runs_as_expected}
use Rattle.pkt_core.specs.Firewall.{Filter, is_established, may_pass}
use Rattle.pkt_core.specs.inner.FirewallFor.{AllKnown, StatefulArePermitted}
use Rattle.pkt_core.specs.laws.ConnectionTableLaws.{Fits, Fits-forget, Fits-seen, Fits-start, answer_is_established, begins_behind_seen, established_by}
use Rattle.pkt_core.specs.inner.PolicyRuns.{RunsBy}
use Rattle.pkt_core.specs.Tracking.{ConnectionTable, Runs, after_forget, after_seen, no_connections, state_of, with_connection}
use Rattle.pkt_core.specs.laws.TrackingLaws.{same_packet-self}
use Rattle.audit_core.specs.Agreement.{AgreeOn}
use Rattle.audit_core.specs.inner.Agreement.{IsJudged}

is_established-state : (s : CtState) → is_established s ≡ true → s ≡ Established
is_established-state Established h = refl
is_established-state New h = absurd (true≢false (sym h))

module _ (permitted stateful : Packet → Bool) where
  -- The expectation if nothing was seen.
  pub expects_first : (p : Packet) → IsTrue (may_pass permitted stateful New p) ↔ Expected permitted stateful [] p
  expects_first p = (
    (λ h. elim (or_cases (permitted p) (stateful (swap_of p) && false) h) [
      | inl own ↦ inl own
      | inr other ↦ absurd (true≢false (sym (and_parts (stateful (swap_of p)) false other).1))
    ]),
    (λ e. elim e [ inl h ↦ or_left (permitted p) _ h | inr h ↦ absurd (WasSeen-none (swap_of p) h.1) ]),
  )

  -- The expectation if the swap was seen.
  pub expects_behind : (past : List Event) (p : Packet) → WasSeen past (swap_of p) → IsTrue (may_pass permitted stateful Established p) ↔ Expected permitted stateful past p
  expects_behind past p was = (
    (λ h. elim (or_cases (permitted p) (stateful (swap_of p) && true) h) [
      | inl own ↦ inl own
      | inr other ↦ inr ((and_parts (stateful (swap_of p)) true other).0, was)
    ]),
    (λ e. elim e [ inl h ↦ or_left (permitted p) _ h | inr h ↦ or_right (permitted p) _ (and_from (stateful (swap_of p)) true h.0 refl) ]),
  )

-- After a packet that passes, its swap is established.
pub swap_established : (q : Packet) → state_of (after_seen no_connections q true) (swap_of q) ≡ Established
swap_established q = is_established-state _ (answer_is_established (after_seen no_connections q true) (swap_of q) (begins_behind_seen no_connections q refl refl))

-- A packet whose connection is marked as answered is established.
marked_established : (kept : ConnectionTable) (p : Packet) → kept p ≡ Some true → state_of kept p ≡ Established
marked_established kept p h = is_established-state _ (by_test (is_some (kept (swap_of p))) (kept p) h)
  where
    by_test : (b : Bool) (o : Option Bool) → o ≡ Some true → is_established (if (b || unwrap_or o false) then Established else New) ≡ true
    by_test true o h = refl
    by_test false o h = ap (λ (x : Option Bool). is_established (if unwrap_or x false then Established else New)) h

-- The first packet of a tracked connection is established after its swap.
pub kept_established : (kept : ConnectionTable) (p : Packet) (b : Bool) → is_some (kept p) ≡ true → state_of (after_seen kept (swap_of p) b) p ≡ Established
kept_established kept p b there = marked_established (after_seen kept (swap_of p) b) p (marked (is_some (kept p)) there)
  where
    marked : (c : Bool) → c ≡ true → (if c then with_connection kept p (Some true) else (if b && not (is_some (kept (swap_of p))) then with_connection kept (swap_of p) (Some false) else kept)) p ≡ Some true
    marked true h = ap (λ (s : Bool). if s then Some true else kept p) (same_packet-self p)
    marked false h = absurd (true≢false (sym h))

module _ (filter : Filter) (permitted stateful : Packet → Bool) where
  -- A packet in its tracked state has the verdict of the policy.
  judged_in_state : {Known : Packet → Type 0} (past : List Event) (kept : ConnectionTable) → Fits Known permitted past kept → (p : Packet) → IsJudged filter permitted stateful p →
      (b : Bool) → filter (state_of kept p) p b → b ≡ may_pass permitted stateful (state_of kept p) p
  judged_in_state past kept fits p judged b h = by_state (state_of kept p) refl h
    where
      some : is_established (state_of kept p) ≡ true → (permitted p || permitted (swap_of p)) ≡ true
      some is = elim (established_by kept p is) [
        | inl other ↦ or_right (permitted p) _ (fits.allowed (swap_of p) other)
        | inr own ↦ or_left (permitted p) _ (fits.allowed p own)
      ]

      by_state : (s : CtState) → state_of kept p ≡ s → filter s p b → b ≡ may_pass permitted stateful s p
      by_state New is v = judged.new b v
      by_state Established is v = judged.established (some (ap is_established is)) b v

  -- Each run is a run with the verdicts of the policy.
  run_by_policy : {Known : Packet → Type 0} → ((p : Packet) → Known p → IsJudged filter permitted stateful p) →
      (past : List Event) (kept : ConnectionTable) → Fits Known permitted past kept → (events : List Event) → AllKnown Known events → (answers : List (Option Bool)) → Runs filter kept events answers →
      RunsBy permitted stateful kept events answers
  run_by_policy judged past kept fits [] known [] run = tt
  run_by_policy judged past kept fits [] known (answer ∷ answers) run = absurd run
  run_by_policy judged past kept fits (Seen p ∷ events) known [] run = absurd run
  run_by_policy judged past kept fits (Forget p ∷ events) known [] run = absurd run
  run_by_policy judged past kept fits (Seen p ∷ events) known (None ∷ answers) run = absurd run
  run_by_policy {Known} judged past kept fits (Seen p ∷ events) known (Some passes ∷ answers) run =
      let is : passes ≡ may_pass permitted stateful (state_of kept p) p = judged_in_state past kept fits p (judged p (known zero p refl)) passes run.0 in (
        is,
        run_by_policy judged (past ++ Seen p ∷ []) (after_seen kept p passes)
            (subst (λ (b : Bool). Fits Known permitted (past ++ Seen p ∷ []) (after_seen kept p b)) (sym is) (Fits-seen permitted stateful past kept p (known zero p refl) fits))
            events (λ k q there. known (suc k) q there) answers run.1,
      )
  run_by_policy judged past kept fits (Forget p ∷ events) known (Some passes ∷ answers) run = absurd run
  run_by_policy judged past kept fits (Forget p ∷ events) known (None ∷ answers) run =
      run_by_policy judged (past ++ Forget p ∷ []) (after_forget kept p) (Fits-forget permitted past kept p fits) events (λ k q there. known (suc k) q there) answers run

  -- If the filter has the verdict of the policy on every known packet, they agree on every list of known packets.
  pub agree_where_judged : (Known : Packet → Type 0) → StatefulArePermitted Known permitted stateful → ((p : Packet) → Known p → IsJudged filter permitted stateful p) → (events : List Event) → AllKnown Known events →
      AgreeOn filter permitted stateful events
  agree_where_judged Known policy judged events known answers run =
      runs_as_expected (λ state p passes. passes ≡ may_pass permitted stateful state p) Known permitted stateful
      (record { given = λ state p is. refl; only = λ state p passes is h. h; policy = policy }) events known answers
      (run_by_policy judged [] no_connections (Fits-start permitted) events known answers run)
