-- If hosts have firewalls for one policy, a packet passes if and only if it is expected to, or neither end of its flow has a firewall.
use Rattle.std.proofs.Common.{◌≡◌, ◌⊎◌, inl, inr, ◌↔◌, ℕ, zero, suc, Bool, true, false, ◌&&◌, ◌||◌, ◌==◌, IsTrue, not, List, [], ◌∷◌, ◌++◌, Some, None, refl, sym, ap, subst, ◌∙◌, append_assoc, append-nil, true≢false}
use Rattle.std.specs.Prelude.{IsSome, if◌then◌else◌, Option, ⊤}
use Rattle.std.specs.Option.{option_map_or}
use Rattle.std.proofs.lemmas.Bool.{and_from, and_parts, cases_Bool, or_from, or_left, or_parts, or_right}
use Rattle.std.proofs.lemmas.Bool.Decides.{Decides-eqb}
use Rattle.host_net.specs.declared.packet.Packet.{Packet}
use Rattle.host_net.specs.Packet.{swap_of}
use Rattle.host_net.specs.Host.{Host, owner_of}
use Rattle.flow_set.specs.declared.flow.Flow.{Flow}
use Rattle.pkt_core.specs.declared.event.Event.{Event}
use Rattle.pkt_core.specs.declared.event.Event.TheVariants.{Seen, Forget}
use Rattle.pkt_core.proofs.AnyTrackingLaws.{allowed_expected}
use Rattle.pkt_core.specs.AnyTracking.{IsSound}
use Rattle.pkt_core.proofs.FirstPacketLaws.{TracksFirstPackets-forget, TracksFirstPackets-seen, TracksFirstPackets-start, TracksFirstPackets-untaken}
use Rattle.pkt_core.specs.Events.{WasSeen}
use Rattle.pkt_core.specs.Expected.{AreExpected, Expected}
use Rattle.pkt_core.proofs.ExpectedLaws.{AreExpectedBehind, all_expected, forgotten_expected, none_expected, passes_as_expected, seen_expected}
use Rattle.pkt_core.specs.Firewall.{is_established, may_pass}
use Rattle.pkt_core.specs.inner.FirewallFor.{AllKnown, StatefulArePermitted}
use Rattle.pkt_core.specs.FlowPolicy.{flow_of}
use Rattle.pkt_core.specs.laws.ConnectionTableLaws.{Fits, Fits-forget, Fits-seen, Fits-start, Fits-untaken}
use Rattle.pkt_core.specs.Tracking.{ConnectionTable, after_forget, after_seen, state_of}
use Rattle.emit_core.specs.declared.direction.Direction.{Direction}
use Rattle.emit_core.specs.declared.direction.Direction.TheVariants.{Outbound, Inbound}
use Rattle.host_emit.proofs.FlowEndLaws.{same_number, apart_numbers, no_flow_back, flow_apart, one_rest, end_on, at_end, at_end_back, off_end, at_barred}
use Rattle.host_emit.specs.inner.HostFirewalls.{AllFit, AreFirewallsFor, HostFits}
use Rattle.host_emit.specs.LocalLayout.{is_specific}
use Rattle.host_emit.specs.Delivery.{AllKeepFirst, Firewalls, Goes, nowhere, stays, reaches_receiver, PassRuns, PassRunsTo, Tables, Processes, after_taken, at_host, empty_tables, is_end, or_unenforced}
use Rattle.host_emit.specs.inner.Passing.{host_on}

own_table : (enforces : ℕ → Bool) (tables : Tables) (h : ℕ) (p : Packet) (passes : Bool) → enforces h ≡ true → after_taken enforces tables h p passes h ≡ after_seen (tables h) p passes
own_table enforces tables h p passes specific =
    ap (λ (b : Bool). if b then (if h == h then after_seen (tables h) p passes else tables h) else tables h) specific
    ∙ ap (λ (b : Bool). if b then after_seen (tables h) p passes else tables h) (same_number h)

other_table : (enforces : ℕ → Bool) (tables : Tables) (h : ℕ) (p : Packet) (passes : Bool) (i : ℕ) → (h == i) ≡ false → after_taken enforces tables h p passes i ≡ tables i
other_table enforces tables h p passes i apart = ap (λ (b : Bool). if enforces h then (if b then after_seen (tables h) p passes else tables i) else tables i) apart ∙ by_test (enforces h)
  where
    by_test : (b : Bool) → (if b then tables i else tables i) ≡ tables i
    by_test true = refl
    by_test false = refl

or_nothing : (b : Bool) → (b || false) ≡ b
or_nothing true = refl
or_nothing false = refl

-- If one end of a flow enforces the policy, it is false that neither end does.
guarded_on : (side : Direction) (f : Flow) (enforces : ℕ → Bool) → enforces (host_on side f) ≡ true → (not (enforces f.from) && not (enforces f.to)) ≡ false
guarded_on Outbound f enforces there = ap (λ (b : Bool). not b && not (enforces f.to)) there
guarded_on Inbound f enforces there = ap (λ (b : Bool). not (enforces f.from) && not b) there ∙ by_test (not (enforces f.from))
  where
    by_test : (b : Bool) → (b && false) ≡ false
    by_test true = refl
    by_test false = refl

-- So such a packet passes the test itself, and so does a packet without a flow.
guarded : (hosts : List Host) (enforces : ℕ → Bool) (test : Packet → Bool) (p : Packet) (f : Flow) (side : Direction) → flow_of hosts p ≡ Some f
    → enforces (host_on side f) ≡ true → or_unenforced hosts enforces test p ≡ test p
guarded hosts enforces test p f side is there =
    ap (λ (o : Option Flow). test p || option_map_or (λ g. not (enforces g.from) && not (enforces g.to)) o false) is
    ∙ ap (λ (b : Bool). test p || b) (guarded_on side f enforces there) ∙ or_nothing (test p)

without_flow : (hosts : List Host) (enforces : ℕ → Bool) (test : Packet → Bool) (p : Packet) → flow_of hosts p ≡ None → or_unenforced hosts enforces test p ≡ test p
without_flow hosts enforces test p is =
    ap (λ (o : Option Flow). test p || option_map_or (λ g. not (enforces g.from) && not (enforces g.to)) o false) is ∙ or_nothing (test p)

-- Neither end enforces.
unguarded : (hosts : List Host) (enforces : ℕ → Bool) (test : Packet → Bool) (p : Packet) (f : Flow) → flow_of hosts p ≡ Some f
    → enforces f.from ≡ false → enforces f.to ≡ false → or_unenforced hosts enforces test p ≡ true
unguarded hosts enforces test p f is from to =
    ap (λ (o : Option Flow). test p || option_map_or (λ g. not (enforces g.from) && not (enforces g.to)) o false) is
    ∙ ap (λ (b : Bool). test p || (not b && not (enforces f.to))) from ∙ ap (λ (b : Bool). test p || not b) to ∙ or_right (test p) true refl

-- If all specific hosts enforce the policy, every flow has an end that does, because there is at most one rest host.
pub all_guarded : (hosts : List Host) (test : Packet → Bool) (p : Packet) → or_unenforced hosts (is_specific hosts) test p ≡ test p
all_guarded hosts test p = by_flow (flow_of hosts p) refl
  where
    by_end : (f : Flow) → flow_of hosts p ≡ Some f → (b : Bool) → is_specific hosts f.from ≡ b → (c : Bool) → is_specific hosts f.to ≡ c → or_unenforced hosts (is_specific hosts) test p ≡ test p
    by_end f is true from c to = guarded hosts (is_specific hosts) test p f Outbound is from
    by_end f is false from true to = guarded hosts (is_specific hosts) test p f Inbound is to
    by_end f is false from false to = absurd (true≢false (sym (one_rest hosts f.from f.to from to) ∙ flow_apart hosts p f is))

    by_flow : (o : Option Flow) → flow_of hosts p ≡ o → or_unenforced hosts (is_specific hosts) test p ≡ test p
    by_flow None is = without_flow hosts (is_specific hosts) test p is
    by_flow (Some f) is = by_end f is (is_specific hosts f.from) refl (is_specific hosts f.to) refl

module _ (hosts : List Host) (enforces : ℕ → Bool) (firewalls : Firewalls) (Known : Packet → Type 0) (permitted stateful : Packet → Bool) (for_policy : AreFirewallsFor hosts enforces firewalls Known permitted stateful) where
  part_is_policy : (h : ℕ) → StatefulArePermitted (λ p. ⊤) (at_host hosts permitted h) (at_host hosts stateful h)
  part_is_policy h p known stated =
      let parts = and_parts (is_end (flow_of hosts p) h) (stateful p) stated in
      and_from (is_end (flow_of hosts p) h) (permitted p) parts.0 (for_policy.policy p tt parts.1)

  -- At an end of its flow the host's part of the policy has the same verdict as the policy.
  same_part : (p : Packet) (f : Flow) (h : ℕ) → flow_of hosts p ≡ Some f → is_end (Some f) h ≡ true → (established : Bool) →
      (at_host hosts permitted h p || (at_host hosts stateful h (swap_of p) && established)) ≡ (permitted p || (stateful (swap_of p) && established))
  same_part p f h is there established =
      ap (λ (b : Bool). b || (at_host hosts stateful h (swap_of p) && established)) (at_end hosts permitted p f h is there)
      ∙ ap (λ (b : Bool). permitted p || (b && established)) (at_end_back hosts stateful p f h is there)

  -- So the table of a host that tracks a packet still agrees.
  tracked_fits : (past : List Event) (kept : ConnectionTable) (p : Packet) (f : Flow) (h : ℕ) (passes : Bool) → flow_of hosts p ≡ Some f → is_end (Some f) h ≡ true →
      passes ≡ may_pass permitted stateful (state_of kept p) p → HostFits hosts permitted h past kept → HostFits hosts permitted h (past ++ Seen p ∷ []) (after_seen kept p passes)
  tracked_fits past kept p f h passes is there verdict host =
      subst (λ (b : Bool). HostFits hosts permitted h (past ++ Seen p ∷ []) (after_seen kept p b))
      (same_part p f h is there (is_established (state_of kept p)) ∙ sym verdict)
      (record {
        fits = Fits-seen (at_host hosts permitted h) (at_host hosts stateful h) past kept p tt host.fits;
        first = TracksFirstPackets-seen (at_host hosts permitted h) (at_host hosts stateful h) past kept p host.fits host.first;
      })

  -- So does the table of a host that does not process the packet, if the packet is not permitted for the host.
  untaken_fits : (past : List Event) (kept : ConnectionTable) (p : Packet) (h : ℕ) → at_host hosts permitted h p ≡ false → HostFits hosts permitted h past kept → HostFits hosts permitted h (past ++ Seen p ∷ []) kept
  untaken_fits past kept p h barred host = record {
    fits = Fits-untaken (at_host hosts permitted h) past kept p barred tt host.fits;
    first = TracksFirstPackets-untaken (at_host hosts permitted h) past kept p barred host.first;
  }

  -- The verdict of the host is the expected one.
  verdict_expected : (past : List Event) (kept : ConnectionTable) (p : Packet) (f : Flow) (h : ℕ) (passes : Bool) → flow_of hosts p ≡ Some f → is_end (Some f) h ≡ true →
      passes ≡ may_pass permitted stateful (state_of kept p) p → Fits (λ q. ⊤) (at_host hosts permitted h) past kept → IsTrue passes ↔ Expected permitted stateful past p
  verdict_expected past kept p f h passes is there verdict fits =
      let at_part = passes_as_expected (at_host hosts permitted h) (at_host hosts stateful h) (part_is_policy h) past kept fits p in
      let of_p = subst (λ (b : Bool). IsTrue b ↔ ExpectedBy (at_host hosts permitted h p) (at_host hosts stateful h (swap_of p))) (same_part p f h is there (is_established (state_of kept p)) ∙ sym verdict) at_part in
      let of_both = subst (λ (b : Bool). IsTrue passes ↔ ExpectedBy b (at_host hosts stateful h (swap_of p))) (at_end hosts permitted p f h is there) of_p in
      subst (λ (b : Bool). IsTrue passes ↔ ExpectedBy (permitted p) b) (at_end_back hosts stateful p f h is there) of_both
    where
      ExpectedBy : Bool → Bool → Type 0
      ExpectedBy a b = IsTrue a ⊎ (IsTrue b × WasSeen past (swap_of p))

  -- A specific host that processes a packet has the verdict of the policy in the state of its table.
  taken : (tables : Tables) (p : Packet) (f : Flow) (side : Direction) (passes : Bool) → Known p → flow_of hosts p ≡ Some f → enforces (host_on side f) ≡ true →
      Processes enforces firewalls tables (host_on side f) side p passes → passes ≡ may_pass permitted stateful (state_of (tables (host_on side f)) p) p
  taken tables p f side passes known is specific takes = for_policy.only side (state_of (tables (host_on side f)) p) p f passes known is specific (takes.by_firewall specific)

  -- The expected result if only some hosts enforce.
  abbrev Passed : List Event → Packet → Type 0
  Passed past p = Expected (or_unenforced hosts enforces permitted) stateful past p

  -- It is what the policy expects, under this condition.
  passed : (past : List Event) (p : Packet) (passes : Bool) → or_unenforced hosts enforces permitted p ≡ permitted p → IsTrue passes ↔ Expected permitted stateful past p → IsTrue passes ↔ Passed past p
  passed past p passes same is = subst (λ (b : Bool). IsTrue passes ↔ (IsTrue b ⊎ (IsTrue (stateful (swap_of p)) × WasSeen past (swap_of p)))) (sym same) is

  -- A packet without a flow is not expected.
  none_without_flow : (past : List Event) (p : Packet) → flow_of hosts p ≡ None → Expected permitted stateful past p → ⊥
  none_without_flow past p is expected = elim expected [
    | inl allowed ↦ no_flow (flow_of hosts p) is (for_policy.flows p allowed)
    | inr answers ↦ no_flow (flow_of hosts (swap_of p)) (no_flow_back (owner_of hosts p.src) (owner_of hosts p.dst) is) (for_policy.flows (swap_of p) (for_policy.policy (swap_of p) tt answers.0))
  ]
    where
      no_flow : (o : Option Flow) → o ≡ None → IsSome o → ⊥
      no_flow None is some = absurd (true≢false (sym some))
      no_flow (Some f) is some = cc

  -- No host changes its table: all tables still agree if the packet is not permitted for any host.
  all_untaken : (past : List Event) (tables : Tables) (p : Packet) → AllFit hosts enforces permitted past tables → ((h : ℕ) → at_host hosts permitted h p ≡ false) → AllFit hosts enforces permitted (past ++ Seen p ∷ []) tables
  all_untaken past tables p fits barred h specific = untaken_fits past (tables h) p h (barred h) (fits h specific)

  barred_by : (state : Bool) (p : Packet) → false ≡ (permitted p || (stateful (swap_of p) && state)) → permitted p ≡ false
  barred_by state p verdict = (or_parts (permitted p) (stateful (swap_of p) && state) (sym verdict)).0

  module _ (past : List Event) (tables : Tables) (fits : AllFit hosts enforces permitted past tables) (p : Packet) (known : Known p) (f : Flow) (is : flow_of hosts p ≡ Some f) where
    -- The table of a host at one end of the flow, after the host's verdict.
    fits_taken : (side : Direction) (passes : Bool) (kept : ConnectionTable) → enforces (host_on side f) ≡ true → passes ≡ may_pass permitted stateful (state_of (tables (host_on side f)) p) p →
        kept ≡ after_seen (tables (host_on side f)) p passes → HostFits hosts permitted (host_on side f) (past ++ Seen p ∷ []) kept
    fits_taken side passes kept specific verdict table =
        subst (λ (k : ConnectionTable). HostFits hosts permitted (host_on side f) (past ++ Seen p ∷ []) k) (sym table)
        (tracked_fits past (tables (host_on side f)) p f (host_on side f) passes is (end_on side f) verdict (fits (host_on side f) specific))

    -- The table of a host that does not process the packet.
    fits_untaken : (h : ℕ) (kept : ConnectionTable) → enforces h ≡ true → at_host hosts permitted h p ≡ false → kept ≡ tables h → HostFits hosts permitted h (past ++ Seen p ∷ []) kept
    fits_untaken h kept specific barred table =
        subst (λ (k : ConnectionTable). HostFits hosts permitted h (past ++ Seen p ∷ []) k) (sym table)
        (untaken_fits past (tables h) p h barred (fits h specific))

    expected_on : (side : Direction) (passes : Bool) → enforces (host_on side f) ≡ true → passes ≡ may_pass permitted stateful (state_of (tables (host_on side f)) p) p → IsTrue passes ↔ Passed past p
    expected_on side passes specific verdict =
        passed past p passes (guarded hosts enforces permitted p f side is specific)
        (verdict_expected past (tables (host_on side f)) p f (host_on side f) passes is (end_on side f) verdict (fits (host_on side f) specific).fits)

    -- The sender drops the packet.
    stays_expected : Processes enforces firewalls tables f.from Outbound p false → (IsTrue false ↔ Passed past p) × AllFit hosts enforces permitted (past ++ Seen p ∷ []) (after_taken enforces tables f.from p false)
    stays_expected takes = elim (cases_Bool (enforces f.from)) [
      | inr other ↦ absurd (true≢false (sym (takes.by_none other)))
      | inl specific ↦
          let verdict = taken tables p f Outbound false known is specific takes in
          (expected_on Outbound false specific verdict, (λ h own. at h own verdict specific (f.from == h) refl))
    ]
      where
        at : (h : ℕ) → enforces h ≡ true → false ≡ may_pass permitted stateful (state_of (tables f.from) p) p → enforces f.from ≡ true → (b : Bool) → (f.from == h) ≡ b →
            HostFits hosts permitted h (past ++ Seen p ∷ []) (after_taken enforces tables f.from p false h)
        at h own verdict specific true here =
            subst (λ (i : ℕ). HostFits hosts permitted i (past ++ Seen p ∷ []) (after_taken enforces tables f.from p false i)) ((Decides-eqb f.from h).0 here)
            (fits_taken Outbound false (after_taken enforces tables f.from p false f.from) specific verdict (own_table enforces tables f.from p false specific))
        at h own verdict specific false away =
            fits_untaken h (after_taken enforces tables f.from p false h) own (at_barred hosts permitted p h (barred_by (is_established (state_of (tables f.from) p)) p verdict)) (other_table enforces tables f.from p false h away)

    -- The sender lets the packet pass.
    arrives_expected : (passes : Bool) → Processes enforces firewalls tables f.from Outbound p true → Processes enforces firewalls (after_taken enforces tables f.from p true) f.to Inbound p passes →
        (IsTrue passes ↔ Passed past p) × AllFit hosts enforces permitted (past ++ Seen p ∷ []) (after_taken enforces (after_taken enforces tables f.from p true) f.to p passes)
    arrives_expected passes sends receives = (answer (enforces f.to) refl (enforces f.from) refl, (λ h own. at h own (f.to == h) refl (f.from == h) refl))
      where
        behind : Tables
        behind = after_taken enforces tables f.from p true

        same_table : behind f.to ≡ tables f.to
        same_table = other_table enforces tables f.from p true f.to (flow_apart hosts p f is)

        verdict_to : enforces f.to ≡ true → passes ≡ may_pass permitted stateful (state_of (tables f.to) p) p
        verdict_to specific = subst (λ (k : ConnectionTable). passes ≡ may_pass permitted stateful (state_of k p) p) same_table (taken behind p f Inbound passes known is specific receives)

        verdict_from : enforces f.from ≡ true → true ≡ may_pass permitted stateful (state_of (tables f.from) p) p
        verdict_from specific = taken tables p f Outbound true known is specific sends

        answer : (b : Bool) → enforces f.to ≡ b → (c : Bool) → enforces f.from ≡ c → IsTrue passes ↔ Passed past p
        answer true to c from = expected_on Inbound passes to (verdict_to to)
        answer false to true from = subst (λ (b : Bool). IsTrue b ↔ Passed past p) (sym (receives.by_none to)) (expected_on Outbound true from (verdict_from from))
        answer false to false from = ((λ h. inl (unguarded hosts enforces permitted p f is from to)), (λ e. receives.by_none to))

        at : (h : ℕ) → enforces h ≡ true → (b : Bool) → (f.to == h) ≡ b → (c : Bool) → (f.from == h) ≡ c → HostFits hosts permitted h (past ++ Seen p ∷ []) (after_taken enforces behind f.to p passes h)
        at h own true here c there =
            let same = (Decides-eqb f.to h).0 here in
            let specific : enforces f.to ≡ true = subst (λ (i : ℕ). enforces i ≡ true) (sym same) own in
            subst (λ (i : ℕ). HostFits hosts permitted i (past ++ Seen p ∷ []) (after_taken enforces behind f.to p passes i)) same
            (fits_taken Inbound passes (after_taken enforces behind f.to p passes f.to) specific (verdict_to specific)
            (own_table enforces behind f.to p passes specific ∙ ap (λ (k : ConnectionTable). after_seen k p passes) same_table))
        at h own false away true there =
            let same = (Decides-eqb f.from h).0 there in
            let specific : enforces f.from ≡ true = subst (λ (i : ℕ). enforces i ≡ true) (sym same) own in
            subst (λ (i : ℕ). HostFits hosts permitted i (past ++ Seen p ∷ []) (after_taken enforces behind f.to p passes i)) same
            (fits_taken Outbound true (after_taken enforces behind f.to p passes f.from) specific (verdict_from specific)
            (other_table enforces behind f.to p passes f.from (apart_numbers f.from f.to (flow_apart hosts p f is)) ∙ own_table enforces tables f.from p true specific))
        at h own false away false off =
            fits_untaken h (after_taken enforces behind f.to p passes h) own (off_end hosts permitted p (Some f) h is (or_from (f.from == h) (f.to == h) off away))
            (other_table enforces behind f.to p passes h away ∙ other_table enforces tables f.from p true h off)

  -- The delivery of a packet is as expected, and all tables still agree.
  goes_expected : (past : List Event) (tables : Tables) → AllFit hosts enforces permitted past tables → (p : Packet) → Known p → (passes : Bool) (behind : Tables) → Goes hosts enforces firewalls tables p passes behind →
      (IsTrue passes ↔ Passed past p) × AllFit hosts enforces permitted (past ++ Seen p ∷ []) behind
  goes_expected past tables fits p known passes behind (nowhere is) =
      (passed past p false (without_flow hosts enforces permitted p is) ((λ h. absurd (true≢false (sym h))), (λ e. absurd (none_without_flow past p is e))), all_untaken past tables p fits (λ h. off_end hosts permitted p None h is refl))
  goes_expected past tables fits p known passes behind (stays {f} is takes) = stays_expected past tables fits p known f is takes
  goes_expected past tables fits p known passes behind (reaches_receiver {f} is sends receives) = arrives_expected past tables fits p known f is passes sends receives

  all_forget : (past : List Event) (tables : Tables) (p : Packet) → AllFit hosts enforces permitted past tables → AllFit hosts enforces permitted (past ++ Forget p ∷ []) (λ h. after_forget (tables h) p)
  all_forget past tables p fits h specific = record {
    fits = Fits-forget (at_host hosts permitted h) past (tables h) p (fits h specific).fits;
    first = TracksFirstPackets-forget (at_host hosts permitted h) past (tables h) p (fits h specific).first;
  }

  all_start : AllFit hosts enforces permitted [] empty_tables
  all_start h specific = record { fits = Fits-start (at_host hosts permitted h); first = TracksFirstPackets-start (at_host hosts permitted h) }

  runs_behind : (past : List Event) (tables : Tables) → AllFit hosts enforces permitted past tables → (events : List Event) → AllKnown Known events → (answers : List (Option Bool)) (behind : Tables) →
      PassRunsTo hosts enforces firewalls tables events answers behind → AreExpectedBehind (or_unenforced hosts enforces permitted) stateful past events answers × AllFit hosts enforces permitted (past ++ events) behind
  runs_behind past tables fits [] known [] behind run =
      (none_expected (or_unenforced hosts enforces permitted) stateful past, (λ h specific. subst (λ (es : List Event). HostFits hosts permitted h es (behind h)) (sym (append-nil past)) (subst (λ (ts : Tables). HostFits hosts permitted h past (ts h)) (sym run) (fits h specific))))
  runs_behind past tables fits [] known (answer ∷ answers) behind run = absurd run
  runs_behind past tables fits (Seen p ∷ events) known [] behind run = absurd run
  runs_behind past tables fits (Forget p ∷ events) known [] behind run = absurd run
  runs_behind past tables fits (Seen p ∷ events) known (None ∷ answers) behind run = absurd run
  runs_behind past tables fits (Seen p ∷ events) known (Some passes ∷ answers) behind run =
      let now = goes_expected past tables fits p (known zero p refl) passes run.0 run.1 in
      let rest = runs_behind (past ++ Seen p ∷ []) run.0 now.1 events (λ k q there. known (suc k) q there) answers behind run.2 in
      (seen_expected (or_unenforced hosts enforces permitted) stateful past p events passes answers now.0 rest.0, (λ h specific. subst (λ (es : List Event). HostFits hosts permitted h es (behind h)) (append_assoc past (Seen p ∷ []) events) (rest.1 h specific)))
  runs_behind past tables fits (Forget p ∷ events) known (Some passes ∷ answers) behind run = absurd run
  runs_behind past tables fits (Forget p ∷ events) known (None ∷ answers) behind run =
      let rest = runs_behind (past ++ Forget p ∷ []) (λ h. after_forget (tables h) p) (all_forget past tables p fits) events (λ k q there. known (suc k) q there) answers behind run in
      (forgotten_expected (or_unenforced hosts enforces permitted) stateful past p events answers rest.0, (λ h specific. subst (λ (es : List Event). HostFits hosts permitted h es (behind h)) (append_assoc past (Forget p ∷ []) events) (rest.1 h specific)))

  -- For every list of events with known packets, a packet passes if and only if it is expected to or neither end of its flow enforces.
  pub pass_as_expected : (events : List Event) → AllKnown Known events → (answers : List (Option Bool)) → PassRuns hosts enforces firewalls empty_tables events answers → AreExpected (or_unenforced hosts enforces permitted) stateful events answers
  pass_as_expected events known answers run = all_expected (or_unenforced hosts enforces permitted) stateful events answers (runs_behind [] empty_tables all_start events known answers run.0 run.1).0

  -- Each enforcing host tracks exactly the first packets of its connections.
  pub pass_keeps_first : (events : List Event) → AllKnown Known events → (answers : List (Option Bool)) (behind : Tables) → PassRunsTo hosts enforces firewalls empty_tables events answers behind → AllKeepFirst hosts enforces permitted events behind
  pass_keeps_first events known answers behind run h specific = ((runs_behind [] empty_tables all_start events known answers behind run).1 h specific).first

  some_taken : (tables : Tables) (p : Packet) (f : Flow) (side : Direction) → Known p → flow_of hosts p ≡ Some f → (passes : Bool) × Processes enforces firewalls tables (host_on side f) side p passes
  some_taken tables p f side known is = by_test (enforces (host_on side f)) refl
    where
      by_test : (b : Bool) → enforces (host_on side f) ≡ b → (passes : Bool) × Processes enforces firewalls tables (host_on side f) side p passes
      by_test true specific = (
        may_pass permitted stateful (state_of (tables (host_on side f)) p) p,
        record { by_firewall = λ h. for_policy.given side (state_of (tables (host_on side f)) p) p f known is h; by_none = λ h. absurd (true≢false (sym specific ∙ h)) },
      )
      by_test false other = (true, record { by_firewall = λ h. absurd (true≢false (sym h ∙ other)); by_none = λ h. refl })

  some_way : (tables : Tables) (p : Packet) → Known p → (passes : Bool) × (behind : Tables) × Goes hosts enforces firewalls tables p passes behind
  some_way tables p known = by_flow (flow_of hosts p) refl
    where
      receive : (f : Flow) → flow_of hosts p ≡ Some f → Processes enforces firewalls tables f.from Outbound p true → (passes : Bool) × (behind : Tables) × Goes hosts enforces firewalls tables p passes behind
      receive f is sends =
          let received = some_taken (after_taken enforces tables f.from p true) p f Inbound known is in
          (received.0, after_taken enforces (after_taken enforces tables f.from p true) f.to p received.0, reaches_receiver is sends received.1)

      send : (f : Flow) → flow_of hosts p ≡ Some f → (sent : Bool) → Processes enforces firewalls tables f.from Outbound p sent → (passes : Bool) × (behind : Tables) × Goes hosts enforces firewalls tables p passes behind
      send f is true sends = receive f is sends
      send f is false sends = (false, after_taken enforces tables f.from p false, stays is sends)

      by_flow : (o : Option Flow) → flow_of hosts p ≡ o → (passes : Bool) × (behind : Tables) × Goes hosts enforces firewalls tables p passes behind
      by_flow None is = (false, tables, nowhere is)
      by_flow (Some f) is = let sent = some_taken tables p f Outbound known is in send f is sent.0 sent.1

  -- A run exists, for all tables.
  pub some_pass_run : (tables : Tables) (events : List Event) → AllKnown Known events → (answers : List (Option Bool)) × PassRuns hosts enforces firewalls tables events answers
  some_pass_run tables [] known = ([], (tables, refl))
  some_pass_run tables (Seen p ∷ events) known =
      let now = some_way tables p (known zero p refl) in
      let rest = some_pass_run now.1 events (λ k q there. known (suc k) q there) in
      (Some now.0 ∷ rest.0, (rest.1.0, (now.1, now.2, rest.1.1)))
  some_pass_run tables (Forget p ∷ events) known =
      let rest = some_pass_run (λ h. after_forget (tables h) p) events (λ k q there. known (suc k) q there) in
      (None ∷ rest.0, rest.1)

  -- With any tables, if their states are sound, a packet passes only if it is expected to or neither end of its flow enforces.
  pub goes_soundly : (past : List Event) (tables : Tables) (p : Packet) → Known p → ((h : ℕ) → IsSound past p (state_of (tables h) p)) → (passes : Bool) (behind : Tables)
      → Goes hosts enforces firewalls tables p passes behind → passes ≡ true → Passed past p
  goes_soundly past tables p known sound passes behind (nowhere is) so = absurd (true≢false (sym so))
  goes_soundly past tables p known sound passes behind (stays {f} is takes) so = absurd (true≢false (sym so))
  goes_soundly past tables p known sound passes behind (reaches_receiver {f} is sends receives) so = by_ends (enforces f.from) refl (enforces f.to) refl
    where
      allowed : (side : Direction) → enforces (host_on side f) ≡ true → true ≡ may_pass permitted stateful (state_of (tables (host_on side f)) p) p → Passed past p
      allowed side specific verdict =
          (passed past p true (guarded hosts enforces permitted p f side is specific)
          ((λ h. allowed_expected permitted stateful past p (state_of (tables (host_on side f)) p) (sound (host_on side f)) (sym verdict)), (λ e. refl))).0 refl

      by_ends : (b : Bool) → enforces f.from ≡ b → (c : Bool) → enforces f.to ≡ c → Passed past p
      by_ends true from c to = allowed Outbound from (taken tables p f Outbound true known is from sends)
      by_ends false from true to =
          allowed Inbound to (sym so ∙ subst (λ (k : ConnectionTable). passes ≡ may_pass permitted stateful (state_of k p) p)
          (other_table enforces tables f.from p true f.to (flow_apart hosts p f is)) (taken (after_taken enforces tables f.from p true) p f Inbound passes known is to receives))
      by_ends false from false to = inl (unguarded hosts enforces permitted p f is from to)

  -- A host lets a permitted packet pass in every state.
  decides_permitted : (tables : Tables) (p : Packet) (f : Flow) (side : Direction) (passes : Bool) → Known p → permitted p ≡ true → flow_of hosts p ≡ Some f
      → Processes enforces firewalls tables (host_on side f) side p passes → passes ≡ true
  decides_permitted tables p f side passes known allowed is takes = by_test (enforces (host_on side f)) refl
    where
      by_test : (b : Bool) → enforces (host_on side f) ≡ b → passes ≡ true
      by_test true specific = taken tables p f side passes known is specific takes ∙ or_left (permitted p) _ allowed
      by_test false other = takes.by_none other

  -- So with any tables a permitted packet passes.
  pub goes_permitted : (tables : Tables) (p : Packet) → Known p → permitted p ≡ true → (passes : Bool) (behind : Tables) → Goes hosts enforces firewalls tables p passes behind → passes ≡ true
  goes_permitted tables p known allowed passes behind (nowhere is) = absurd (none_without_flow [] p is (inl allowed))
  goes_permitted tables p known allowed passes behind (stays {f} is takes) = decides_permitted tables p f Outbound false known allowed is takes
  goes_permitted tables p known allowed passes behind (reaches_receiver {f} is sends receives) =
      decides_permitted (after_taken enforces tables f.from p true) p f Inbound passes known allowed is receives
