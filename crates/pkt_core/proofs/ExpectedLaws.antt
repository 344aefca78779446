-- Expected results: a firewall that has the verdicts of a policy and tracks connections forwards exactly the packets that are expected to
-- pass.
use Rattle.std.proofs.Common.{◌≡◌, inl, inr, ◌↔◌, ℕ, zero, suc, Bool, true, false, ◌&&◌, IsTrue, List, [], ◌∷◌, ◌++◌, length, take, slice_get, Some, None, refl, sym, ap, subst, ◌∙◌, ◌<◌, append_assoc, append-nil, arith}
use Rattle.std.specs.Prelude.{is_some, Option}
use Rattle.std.proofs.lemmas.Bool.{and_from, and_parts, or_cases, or_left, or_right}
use Rattle.host_net.specs.declared.packet.Packet.{Packet}
use Rattle.host_net.specs.Packet.{swap_of}
use Rattle.pkt_core.specs.declared.event.Event.{Event}
use Rattle.pkt_core.specs.declared.event.Event.TheVariants.{Seen, Forget}
use Rattle.pkt_core.specs.Events.{ForgottenAt, SeenAt}
use Rattle.pkt_core.specs.Tracking.{ConnectionTable, Runs, after_forget, after_seen, no_connections, state_of}
use Rattle.pkt_core.specs.Firewall.{Filter, is_established, may_pass}
use Rattle.pkt_core.specs.inner.FirewallFor.{AllKnown, IsFirewallFor, StatefulArePermitted}
use Rattle.pkt_core.specs.laws.ConnectionTableLaws.{Fits, Fits-forget, Fits-seen, Fits-start, answer_is_established, established_by}
use Rattle.pkt_core.specs.Expected.{AreExpected, Expected}

-- A packet passes if and only if it is expected.
pub passes_as_expected : {Known : Packet → Type 0} (permitted stateful : Packet → Bool) → StatefulArePermitted Known permitted stateful →
    (past : List Event) (kept : ConnectionTable) → Fits Known permitted past kept → (p : Packet)
    → IsTrue (may_pass permitted stateful (state_of kept p) p) ↔ Expected permitted stateful past p
passes_as_expected permitted stateful policy past kept fits p = (λ h. sound h, λ h. complete h)
  where
    sound : may_pass permitted stateful (state_of kept p) p ≡ true → Expected permitted stateful past p
    sound h = elim (or_cases (permitted p) (stateful (swap_of p) && is_established (state_of kept p)) h) [
      | inl allowed ↦ inl allowed
      | inr answers ↦
          let parts = and_parts (stateful (swap_of p)) (is_established (state_of kept p)) answers in
          elim (established_by kept p parts.1) [
            | inl other ↦ inr (parts.0, fits.was_seen (swap_of p) other)
            | inr own ↦ inl (fits.allowed p own)
          ]
    ]

    complete : Expected permitted stateful past p → may_pass permitted stateful (state_of kept p) p ≡ true
    complete e = elim e [
      | inl allowed ↦ or_left (permitted p) _ allowed
      | inr answers ↦ elim (or_cases (is_some (kept (swap_of p))) (is_some (kept p)) (fits.is_kept (swap_of p) answers.1 (policy (swap_of p) (fits.known (swap_of p) answers.1) answers.0))) [
        | inl other ↦ or_right (permitted p) _ (and_from (stateful (swap_of p)) _ answers.0 (answer_is_established kept p other))
        | inr own ↦ or_left (permitted p) _ (fits.allowed p own)
      ]
    ]

-- The results are as expected after the events that preceded.
pub record AreExpectedBehind (permitted stateful : Packet → Bool) (past events : List Event) (answers : List (Option Bool)) : Type 0 where
  pub as_many : length answers ≡ length events
  pub seen : (k : ℕ) (p : Packet) → SeenAt events k p
      → (passes : Bool) × (slice_get answers k ≡ Some (Some passes)) × (IsTrue passes ↔ Expected permitted stateful (past ++ take k events) p)
  pub forgotten : (k : ℕ) (p : Packet) → ForgottenAt events k p → slice_get answers k ≡ Some None

-- One more event at the front.
one_more : (permitted stateful : Packet → Bool) (past : List Event) (event : Event) (events : List Event) (answer : Option Bool)
    (answers : List (Option Bool)) →
    ((p : Packet) → event ≡ Seen p → (passes : Bool) × (answer ≡ Some passes) × (IsTrue passes ↔ Expected permitted stateful past p)) →
    ((p : Packet) → event ≡ Forget p → answer ≡ None) →
    AreExpectedBehind permitted stateful (past ++ event ∷ []) events answers → AreExpectedBehind permitted stateful past (event ∷ events) (answer ∷ answers)
one_more permitted stateful past event events answer answers if_seen if_forgotten rest = record { as_many = ap suc rest.as_many; seen = seen_at; forgotten = forgotten_at }
  where
    only : (e : Event) → Some event ≡ Some e → event ≡ e
    only e h = cc

    seen_at : (k : ℕ) (p : Packet) → SeenAt (event ∷ events) k p
        → (passes : Bool) × (slice_get (answer ∷ answers) k ≡ Some (Some passes)) × (IsTrue passes ↔ Expected permitted stateful (past ++ take k (event ∷ events)) p)
    seen_at zero p there =
        let now = if_seen p (only (Seen p) there) in
        (now.0, ap (λ (a : Option Bool). Some a) now.1, subst (λ (es : List Event). IsTrue now.0 ↔ Expected permitted stateful es p) (sym (append-nil past)) now.2)
    seen_at (suc k) p there =
        let later = rest.seen k p there in
        (later.0, later.1, subst (λ (es : List Event). IsTrue later.0 ↔ Expected permitted stateful es p) (append_assoc past (event ∷ []) (take k events)) later.2)

    forgotten_at : (k : ℕ) (p : Packet) → ForgottenAt (event ∷ events) k p → slice_get (answer ∷ answers) k ≡ Some None
    forgotten_at zero p there = ap (λ (a : Option Bool). Some a) (if_forgotten p (only (Forget p) there))
    forgotten_at (suc k) p there = rest.forgotten k p there

-- The empty list of events has the empty list of results, as expected.
pub none_expected : (permitted stateful : Packet → Bool) (past : List Event) → AreExpectedBehind permitted stateful past [] []
none_expected permitted stateful past = record {
  as_many = refl;
  seen = λ k p h. absurd (none_seen k p h);
  forgotten = λ k p h. absurd (none_forgotten k p h);
}
  where
    none_seen : (k : ℕ) (p : Packet) → SeenAt [] k p → ⊥
    none_seen k p h = cc

    none_forgotten : (k : ℕ) (p : Packet) → ForgottenAt [] k p → ⊥
    none_forgotten k p h = cc

-- A packet with the expected result, before expected results.
pub seen_expected : (permitted stateful : Packet → Bool) (past : List Event) (p : Packet) (events : List Event) (passes : Bool)
    (answers : List (Option Bool)) →
    (IsTrue passes ↔ Expected permitted stateful past p) →
    AreExpectedBehind permitted stateful (past ++ Seen p ∷ []) events answers → AreExpectedBehind permitted stateful past (Seen p ∷ events) (Some passes ∷ answers)
seen_expected permitted stateful past p events passes answers is rest =
    one_more permitted stateful past (Seen p) events (Some passes) answers
    (λ q h. (passes, refl, subst (λ (r : Packet). IsTrue passes ↔ Expected permitted stateful past r) (same_seen p q h) is))
    (λ q h. absurd (seen_is_not p q h)) rest
  where
    same_seen : (p q : Packet) → Seen p ≡ Seen q → p ≡ q
    same_seen p q h = cc

    seen_is_not : (p q : Packet) → Seen p ≡ Forget q → ⊥
    seen_is_not p q h = cc

-- A forget event before expected results.
pub forgotten_expected : (permitted stateful : Packet → Bool) (past : List Event) (p : Packet) (events : List Event)
    (answers : List (Option Bool)) →
    AreExpectedBehind permitted stateful (past ++ Forget p ∷ []) events answers → AreExpectedBehind permitted stateful past (Forget p ∷ events) (None ∷ answers)
forgotten_expected permitted stateful past p events answers rest =
    one_more permitted stateful past (Forget p) events None answers (λ q h. absurd (forget_is_not p q h)) (λ q h. refl) rest
  where
    forget_is_not : (p q : Packet) → Forget p ≡ Seen q → ⊥
    forget_is_not p q h = cc

-- Results that are as expected from the start.
pub all_expected : (permitted stateful : Packet → Bool) (events : List Event) (answers : List (Option Bool))
    → AreExpectedBehind permitted stateful [] events answers → AreExpected permitted stateful events answers
all_expected permitted stateful events answers all = record { as_many = all.as_many; seen = all.seen; forgotten = all.forgotten }

same_by_places : {A : Type 0} (xs ys : List A) → length xs ≡ length ys → ((k : ℕ) → k < length xs → slice_get xs k ≡ slice_get ys k)
    → xs ≡ ys
same_by_places [] [] long same = refl
same_by_places [] (y ∷ ys) long same = absurd (omega arith)
same_by_places (x ∷ xs) [] long same = absurd (omega arith)
same_by_places (x ∷ xs) (y ∷ ys) long same =
    let front : x ≡ y = only x y (same zero (omega arith)) in
    let rest : xs ≡ ys = same_by_places xs ys (omega arith) (λ k below. same (suc k) (omega arith)) in
    λ i. front i ∷ rest i
  where
    only : {A : Type 0} (a b : A) → Some a ≡ Some b → a ≡ b
    only a b h = cc

same_test : {E : Type 0} (a b : Bool) → (IsTrue a ↔ E) → (IsTrue b ↔ E) → a ≡ b
same_test true true first second = refl
same_test false false first second = refl
same_test true false first second = sym (second.1 (first.0 refl))
same_test false true first second = first.1 (second.0 refl)

some_place : {A : Type 0} (xs : List A) (k : ℕ) → k < length xs → (x : A) × (slice_get xs k ≡ Some x)
some_place [] k below = absurd (omega arith)
some_place (x ∷ xs) zero below = (x, refl)
some_place (x ∷ xs) (suc k) below = some_place xs k (omega arith)

-- The expected results are unique.
pub expected_once : (permitted stateful : Packet → Bool) (events : List Event) (answers others : List (Option Bool)) →
    AreExpected permitted stateful events answers → AreExpected permitted stateful events others → answers ≡ others
expected_once permitted stateful events answers others first second =
    same_by_places answers others (first.as_many ∙ sym second.as_many) (λ k below. let here = some_place events k (omega (arith, first.as_many)) in at k here.0 here.1)
  where
    at : (k : ℕ) (e : Event) → slice_get events k ≡ Some e → slice_get answers k ≡ slice_get others k
    at k (Seen p) there =
        let a = first.seen k p there in
        let b = second.seen k p there in
        a.1 ∙ ap (λ (passes : Bool). Some (Some passes)) (same_test a.0 b.0 a.2 b.2) ∙ sym b.1
    at k (Forget p) there = first.forgotten k p there ∙ sym (second.forgotten k p there)

run_behind : (filter : Filter) (Known : Packet → Type 0) (permitted stateful : Packet → Bool)
    → IsFirewallFor filter Known permitted stateful →
    (past : List Event) (kept : ConnectionTable) → Fits Known permitted past kept → (events : List Event) → AllKnown Known events
    → (answers : List (Option Bool)) → Runs filter kept events answers →
    AreExpectedBehind permitted stateful past events answers
run_behind filter Known permitted stateful firewall past kept fits [] known [] run = none_expected permitted stateful past
run_behind filter Known permitted stateful firewall past kept fits [] known (answer ∷ answers) run = absurd run
run_behind filter Known permitted stateful firewall past kept fits (Seen p ∷ events) known [] run = absurd run
run_behind filter Known permitted stateful firewall past kept fits (Forget p ∷ events) known [] run = absurd run
run_behind filter Known permitted stateful firewall past kept fits (Seen p ∷ events) known (None ∷ answers) run = absurd run
run_behind filter Known permitted stateful firewall past kept fits (Seen p ∷ events) known (Some passes ∷ answers) run =
    let is : passes ≡ may_pass permitted stateful (state_of kept p) p = firewall.only (state_of kept p) p passes (known zero p refl) run.0 in
    let rest = run_behind filter Known permitted stateful firewall (past ++ Seen p ∷ []) (after_seen kept p passes)
    (subst (λ (b : Bool). Fits Known permitted (past ++ Seen p ∷ []) (after_seen kept p b)) (sym is) (Fits-seen permitted stateful past kept p (known zero p refl) fits))
    events (λ k q there. known (suc k) q there) answers run.1 in
    seen_expected permitted stateful past p events passes answers
    (subst (λ (b : Bool). IsTrue b ↔ Expected permitted stateful past p) (sym is) (passes_as_expected permitted stateful firewall.policy past kept fits p)) rest
run_behind filter Known permitted stateful firewall past kept fits (Forget p ∷ events) known (Some passes ∷ answers) run = absurd run
run_behind filter Known permitted stateful firewall past kept fits (Forget p ∷ events) known (None ∷ answers) run =
    forgotten_expected permitted stateful past p events answers
    (run_behind filter Known permitted stateful firewall (past ++ Forget p ∷ []) (after_forget kept p) (Fits-forget permitted past kept p fits)
    events (λ k q there. known (suc k) q there) answers run)

-- Every run from the empty table has the expected results.
pub runs_as_expected : (filter : Filter) (Known : Packet → Type 0) (permitted stateful : Packet → Bool)
    → IsFirewallFor filter Known permitted stateful →
    (events : List Event) → AllKnown Known events → (answers : List (Option Bool)) → Runs filter no_connections events answers
    → AreExpected permitted stateful events answers
runs_as_expected filter Known permitted stateful firewall events known answers run =
    all_expected permitted stateful events answers (run_behind filter Known permitted stateful firewall [] no_connections (Fits-start permitted) events known answers run)

-- A run exists, for every table.
pub some_run : (filter : Filter) (Known : Packet → Type 0) (permitted stateful : Packet → Bool)
    → IsFirewallFor filter Known permitted stateful →
    (kept : ConnectionTable) (events : List Event) → AllKnown Known events → (answers : List (Option Bool)) × Runs filter kept events answers
some_run filter Known permitted stateful firewall kept [] known = ([], tt)
some_run filter Known permitted stateful firewall kept (Seen p ∷ events) known =
    let passes = may_pass permitted stateful (state_of kept p) p in
    let rest = some_run filter Known permitted stateful firewall (after_seen kept p passes) events (λ k q there. known (suc k) q there) in
    (Some passes ∷ rest.0, (firewall.given (state_of kept p) p (known zero p refl), rest.1))
some_run filter Known permitted stateful firewall kept (Forget p ∷ events) known =
    let rest = some_run filter Known permitted stateful firewall (after_forget kept p) events (λ k q there. known (suc k) q there) in
    (None ∷ rest.0, rest.1)
