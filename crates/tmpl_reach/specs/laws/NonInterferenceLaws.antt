-- Non-interference is downward closed and holds for the empty set, and to be interfering is a secure default, the only one.
use Rattle.std.proofs.Common.{◌≡◌, ◌≢◌, ℕ, List, [], ◌∷◌, length, replicate, set, ◌↔◌, inl, inr, refl, sym, ◌∙◌, subst, arith, get_or-set_same, get_or-set_other, length-set}
use Rattle.std.specs.Prelude.{IsTrue, slice_set}
use Rattle.std.proofs.lemmas.Bool.{cases_eq, or_cases, and_parts}
use Rattle.std.proofs.lemmas.List.{get_or-replicate, length-replicate}
use Rattle.flow_set.specs.declared.flow.Flow.{Flow}
use Rattle.flow_set.specs.Flow.{IsFlow, same_flow}
use Rattle.flow_set.specs.FlowSet.{has, with_flow, without}
use Rattle.flow_set.specs.laws.FlowLaws.{has_first, has-with_flow, has-without, same_flow-true}
use Rattle.flow_set.specs.inner.Downward.{IsDownwardClosed}
use Rattle.inv_law.specs.inner.Invariants.{ResetPreservesViolation}
use Rattle.inv_law.specs.Template.{AnyAttribute}
use Rattle.inv_law.specs.inner.Template.{MayHaveDefault, OnlyDefaultIsSecure}
use Rattle.inv_law.specs.laws.DefaultLaws.{Another, another, one_offends}
use Rattle.inv_law.specs.laws.TemplateLaws.{IsLawfulTemplate, lawful_walk}
use Rattle.inv_law.specs.declared.strategy.Strategy.TheVariants.{Information}
use Rattle.reach_core.specs.Walks.{Joined, has_either}
use Rattle.reach_core.specs.laws.WalkLaws.{cases_path}
use Rattle.reach_core.specs.laws.ReachLaws.{Joined-nothing_new, Joined-touching, Joined-untouched, Joined-within, Joined-none, Joined-one, joined_over, joined_through}
use Rattle.tmpl_reach.specs.inner.Interferences.{StaysIsolated}
use Rattle.tmpl_reach.specs.NonInterference.{non_interference, IsInterfering, IsNonInterfering}
use Rattle.tmpl_reach.specs.inner.Resets.{IsNonInterferingAfterReset}
use Rattle.tmpl_reach.specs.declared.non_interference.Interference.{Interference}
use Rattle.tmpl_reach.specs.declared.non_interference.Interference.TheVariants.{Interfering, Unrelated}

pub IsNonInterfering-downward : (n : ℕ) (hosts : List Interference) → IsDownwardClosed n (IsNonInterfering hosts)
IsNonInterfering-downward n hosts e s is_set subset holds i first j apart second joined =
    holds i first j apart second (Joined-within s e subset.within i j joined)

pub IsNonInterfering-none : (hosts : List Interference) → IsNonInterfering hosts []
IsNonInterfering-none hosts i first j apart second joined = Joined-none i j joined

-- Inserting a removed flow of e results in flows of e only.
put_back-within : (e f : List Flow) (g : Flow) → IsTrue (has e g) → (x : Flow) → IsTrue (has (with_flow (without e f) g) x)
    → IsTrue (has e x)
put_back-within e f g in_e x shown =
    elim (or_cases (same_flow g x) (has (without e f) x) (sym (has-with_flow (without e f) g x) ∙ shown)) [
      | inl same ↦ subst (λ (h : Flow). IsTrue (has e h)) (same_flow-true g x same) in_e
      | inr stays ↦ (and_parts _ _ (sym (has-without e f x) ∙ stays)).0
    ]

still_interfering : (hosts : List Interference) (host i : ℕ) → i ≢ host → IsInterfering hosts i
    → IsInterfering (slice_set hosts host Interfering) i
still_interfering hosts host i other interferes = get_or-set_other hosts host i Interfering Unrelated other ∙ interferes

-- The receiver of an offending flow is on a walk between two interfering hosts, and differs from one of them.
pub IsNonInterfering-reset : (hosts : List Interference)
    → ResetPreservesViolation (length hosts) Information (IsNonInterfering hosts) (IsNonInterferingAfterReset hosts)
IsNonInterfering-reset hosts e f host is_set minimal offending holds =
    let g : Flow = offending.flow in
    let in_e : IsTrue (has e g) = minimal.within.within g offending.offends in
    let back : List Flow = with_flow (without e f) g in
    let after : IsNonInterfering (slice_set hosts g.to Interfering) e =
    subst (λ h. IsNonInterfering (slice_set hosts h Interfering) e) (sym offending.blamed) holds in
    let between : IsInterfering (slice_set hosts g.to Interfering) g.to =
    get_or-set_same hosts g.to Interfering Unrelated (is_set.flows g in_e).1 in
    let wider : (i j : ℕ) → Joined back i j → Joined e i j = Joined-within back e (put_back-within e f g in_e) in
    minimal.minimal g offending.offends (λ i first j apart second joined.
    elim (joined_through (without e f) g i j joined) [
      | inl stays ↦ minimal.holds_without i first j apart second stays
      | inr parts ↦ elim (cases_eq i g.to) [
        | inl here ↦ elim (cases_path (has_either back) g.to j parts.1) [
          | inl there ↦ apart (here ∙ there)
          | inr walk ↦
              let other : j ≢ g.to = λ same. apart (here ∙ sym same) in
              after g.to between j (λ same. other (sym same)) (still_interfering hosts g.to j other second) (wider g.to j walk)
        ]
        | inr other ↦ elim (cases_path (has_either back) i g.to parts.0) [
          | inl here ↦ other here
          | inr walk ↦ after i (still_interfering hosts g.to i other first) g.to other between (wider i g.to walk)
        ]
      ]
    ])

-- A flow between hosts that are joined already violates nothing.
pub IsNonInterfering-nothing_new : (hosts : List Interference) (e : List Flow) (f : Flow) → Joined e f.from f.to
    → IsNonInterfering hosts e → IsNonInterfering hosts (with_flow e f)
IsNonInterfering-nothing_new hosts e f there holds i first j apart second joined =
    holds i first j apart second (Joined-nothing_new e f there i j joined)

-- One more flow changes nothing for the hosts that are then not joined with its sender.
pub StaysIsolated-with_flow : (hosts : List Interference) (e : List Flow) (f : Flow) → IsNonInterfering hosts e → (host : ℕ)
    → StaysIsolated hosts (with_flow e f) f.from host
StaysIsolated-with_flow hosts e f holds host never first j apart second joined =
    holds host first j apart second
    (Joined-untouched e f host j (λ touches. never (Joined-touching e f f.from host (inl ([], refl)) touches)) joined)

-- A single flow joins its two hosts.
pub IsNonInterfering-one : (hosts : List Interference) (f : Flow) → IsFlow (length hosts) f
    → (IsInterfering hosts f.from → IsInterfering hosts f.to → ⊥) ↔ IsNonInterfering hosts (f ∷ [])
IsNonInterfering-one hosts f is_flow = (
  λ not_both i first j apart second joined.
      let ends = Joined-one f i j joined in
      elim ends.0 [
        | inl i_from ↦ elim ends.1 [
          | inl j_from ↦ apart (i_from ∙ sym j_from)
          | inr j_to ↦ not_both (subst (IsInterfering hosts) i_from first) (subst (IsInterfering hosts) j_to second)
        ]
        | inr i_to ↦ elim ends.1 [
          | inl j_from ↦ not_both (subst (IsInterfering hosts) j_from second) (subst (IsInterfering hosts) i_to first)
          | inr j_to ↦ apart (i_to ∙ sym j_to)
        ]
      ],
  λ holds first second. holds f.from first f.to is_flow.2 second (joined_over (f ∷ []) f (has_first f [])),
)

-- An example: two interfering hosts that send to a third, which is unrelated, are joined by it.

abbrev meeting : List Flow
meeting = record { from = 0; to = 2 } ∷ record { from = 1; to = 2 } ∷ []

example_meeting : IsNonInterfering (Interfering ∷ Interfering ∷ Unrelated ∷ []) meeting → ⊥
example_meeting holds =
    holds 0 refl 1 (λ same. omega arith) refl
    (record { from = 0; to = 2 }, record { from = 2; to = 1 } ∷ [], (refl, refl, (refl, refl, refl)))

pub non_interference_lawful : IsLawfulTemplate non_interference
non_interference_lawful =
    lawful_walk non_interference.name non_interference.strategy
    (λ n host. AnyAttribute) (λ n host. Interfering) IsNonInterfering IsNonInterfering-downward IsNonInterfering-none IsNonInterfering-reset

pub non_interference_default : MayHaveDefault non_interference
non_interference_default n host within = tt

-- A host that is not interfering may learn of another.
pub non_interference_only : OnlyDefaultIsSecure non_interference
non_interference_only n host Interfering two is_host may other = absurd (other refl)
non_interference_only n host Unrelated two is_host may other =
    let o : Another n host = another n host two in
    let hosts : List Interference = replicate n Interfering in
    let f : Flow = record { from = o.other; to = host } in
    let sized : length hosts ≡ n = length-replicate n Interfering in
    let after : length (set hosts host Unrelated) ≡ n = length-set hosts host Unrelated ∙ sized in
    record {
      hosts = hosts;
      sized = sized;
      may = λ k within. tt;
      flow = f;
      is_flow = (o.within, is_host, o.apart);
      offends = one_offends (IsNonInterfering hosts) f (IsNonInterfering-none hosts) (λ holds.
          (IsNonInterfering-one hosts f (omega (arith, sized), omega (arith, sized), o.apart)).1 holds
          (get_or-replicate n o.other Interfering Unrelated o.within) (get_or-replicate n host Interfering Unrelated is_host));
      blamed = record { flow = f; offends = has_first f []; blamed = refl };
      holds_without = (IsNonInterfering-one (set hosts host Unrelated) f (omega (arith, after), omega (arith, after), o.apart)).0
          (λ first second. unrelated (sym (get_or-set_same hosts host Unrelated Unrelated (omega (arith, sized))) ∙ second));
    }
  where
    unrelated : Unrelated ≡ Interfering → ⊥
    unrelated same = cc
