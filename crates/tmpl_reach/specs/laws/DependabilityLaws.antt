-- Dependability is downward closed and holds for the empty set, and the limit 0 is a secure default, the only one.
use Rattle.std.proofs.Common.{◌≡◌, ◌≢◌, ℕ, ◌<◌, List, [], ◌∷◌, length, replicate, get_or, set, length-set, ◌↔◌, inl, inr, refl, sym, ◌∙◌, subst, arith, get_or-set_same}
use Rattle.std.specs.Prelude.{IsTrue, slice_index, slice_set}
use Rattle.std.proofs.lemmas.Bool.{cases_eq}
use Rattle.std.proofs.lemmas.List.{get_or-replicate, length-replicate}
use Rattle.flow_set.specs.declared.flow.Flow.{Flow}
use Rattle.flow_set.specs.Flow.{IsFlow}
use Rattle.flow_set.specs.FlowSet.{has}
use Rattle.flow_set.specs.laws.FlowLaws.{has_first}
use Rattle.flow_set.specs.inner.Downward.{IsDownwardClosed}
use Rattle.inv_law.specs.inner.Invariants.{ResetPreservesViolation}
use Rattle.inv_law.specs.laws.AttributeLaws.{get_or-set_default}
use Rattle.inv_law.specs.Template.{AnyAttribute}
use Rattle.inv_law.specs.inner.Template.{MayHaveDefault, OnlyDefaultIsSecure}
use Rattle.inv_law.specs.laws.DefaultLaws.{Another, another, one_offends}
use Rattle.inv_law.specs.laws.TemplateLaws.{IsLawfulTemplate, lawful_walk}
use Rattle.inv_law.specs.declared.strategy.Strategy.TheVariants.{Access}
use Rattle.reach_core.specs.Walks.{ReachesAtMost}
use Rattle.reach_core.specs.laws.ReachLaws.{ReachesAtMost-within, ReachesAtMost-none, ReachesAtMost-one, sender_reaches}
use Rattle.tmpl_reach.specs.Dependability.{dependability, IsDependable}
use Rattle.tmpl_reach.specs.inner.Resets.{IsDependableAfterReset}

pub IsDependable-downward : (n : ℕ) (limits : List ℕ) → IsDownwardClosed n (IsDependable limits)
IsDependable-downward n limits e s is_set subset holds host below =
    ReachesAtMost-within s e subset.within host _ (holds host below)

pub IsDependable-none : (limits : List ℕ) → IsDependable limits []
IsDependable-none limits host below = ReachesAtMost-none host _

-- An offending host sends, so it reaches another host, and the limit 0 allows none.
pub IsDependable-reset : (limits : List ℕ) → ResetPreservesViolation (length limits) Access (IsDependable limits) (IsDependableAfterReset limits)
IsDependable-reset limits e f host is_set minimal offending holds =
    let in_e : IsTrue (has e offending.flow) = minimal.within.within offending.flow offending.offends in
    let is_flow : IsFlow (length limits) offending.flow = is_set.flows offending.flow in_e in
    let limit : get_or (set limits offending.flow.from 0) offending.flow.from 0 ≡ 0 = get_or-set_default limits offending.flow.from 0 in
    let after : IsDependable (slice_set limits offending.flow.from 0) e =
    subst (λ h. IsDependable (slice_set limits h 0) e) (sym offending.blamed) holds in
    sender_reaches e offending.flow in_e is_flow.2
    (subst (ReachesAtMost e offending.flow.from) limit (after offending.flow.from (omega (arith, is_flow.0, length-set {A = ℕ}))))

-- A single flow: its sender reaches one other host.
pub IsDependable-one : (limits : List ℕ) (f : Flow) → IsFlow (length limits) f
    → (0 < slice_index limits f.from) ↔ IsDependable limits (f ∷ [])
IsDependable-one limits f is_flow = (
  λ allows host below. ReachesAtMost-one f host _ (λ same. subst (λ h. 0 < slice_index limits h) (sym same) allows),
  λ holds. elim (cases_eq (slice_index limits f.from) 0) [
    | inl none ↦ absurd (sender_reaches (f ∷ []) f (has_first f []) is_flow.2 (subst (ReachesAtMost (f ∷ []) f.from) none (holds f.from is_flow.0)))
    | inr some ↦ omega arith
  ],
)

-- An example: of two hosts the first may reach one other, and the second none.

abbrev forth : Flow
forth = record { from = 0; to = 1 }

abbrev back : Flow
back = record { from = 1; to = 0 }

example_within : IsDependable (1 ∷ 0 ∷ []) (forth ∷ [])
example_within = (IsDependable-one (1 ∷ 0 ∷ []) forth (omega arith, omega arith, λ same. omega arith)).0 (omega arith)

example_beyond : IsDependable (1 ∷ 0 ∷ []) (back ∷ []) → ⊥
example_beyond holds =
    let allows : 0 < 0 = (IsDependable-one (1 ∷ 0 ∷ []) back (omega arith, omega arith, λ same. omega arith)).1 holds in
    omega arith

pub dependability_lawful : IsLawfulTemplate dependability
dependability_lawful =
    lawful_walk dependability.name dependability.strategy
    (λ n host. AnyAttribute) (λ n host. 0) IsDependable IsDependable-downward IsDependable-none IsDependable-reset

pub dependability_default : MayHaveDefault dependability
dependability_default n host within = tt

-- A host with a limit above 0 may reach one other.
pub dependability_only : OnlyDefaultIsSecure dependability
dependability_only n host x two is_host may other =
    let o : Another n host = another n host two in
    let hosts : List ℕ = replicate n 0 in
    let f : Flow = record { from = host; to = o.other } in
    let sized : length hosts ≡ n = length-replicate n 0 in
    let after : length (set hosts host x) ≡ n = length-set hosts host x ∙ sized in
    let apart : host ≢ o.other = λ same. o.apart (sym same) in
    record {
      hosts = hosts;
      sized = sized;
      may = λ k within. tt;
      flow = f;
      is_flow = (is_host, o.within, apart);
      offends = one_offends (IsDependable hosts) f (IsDependable-none hosts) (λ holds.
          let some : 0 < slice_index hosts host = (IsDependable-one hosts f (omega (arith, sized), omega (arith, sized), apart)).1 holds in
          let none : slice_index hosts host ≡ 0 = get_or-replicate n host 0 0 is_host in
          omega arith);
      blamed = record { flow = f; offends = has_first f []; blamed = refl };
      holds_without = (IsDependable-one (set hosts host x) f (omega (arith, after), omega (arith, after), apart)).0
          (let now : slice_index (set hosts host x) host ≡ x = get_or-set_same hosts host x 0 (omega (arith, sized)) in
          omega (arith, now));
    }
