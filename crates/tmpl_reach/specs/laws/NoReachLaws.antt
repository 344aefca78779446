-- No-reach is downward closed and holds for the empty set, and denying all others is a secure default, the only one.
use Rattle.std.proofs.Common.{◌≡◌, ◌≢◌, ℕ, suc, zero, Bool, true, false, not, ◌&&◌, ◌||◌, nat_eq, nat_lt, List, [], ◌∷◌, length, replicate, ◌↔◌, inl, inr, refl, sym, ◌∙◌, ap, subst, get_or-set_same, length-set, arith}
use Rattle.std.specs.Ordering.{nat_cmp}
use Rattle.std.specs.Prelude.{◌⊎◌, ◌<◌, IsTrue, slice_set}
use Rattle.std.specs.FinSet as set
use Rattle.std.proofs.lemmas.Bool.{and_from, and_parts, cases_Bool, cases_eq, eq-eqb, eqb-false, eqb-true, false_from_ne_true, false≢true, lt-ltb, ltb-true, ne_eqb, not_from_false, not_from_true, or_cases, or_left, or_parts}
use Rattle.std.proofs.lemmas.List.{length-replicate}
use Rattle.flow_set.specs.declared.flow.Flow.{Flow}
use Rattle.flow_set.specs.Flow.{IsFlow}
use Rattle.flow_set.specs.FlowSet.{has}
use Rattle.flow_set.specs.laws.FlowLaws.{has_first}
use Rattle.flow_set.specs.inner.Downward.{IsDownwardClosed}
use Rattle.inv_law.specs.inner.Invariants.{ResetPreservesViolation}
use Rattle.inv_law.specs.inner.Template.{LetsOff, MayHaveDefault, OnlyDefaultIsSecure}
use Rattle.inv_law.specs.laws.DefaultLaws.{AllMayHave-one, one_offends}
use Rattle.inv_law.specs.laws.TemplateLaws.{IsLawfulTemplate, lawful_walk}
use Rattle.inv_law.specs.declared.strategy.Strategy.TheVariants.{Access}
use Rattle.flow_set.specs.HostSet.{HostNumbers}
use Rattle.flow_set.specs.laws.HostSetLaws.{contains-hosts_below, contains-insert, hosts_ext}
use Rattle.reach_core.specs.laws.ReachLaws.{Reaches-within, Reaches-none, Reaches-one, reaches_over}
use Rattle.tmpl_reach.specs.NoReach.{AreOthers, no_reach, others, denied_by, ReachesNoDenied}
use Rattle.tmpl_reach.specs.inner.Resets.{ReachesNoDeniedAfterReset}

pub ReachesNoDenied-downward : (n : ℕ) (denied : List HostNumbers) → IsDownwardClosed n (ReachesNoDenied denied)
ReachesNoDenied-downward n denied e s is_set subset holds i j apart denies reaches =
    holds i j apart denies (Reaches-within s e subset.within i j reaches)

pub ReachesNoDenied-none : (denied : List HostNumbers) → ReachesNoDenied denied []
ReachesNoDenied-none denied i j apart denies reaches = Reaches-none i j reaches

pub contains-others : (n host j : ℕ) → set.contains (others n host) j ≡ (nat_lt j n && not (nat_eq j host))
contains-others n host j = contains-hosts_below n (λ other. not (nat_eq other host)) j

-- One more host may be denied if and only if it is another one of the hosts.
pub AreOthers-insert : (n host : ℕ) (denied : HostNumbers) (other : ℕ) → AreOthers n host denied
    → ((other < n) × (host ≢ other)) ↔ AreOthers n host (set.insert denied other)
AreOthers-insert n host denied other may = (
  λ (within, apart) j denies. elim (or_cases (nat_eq j other) (set.contains denied j) (sym (contains-insert denied other j) ∙ denies)) [
    | inl same ↦
        contains-others n host j
        ∙ and_from _ _ (lt-ltb j n (subst (λ k. k < n) (sym (eqb-true j other same)) within))
        (not_from_false _ (ne_eqb j host (λ is. apart (sym is ∙ eqb-true j other same))))
    | inr before ↦ may j before
  ],
  λ all.
      let (below, apart) =
      and_parts (nat_lt other n) (not (nat_eq other host))
      (sym (contains-others n host other) ∙ all other (contains-insert denied other other ∙ or_left _ _ (eq-eqb other other refl))) in
      (ltb-true other n below, λ same. false≢true (sym (not_from_true (nat_eq other host) (eq-eqb other host (sym same))) ∙ apart)),
)

-- A host that denies none, and a host with the default.
pub AreOthers-none : (n host : ℕ) → AreOthers n host set.empty
AreOthers-none n host j denies = absurd (false≢true (sym (set.contains-empty nat_cmp j) ∙ denies))

pub no_reach_default : MayHaveDefault no_reach
no_reach_default n host within j denies = denies

-- An offending host sends, so it reaches another host, and denies it after its reset.
pub ReachesNoDenied-reset : (denied : List HostNumbers)
    → ResetPreservesViolation (length denied) Access (ReachesNoDenied denied) (ReachesNoDeniedAfterReset denied)
ReachesNoDenied-reset denied e f host is_set minimal offending holds =
    let g : Flow = offending.flow in
    let in_e : IsTrue (has e g) = minimal.within.within g offending.offends in
    let is_flow : IsFlow (length denied) g = is_set.flows g in_e in
    let all : HostNumbers = others (length denied) g.from in
    let apart : g.to ≢ g.from = λ same. is_flow.2 (sym same) in
    let denies : IsTrue (set.contains all g.to) =
    contains-others (length denied) g.from g.to ∙ and_from _ _ (lt-ltb _ _ is_flow.1) (not_from_false _ (ne_eqb _ _ apart)) in
    let after : ReachesNoDenied (slice_set denied g.from all) e =
    subst (λ h. ReachesNoDenied (slice_set denied h (others (length denied) h)) e) (sym offending.blamed) holds in
    after g.from g.to is_flow.2 (ap (λ s. set.contains s g.to) (get_or-set_same denied g.from all set.empty is_flow.0) ∙ denies)
    (reaches_over e g in_e)

-- A single flow: its sender reaches its receiver.
pub ReachesNoDenied-one : (denied : List HostNumbers) (f : Flow) → IsFlow (length denied) f
    → (IsTrue (set.contains (denied_by denied f.from) f.to) → ⊥) ↔ ReachesNoDenied denied (f ∷ [])
ReachesNoDenied-one denied f is_flow = (
  λ allows i j apart denies reaches.
      let ends = Reaches-one f i j reaches in
      allows (subst (λ h. IsTrue (set.contains (denied_by denied h) f.to)) ends.0 (subst (λ h. IsTrue (set.contains (denied_by denied i) h)) ends.1 denies)),
  λ holds denies. holds f.from f.to is_flow.2 denies (reaches_over (f ∷ []) f (has_first f [])),
)

-- An example: the first of three hosts denies the third, and reaches it by the second.

abbrev chain : List Flow
chain = record { from = 0; to = 1 } ∷ record { from = 1; to = 2 } ∷ []

example_chain : ReachesNoDenied (set.from_list (2 ∷ []) ∷ set.empty ∷ set.empty ∷ []) chain → ⊥
example_chain holds =
    holds 0 2 (λ same. omega arith) (set.contains-from_list_nat (2 ∷ []) 2)
    (record { from = 0; to = 1 }, record { from = 1; to = 2 } ∷ [], (refl, refl, (refl, refl, refl)))

pub no_reach_lawful : IsLawfulTemplate no_reach
no_reach_lawful =
    lawful_walk no_reach.name no_reach.strategy AreOthers others ReachesNoDenied ReachesNoDenied-downward ReachesNoDenied-none ReachesNoDenied-reset

-- A test is satisfied by every number below n, or there is one that fails it.
all_or_one : (test : ℕ → Bool) (n : ℕ) → ((j : ℕ) → j < n → test j ≡ true) ⊎ ((j : ℕ) × (j < n) × (test j ≡ false))
all_or_one test zero = inl (λ j below. absurd (omega arith))
all_or_one test (suc n) =
    elim (all_or_one test n) [
      | inr one ↦ inr (one.0, omega (arith, one.1), one.2)
      | inl all ↦ elim (cases_Bool (test n)) [
        | inr fails ↦ inr (n, omega arith, fails)
        | inl meets ↦ inl (λ j below. elim (cases_eq j n) [
          | inl last ↦ ap test last ∙ meets
          | inr earlier ↦ all j (omega arith)
        ])
      ]
    ]

-- A host that does not deny all others may reach one of them.
pub no_reach_only : OnlyDefaultIsSecure no_reach
no_reach_only n host x two is_host may other =
    elim (all_or_one (λ j. set.contains x j || nat_eq j host) n) [
      | inl all ↦ absurd (other (hosts_ext x (others n host) (λ j. same_answer j all)))
      | inr one ↦
          let parts = or_parts (set.contains x one.0) (nat_eq one.0 host) one.2 in
          free one.0 one.1 (eqb-false one.0 host parts.1) parts.0
    ]
  where
    same_answer : (j : ℕ) → ((j : ℕ) → j < n → (set.contains x j || nat_eq j host) ≡ true) → set.contains x j ≡ set.contains (others n host) j
    same_answer j all =
        elim (cases_Bool (set.contains (others n host) j)) [
          | inr out ↦ false_from_ne_true (set.contains x j) (λ denies. false≢true (sym out ∙ may j denies)) ∙ sym out
          | inl among ↦
              let (below, apart) = and_parts (nat_lt j n) (not (nat_eq j host)) (sym (contains-others n host j) ∙ among) in
              elim (or_cases (set.contains x j) (nat_eq j host) (all j (ltb-true j n below))) [
                | inl denies ↦ denies ∙ sym among
                | inr same ↦ absurd (false≢true (sym (not_from_true (nat_eq j host) same) ∙ apart))
              ]
        ]

    free : (j : ℕ) → j < n → j ≢ host → set.contains x j ≡ false → LetsOff no_reach n host x
    free j within apart passes =
        let none : List HostNumbers = replicate n set.empty in
        let hosts : List HostNumbers = slice_set none host (others n host) in
        let f : Flow = record { from = host; to = j } in
        let at_none : host < length none = subst (λ m. host < m) (sym (length-replicate n set.empty)) is_host in
        let sized : length hosts ≡ n = length-set none host (others n host) ∙ length-replicate n set.empty in
        let after : length (slice_set hosts host x) ≡ n = length-set hosts host x ∙ sized in
        let away : host ≢ j = λ same. apart (sym same) in
        record {
          hosts = hosts;
          sized = sized;
          may = AllMayHave-one no_reach n host (others n host) set.empty (no_reach_default n host is_host) (AreOthers-none n);
          flow = f;
          is_flow = (is_host, within, away);
          offends = one_offends (ReachesNoDenied hosts) f (ReachesNoDenied-none hosts) (λ holds.
              (ReachesNoDenied-one hosts f (omega (arith, sized), omega (arith, sized), away)).1 holds
              (ap (λ s. set.contains s j) (get_or-set_same none host (others n host) set.empty at_none)
              ∙ contains-others n host j ∙ and_from _ _ (lt-ltb j n within) (not_from_false _ (ne_eqb j host apart))));
          blamed = record { flow = f; offends = has_first f []; blamed = refl };
          holds_without = (ReachesNoDenied-one (slice_set hosts host x) f (omega (arith, after), omega (arith, after), away)).0
              (λ denies. false≢true (sym passes ∙ (sym (ap (λ s. set.contains s j) (get_or-set_same hosts host x set.empty (omega (arith, sized)))) ∙ denies)));
        }
