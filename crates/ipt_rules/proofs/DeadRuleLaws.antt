-- Removing rules that a packet does not meet preserves its verdict.
use Rattle.std.proofs.Common.{◌≡◌, ◌↔◌, ℕ, zero, suc, ◌+◌, ◌∙◌, sym, ap, refl, Bool, true, false, List, [], ◌∷◌, Option, Some, None, IsTrue, subst, arith}
use Rattle.std.specs.Prelude.{if◌then◌else◌}
use Rattle.host_net.specs.declared.packet.Packet.{Packet}
use Rattle.host_net.specs.declared.packet.CtState.{CtState}
use Rattle.host_net.specs.declared.packet.Verdict.{Verdict}
use Rattle.ipt_rules.specs.declared.marks.Place.{Place}
use Rattle.ipt_rules.specs.declared.rule.Policy.{Policy}
use Rattle.ipt_rules.specs.declared.rule.Rule.{Rule}
use Rattle.ipt_rules.specs.declared.rule.Target.{Target}
use Rattle.ipt_rules.specs.Chain.{Chain, rules_of, policy_of}
use Rattle.ipt_rules.specs.DeadRules.{MeetsNone, without_from, without_places, without_rules}
use Rattle.ipt_rules.specs.Matching.{matches}
use Rattle.ipt_rules.specs.Semantics.{Continues, JumpsTo, step_of, Gives, at_end, goes_on, ends, decides, comes_back, verdict_by}
use Rattle.ipt_rules.specs.Meets.{MeetsFrom, meets_here, meets_later, meets_inside, meets_behind}
use Rattle.ipt_rules.specs.inner.OneOutcome.{AreDeterministic, HasVerdict}
use Rattle.ipt_rules.proofs.MeaningLaws.{verdict_once}
use Rattle.ipt_rules.proofs.MeetsLaws.{ended_fits}

walked_fits : (b : Bool) (t : Target) (d : ℕ) → step_of b t ≡ JumpsTo d → b ≡ true
walked_fits false t d is = cc
walked_fits true t d is = refl

-- ---- the remaining chains

rules_from : (places : Place → Bool) (n : ℕ) (xs : List Chain) (c : ℕ) → rules_of (without_from places n xs) c ≡ without_rules places (n + c) 0 (rules_of xs c)
rules_from places n [] c = refl
rules_from places n (x ∷ xs) zero = ap (λ (k : ℕ). without_rules places k 0 x.rules) (omega arith)
rules_from places n (x ∷ xs) (suc c) = rules_from places (n + 1) xs c ∙ ap (λ (k : ℕ). without_rules places k 0 (rules_of xs c)) (omega arith)

rules_left : (places : Place → Bool) (chains : List Chain) (c : ℕ) → rules_of (without_places places chains) c ≡ without_rules places c 0 (rules_of chains c)
rules_left places chains c = rules_from places 0 chains c ∙ ap (λ (k : ℕ). without_rules places k 0 (rules_of chains c)) (omega arith)

policy_left : (places : Place → Bool) (n : ℕ) (xs : List Chain) (c : ℕ) → policy_of (without_from places n xs) c ≡ policy_of xs c
policy_left places n [] c = refl
policy_left places n (x ∷ xs) zero = refl
policy_left places n (x ∷ xs) (suc c) = policy_left places (n + 1) xs c

-- ---- the outcome of the remaining rules

-- A rule that continues remains, or it is removed.
passed_left : (fits : Rule → Bool) (chains : List Chain) (r : Rule) (rs : List Rule) (o : Option Verdict) (b : Bool) → step_of (fits r) r.target ≡ Continues → Gives fits chains rs o → Gives fits chains (if b then rs else r ∷ rs) o
passed_left fits chains r rs o true step g = g
passed_left fits chains r rs o false step g = goes_on step g

-- A rule that is met remains.
met_left : (fits : Rule → Bool) (chains : List Chain) (r : Rule) (rs : List Rule) (o : Option Verdict) (b : Bool) → (b ≡ true → ⊥) → Gives fits chains (r ∷ rs) o → Gives fits chains (if b then rs else r ∷ rs) o
met_left fits chains r rs o true off g = absurd (off refl)
met_left fits chains r rs o false off g = g

pub gives_left : {fits : Rule → Bool} {chains : List Chain} {rs : List Rule} {o : Option Verdict} → Gives fits chains rs o → (places : Place → Bool) (c n : ℕ)
    → ((place : Place) → IsTrue (places place) → MeetsFrom fits chains place c n rs → ⊥) → Gives fits (without_places places chains) (without_rules places c n rs) o
gives_left at_end places c n none = at_end
gives_left {fits} {chains} (goes_on {r} {rs} {o} step g) places c n none =
    passed_left fits (without_places places chains) r (without_rules places c (n + 1) rs) o (places (record { chain = c; rule = n })) step
    (gives_left g places c (n + 1) (λ place on m. none place on (meets_later step m)))
gives_left {fits} {chains} (ends {r} {rs} {o} step) places c n none =
    met_left fits (without_places places chains) r (without_rules places c (n + 1) rs) o (places (record { chain = c; rule = n }))
    (λ on. none (record { chain = c; rule = n }) on (meets_here refl (ended_fits (fits r) r.target o step))) (ends step)
gives_left {fits} {chains} (decides {r} {rs} {v} {c = d} step g) places c n none =
    let inner = gives_left g places d 0 (λ place on m. none place on (meets_inside step m)) in
    met_left fits (without_places places chains) r (without_rules places c (n + 1) rs) (Some v) (places (record { chain = c; rule = n }))
    (λ on. none (record { chain = c; rule = n }) on (meets_here refl (walked_fits (fits r) r.target d step)))
    (decides step (subst (λ (ts : List Rule). Gives fits (without_places places chains) ts (Some v)) (sym (rules_left places chains d)) inner))
gives_left {fits} {chains} (comes_back {r} {rs} {o} {c = d} step back g) places c n none =
    let inner = gives_left back places d 0 (λ place on m. none place on (meets_inside step m)) in
    let later = gives_left g places c (n + 1) (λ place on m. none place on (meets_behind step back m)) in
    met_left fits (without_places places chains) r (without_rules places c (n + 1) rs) o (places (record { chain = c; rule = n }))
    (λ on. none (record { chain = c; rule = n }) on (meets_here refl (walked_fits (fits r) r.target d step)))
    (comes_back step (subst (λ (ts : List Rule). Gives fits (without_places places chains) ts None) (sym (rules_left places chains d)) inner) later)

-- ---- the verdict

verdict_left : (places : Place → Bool) (chains : List Chain) (p : Packet) (state : CtState) (v : Verdict) → MeetsNone places chains p state → HasVerdict chains p state v → HasVerdict (without_places places chains) p state v
verdict_left places chains p state v none has = record {
  outcome = has.outcome;
  gives =
      subst (λ (rs : List Rule). Gives (matches p state) (without_places places chains) rs has.outcome) (sym (rules_left places chains 1))
      (gives_left has.gives places 1 0 none);
  verdict = has.verdict ∙ ap (λ (policy : Option Policy). verdict_by policy has.outcome) (sym (policy_left places 0 chains 1));
}

-- A packet has the same verdict without rules that it does not meet.
pub same_verdicts : (places : Place → Bool) (chains : List Chain) (p : Packet) (state : CtState) → AreDeterministic chains → MeetsNone places chains p state
    → (v : Verdict) → (HasVerdict chains p state v ↔ HasVerdict (without_places places chains) p state v)
same_verdicts places chains p state each none v = (
  verdict_left places chains p state v none,
  λ left.
      let one = each (matches p state) 1 0 in
      let w = verdict_by (policy_of chains 1) one.outcome in
      let has : HasVerdict chains p state w = record { outcome = one.outcome; gives = one.gives; verdict = refl } in
      subst (λ (x : Verdict). HasVerdict chains p state x) (verdict_once (verdict_left places chains p state w none has) left) has,
)
