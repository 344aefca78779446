-- The verdict is the verdict of the rule that decides, and a packet has exactly one decider.
use Rattle.std.proofs.Common.{◌≡◌, ℕ, zero, suc, ◌+◌, ◌∙◌, sym, ap, refl, Bool, true, false, List, [], ◌∷◌, Option, Some, None, drop, subst}
use Rattle.std.specs.Prelude.{slice_get, IsSome}
use Rattle.std.specs.Option.{option_and_then}
use Rattle.std.proofs.Math.Numerals.{add-one}
use Rattle.host_net.specs.declared.packet.Packet.{Packet}
use Rattle.host_net.specs.declared.packet.CtState.{CtState}
use Rattle.host_net.specs.declared.packet.Verdict.{Verdict}
use Rattle.ipt_rules.specs.declared.marks.Place.{Place}
use Rattle.ipt_rules.specs.declared.rule.Rule.{Rule}
use Rattle.ipt_rules.specs.declared.rule.Target.{Target}
use Rattle.ipt_rules.specs.declared.rule.Target.TheVariants.{Accept, Drop, Reject, Return, Count, Jump}
use Rattle.ipt_rules.specs.Chain.{Chain, rules_of, policy_of}
use Rattle.ipt_rules.specs.Matching.{matches}
use Rattle.ipt_rules.specs.Semantics.{RuleEffect, Continues, Ends, JumpsTo, step_of, Gives, HasVerdictIn, at_end, goes_on, ends, decides, comes_back, verdict_by}
use Rattle.ipt_rules.specs.Meets.{MeetsFrom, meets_here, meets_later, meets_inside, meets_behind, Meets, DecidesWalk, target_verdict, verdict_at}
use Rattle.ipt_rules.specs.inner.OneOutcome.{AreDeterministic}
use Rattle.ipt_rules.proofs.MeaningLaws.{gives_once}

-- ---- the first of the remaining rules

pub first_left : (xs : List Rule) (n : ℕ) (r : Rule) (rs : List Rule) → r ∷ rs ≡ drop n xs → slice_get xs n ≡ Some r
first_left [] zero r rs is = cc
first_left [] (suc n) r rs is = cc
first_left (x ∷ xs) zero r rs is = cc
first_left (x ∷ xs) (suc n) r rs is = first_left xs n r rs is

others_left : (xs : List Rule) (n : ℕ) (r : Rule) (rs : List Rule) → r ∷ rs ≡ drop n xs → rs ≡ drop (suc n) xs
others_left [] zero r rs is = cc
others_left [] (suc n) r rs is = cc
others_left (x ∷ xs) zero r rs is = cc
others_left (x ∷ xs) (suc n) r rs is = others_left xs n r rs is

pub rest_left : (xs : List Rule) (n : ℕ) (r : Rule) (rs : List Rule) → r ∷ rs ≡ drop n xs → rs ≡ drop (n + 1) xs
rest_left xs n r rs is = rw (add-one n) (others_left xs n r rs is)

-- ---- a rule that matches and has a verdict ends the traversal

pub ends_by : (b : Bool) (t : Target) (v : Verdict) → b ≡ true → target_verdict t ≡ Some v → step_of b t ≡ Ends (Some v)
ends_by false t v on is = cc
ends_by true Accept v on is = cc
ends_by true Drop v on is = cc
ends_by true Reject v on is = cc
ends_by true Return v on is = cc
ends_by true Count v on is = cc
ends_by true (Jump d) v on is = cc

pub ended_fits : (b : Bool) (t : Target) (o : Option Verdict) → step_of b t ≡ Ends o → b ≡ true
ended_fits false t o is = cc
ended_fits true t o is = refl

-- The verdict with which a step ends the traversal.
abbrev pub effect_verdict : RuleEffect → Option Verdict
effect_verdict Continues = None
effect_verdict (Ends o) = o
effect_verdict (JumpsTo c) = None

pub target_effect : (b : Bool) (t : Target) → b ≡ true → target_verdict t ≡ effect_verdict (step_of b t)
target_effect false t on = cc
target_effect true Accept on = refl
target_effect true Drop on = refl
target_effect true Reject on = refl
target_effect true Return on = refl
target_effect true Count on = refl
target_effect true (Jump d) on = refl

pub verdict_here : (chains : List Chain) (place : Place) (c n : ℕ) (r : Rule) (rs : List Rule) → place ≡ record { chain = c; rule = n } → r ∷ rs ≡ drop n (rules_of chains c) → verdict_at chains place ≡ target_verdict r.target
verdict_here chains place c n r rs at is =
    ap (verdict_at chains) at ∙ ap (option_and_then (λ (x : Rule). target_verdict x.target)) (first_left (rules_of chains c) n r rs is)

ends_there : (fits : Rule → Bool) (chains : List Chain) (place : Place) (c n : ℕ) (r : Rule) (rs : List Rule) (v : Verdict) → place ≡ record { chain = c; rule = n } → fits r ≡ true → r ∷ rs ≡ drop n (rules_of chains c)
    → verdict_at chains place ≡ Some v → step_of (fits r) r.target ≡ Ends (Some v)
ends_there fits chains place c n r rs v at on is has = ends_by (fits r) r.target v on (sym (verdict_here chains place c n r rs at is) ∙ has)

pub meets_gives : {fits : Rule → Bool} {chains : List Chain} {place : Place} {c n : ℕ} {rs : List Rule} {v : Verdict} → MeetsFrom fits chains place c n rs → rs ≡ drop n (rules_of chains c) → verdict_at chains place ≡ Some v
    → Gives fits chains rs (Some v)
meets_gives {fits} {chains} {place} {v} (meets_here {c} {n} {r} {rs} at on) is has = ends (ends_there fits chains place c n r rs v at on is has)
meets_gives {fits} {chains} (meets_later {c} {n} {r} {rs} step m) is has = goes_on step (meets_gives m (rest_left (rules_of chains c) n r rs is) has)
meets_gives (meets_inside step m) is has = decides step (meets_gives m refl has)
meets_gives {fits} {chains} (meets_behind {c} {n} {r} {rs} step back m) is has = comes_back step back (meets_gives m (rest_left (rules_of chains c) n r rs is) has)

-- ---- a verdict is the verdict of a rule that is met

pub record MeetsDecider (fits : Rule → Bool) (chains : List Chain) (c n : ℕ) (rs : List Rule) (v : Verdict) : Type 0 where
  pub place : Place
  pub meets : MeetsFrom fits chains place c n rs
  pub verdict : verdict_at chains place ≡ Some v

pub decider_met : {fits : Rule → Bool} {chains : List Chain} {rs : List Rule} {o : Option Verdict} → Gives fits chains rs o → (c n : ℕ) (v : Verdict) → o ≡ Some v → rs ≡ drop n (rules_of chains c) → MeetsDecider fits chains c n rs v
decider_met at_end c n v some is = cc
decider_met {fits} {chains} (goes_on {r} {rs} step g) c n v some is =
    let more : MeetsDecider fits chains c (n + 1) rs v = decider_met g c (n + 1) v some (rest_left (rules_of chains c) n r rs is) in
    record { place = more.place; meets = meets_later step more.meets; verdict = more.verdict }
decider_met {fits} {chains} (ends {r} {rs} {o} step) c n v some is = record {
  place = record { chain = c; rule = n };
  meets = meets_here refl (ended_fits (fits r) r.target o step);
  verdict = verdict_here chains (record { chain = c; rule = n }) c n r rs refl is ∙ target_effect (fits r) r.target (ended_fits (fits r) r.target o step) ∙ ap effect_verdict step ∙ some;
}
decider_met {fits} {chains} (decides {r} {rs} {v = w} {c = d} step g) c n v some is =
    let inner : MeetsDecider fits chains d 0 (rules_of chains d) v = decider_met g d 0 v some refl in
    record { place = inner.place; meets = meets_inside step inner.meets; verdict = inner.verdict }
decider_met {fits} {chains} (comes_back {r} {rs} step back g) c n v some is =
    let more : MeetsDecider fits chains c (n + 1) rs v = decider_met g c (n + 1) v some (rest_left (rules_of chains c) n r rs is) in
    record { place = more.place; meets = meets_behind step back more.meets; verdict = more.verdict }

-- ---- one rule decides

pub same_walked : {s : RuleEffect} {c d : ℕ} → s ≡ JumpsTo c → s ≡ JumpsTo d → c ≡ d
same_walked p q = cc

-- A chain that returns meets no rule that decides.
pub returns_not : {fits : Rule → Bool} {chains : List Chain} {place : Place} {c d : ℕ} {s : RuleEffect} {v : Verdict} → s ≡ JumpsTo c → s ≡ JumpsTo d → Meets fits chains c place → verdict_at chains place ≡ Some v
    → Gives fits chains (rules_of chains d) None → ⊥
returns_not {fits} {chains} step other m has back =
    let e = gives_once (meets_gives m refl has) (subst (λ (x : ℕ). Gives fits chains (rules_of chains x) None) (same_walked other step) back) in cc

pub decider_once : {fits : Rule → Bool} {chains : List Chain} {p q : Place} {c n : ℕ} {rs : List Rule} {v w : Verdict} → MeetsFrom fits chains p c n rs → MeetsFrom fits chains q c n rs → rs ≡ drop n (rules_of chains c)
    → verdict_at chains p ≡ Some v → verdict_at chains q ≡ Some w → p ≡ q
decider_once (meets_here at on) (meets_here at' on') is has has' = at ∙ sym at'
decider_once {fits} {chains} {p} {v} (meets_here {c} {n} {r} {rs} at on) (meets_later step' m') is has has' = let e = ends_there fits chains p c n r rs v at on is has in cc
decider_once {fits} {chains} {p} {v} (meets_here {c} {n} {r} {rs} at on) (meets_inside step' m') is has has' = let e = ends_there fits chains p c n r rs v at on is has in cc
decider_once {fits} {chains} {p} {v} (meets_here {c} {n} {r} {rs} at on) (meets_behind step' back' m') is has has' = let e = ends_there fits chains p c n r rs v at on is has in cc
decider_once {fits} {chains} {q} {w} (meets_later step m) (meets_here {c} {n} {r} {rs} at' on') is has has' = let e = ends_there fits chains q c n r rs w at' on' is has' in cc
decider_once {fits} {chains} (meets_later {c} {n} {r} {rs} step m) (meets_later step' m') is has has' = decider_once m m' (rest_left (rules_of chains c) n r rs is) has has'
decider_once (meets_later step m) (meets_inside step' m') is has has' = cc
decider_once (meets_later step m) (meets_behind step' back' m') is has has' = cc
decider_once {fits} {chains} {q} {w} (meets_inside step m) (meets_here {c} {n} {r} {rs} at' on') is has has' = let e = ends_there fits chains q c n r rs w at' on' is has' in cc
decider_once (meets_inside step m) (meets_later step' m') is has has' = cc
decider_once {fits} {chains} {q} (meets_inside step m) (meets_inside step' m') is has has' =
    decider_once m (subst (λ (x : ℕ). Meets fits chains x q) (same_walked step' step) m') refl has has'
decider_once (meets_inside step m) (meets_behind step' back' m') is has has' = absurd (returns_not step step' m has back')
decider_once {fits} {chains} {q} {w} (meets_behind step back m) (meets_here {c} {n} {r} {rs} at' on') is has has' = let e = ends_there fits chains q c n r rs w at' on' is has' in cc
decider_once (meets_behind step back m) (meets_later step' m') is has has' = cc
decider_once (meets_behind step back m) (meets_inside step' m') is has has' = absurd (returns_not step' step m' has' back)
decider_once {fits} {chains} (meets_behind {c} {n} {r} {rs} step back m) (meets_behind step' back' m') is has has' = decider_once m m' (rest_left (rules_of chains c) n r rs is) has has'

-- ---- the decider of a chain

pub some_is : {o : Option Verdict} → IsSome o → (v : Verdict) × (o ≡ Some v)
some_is {o = None} is = cc
some_is {o = Some v} is = (v, refl)

pub is_some_by : {o : Option Verdict} {v : Verdict} → o ≡ Some v → IsSome o
is_some_by {o} is = subst (λ (x : Option Verdict). IsSome x) (sym is) refl

module _ (fits : Rule → Bool) (chains : List Chain) (c : ℕ) where
  -- If a chain returns, the policy decides.
  pub returns_undecided : Gives fits chains (rules_of chains c) None → DecidesWalk fits chains c None
  returns_undecided back place m = by (verdict_at chains place) refl
    where
      by : (o : Option Verdict) → verdict_at chains place ≡ o → verdict_at chains place ≡ None
      by None is = is
      by (Some v) is = let e = gives_once (meets_gives m refl is) back in cc

  pub one_decider : (d e : Option Place) → DecidesWalk fits chains c d → DecidesWalk fits chains c e → d ≡ e
  one_decider None None is also = refl
  one_decider None (Some q) is (m, some) = let (v, has) = some_is some in let none = is q m in cc
  one_decider (Some p) None (m, some) also = let (v, has) = some_is some in let none = also p m in cc
  one_decider (Some p) (Some q) (m, some) (m', some') =
      let (v, has) = some_is some in
      let (w, has') = some_is some' in
      ap (λ (x : Place). Some x) (decider_once m m' refl has has')

  -- The outcome is the verdict of the decider.
  pub outcome_decided : (o : Option Verdict) (d : Option Place) → Gives fits chains (rules_of chains c) o → DecidesWalk fits chains c d → o ≡ option_and_then (verdict_at chains) d
  outcome_decided None None g is = refl
  outcome_decided None (Some p) g (m, some) = let (v, has) = some_is some in let e = gives_once (meets_gives m refl has) g in cc
  outcome_decided (Some v) None g is = let met = decider_met g c 0 v refl refl in let none = is met.place met.meets in let has = met.verdict in cc
  outcome_decided (Some v) (Some p) g (m, some) = let (w, has) = some_is some in gives_once g (meets_gives m refl has) ∙ sym has

-- The verdict of a packet is the verdict of its decider.
pub decider_verdict : (chains : List Chain) (c : ℕ) (p : Packet) (state : CtState) (d : Option Place) → AreDeterministic chains → DecidesWalk (matches p state) chains c d
    → HasVerdictIn chains c p state (verdict_by (policy_of chains c) (option_and_then (verdict_at chains) d))
decider_verdict chains c p state d each is =
    let one = each (matches p state) c 0 in
    record {
      outcome = one.outcome;
      gives = one.gives;
      verdict = ap (verdict_by (policy_of chains c)) (sym (outcome_decided (matches p state) chains c one.outcome d one.gives is));
    }
