-- The traversal of a chain: the rules that it meets, its decider, and the chains that are known to return.
use Rattle.std.proofs.Common.{◌≡◌, ◌⊎◌, inl, inr, ℕ, zero, suc, ◌+◌, ◌-◌, ◌<◌, ◌≤◌, ◌∙◌, sym, ap, refl, Bool, true, false, List, [], ◌∷◌, Option, Some, None, length, get_or, drop, set, replicate, subst, arith}
use Rattle.std.specs.Prelude.{Contains, is_some}
use Rattle.std.specs.Option.{option_and_then, unwrap_or}
use Rattle.std.proofs.Math.ListN.{drop_of_length-le}
use Rattle.std.proofs.lemmas.Bool.{cases_eq}
use Rattle.std.proofs.lemmas.Option.{slice_get_cases}
use Rattle.host_net.specs.declared.packet.Packet.{Packet}
use Rattle.host_net.specs.declared.packet.CtState.{CtState}
use Rattle.host_net.specs.declared.packet.Verdict.{Verdict}
use Rattle.ipt_rules.specs.declared.marks.Place.{Place}
use Rattle.ipt_rules.specs.declared.rule.Rule.{Rule}
use Rattle.ipt_rules.specs.declared.walk.Step.{Step}
use Rattle.ipt_rules.specs.declared.walk.Step.TheVariants as code
use Rattle.ipt_rules.specs.Chain.{Chain, rules_of}
use Rattle.ipt_rules.specs.Loops.{jumps_from}
use Rattle.ipt_rules.specs.Matching.{matches}
use Rattle.ipt_rules.specs.Meets.{MeetsFrom, meets_here, meets_later, meets_inside, meets_behind, Meets, DecidesWalk, verdict_at}
use Rattle.ipt_rules.specs.Semantics.{RuleEffect, Continues, Ends, JumpsTo, step_of, Gives}
use Rattle.ipt_rules.specs.inner.Next.{IsNext, IsNextAt, NoneFits}
use Rattle.ipt_rules.specs.inner.OneOutcome.{AreDeterministic}
use Rattle.ipt_rules.specs.inner.Ranks.{place_of, IsBefore, HasTopologicalOrder}
use Rattle.ipt_rules.specs.inner.Walking.{AreTraversed, HasMetOnly, IsShallow, IsTraversed, Records, Steps, Traverses, is_known_to_return}
use Rattle.ipt_rules.proofs.Gets.{get_set_other}
use Rattle.ipt_rules.proofs.MeetsLaws.{effect_verdict, ended_fits, is_some_by, outcome_decided, returns_not, same_walked, some_is, target_effect, verdict_here}
use Rattle.ipt_rules.proofs.WalkLemmas.{rules_at}

-- ---- jumps

shallow_from : (chains : List Chain) (order : HasTopologicalOrder chains) (n c i : ℕ) → i < n → place_of order.places c ≡ Some i → IsShallow chains n c
shallow_from chains order zero c i low at = absurd (omega (arith, low))
shallow_from chains order (suc n) c i low at =
    let there = order.is.ordered.there c i at in (
      order.is.ordered.inside i c there,
      λ d jump. let b : IsBefore order.places d i = order.is.ordered.back i c d there jump in shallow_from chains order n d b.place (omega (arith, low, b.before)) b.placed,
    )

-- Jumps are nested less deep than there are chains.
pub all_shallow : (chains : List Chain) (c : ℕ) → HasTopologicalOrder chains → c < length chains → IsShallow chains (length chains) c
all_shallow chains c order there =
    let own : IsBefore order.places c (length order.order) = order.is.every c there in
    shallow_from chains order (length chains) c own.place (omega (arith, own.before, order.is.short)) own.placed

pub shallow_there : (chains : List Chain) (depth c : ℕ) → IsShallow chains depth c → c < length chains
shallow_there chains zero c is = absurd is
shallow_there chains (suc depth) c is = is.0

pub shallow_some : (chains : List Chain) (depth c : ℕ) → IsShallow chains depth c → 0 < depth
shallow_some chains zero c is = absurd is
shallow_some chains (suc depth) c is = omega arith

pub shallow_jump : (chains : List Chain) (depth c d : ℕ) → IsShallow chains depth c → Contains (jumps_from chains c) d → IsShallow chains (depth - 1) d
shallow_jump chains zero c d is jump = absurd is
shallow_jump chains (suc depth) c d is jump = subst (λ (n : ℕ). IsShallow chains n d) (omega arith) (is.1 d jump)

-- ---- chains that are known to return

pub none_returns : (n c : ℕ) → is_known_to_return (replicate n false) c ≡ false
none_returns zero c = refl
none_returns (suc n) zero = refl
none_returns (suc n) (suc c) = none_returns n c

pub none_traversed : (fits : Rule → Bool) (chains : List Chain) (Has : Place → Type 0) (n : ℕ) → AreTraversed fits chains Has (replicate n false)
none_traversed fits chains Has n c at = let e : false ≡ true = sym (none_returns n c) ∙ at in cc

pub kept_traversed : (fits : Rule → Bool) (chains : List Chain) (Old New : Place → Type 0) (known_to_return : List Bool) → ((p : Place) → Old p → New p) → AreTraversed fits chains Old known_to_return → AreTraversed fits chains New known_to_return
kept_traversed fits chains Old New known_to_return kept known c at = let old = known c at in record { decides = old.decides; met = λ p m. kept p (old.met p m) }

-- The outcome of a chain is the verdict of its decider.
pub decided_gives : (fits : Rule → Bool) (chains : List Chain) (c : ℕ) (d : Option Place) → AreDeterministic chains → DecidesWalk fits chains c d → Gives fits chains (rules_of chains c) (option_and_then (verdict_at chains) d)
decided_gives fits chains c d each decides =
    let one = each fits c 0 in
    subst (λ (o : Option Verdict). Gives fits chains (rules_of chains c) o) (outcome_decided fits chains c one.outcome d one.gives decides) one.gives

-- ---- the rules that a traversal meets, by its first rule

met_past : {fits : Rule → Bool} {chains : List Chain} {place : Place} {c n : ℕ} {r : Rule} {rs : List Rule} → step_of (fits r) r.target ≡ Continues → MeetsFrom fits chains place c n (r ∷ rs)
    → ((place ≡ record { chain = c; rule = n }) × (fits r ≡ true)) ⊎ MeetsFrom fits chains place c (n + 1) rs
met_past step (meets_here at on) = inl (at, on)
met_past step (meets_later step' m) = inr m
met_past step (meets_inside step' m) = cc
met_past step (meets_behind step' back m) = cc

met_last : {fits : Rule → Bool} {chains : List Chain} {place : Place} {c n : ℕ} {r : Rule} {rs : List Rule} {o : Option Verdict} → step_of (fits r) r.target ≡ Ends o → MeetsFrom fits chains place c n (r ∷ rs)
    → (place ≡ record { chain = c; rule = n }) × (fits r ≡ true)
met_last step (meets_here at on) = (at, on)
met_last step (meets_later step' m) = cc
met_last step (meets_inside step' m) = cc
met_last step (meets_behind step' back m) = cc

met_jump : {fits : Rule → Bool} {chains : List Chain} {place : Place} {c n d : ℕ} {r : Rule} {rs : List Rule} → step_of (fits r) r.target ≡ JumpsTo d → MeetsFrom fits chains place c n (r ∷ rs)
    → ((place ≡ record { chain = c; rule = n }) × (fits r ≡ true)) ⊎ (Meets fits chains d place ⊎ (Gives fits chains (rules_of chains d) None × MeetsFrom fits chains place c (n + 1) rs))
met_jump step (meets_here at on) = inl (at, on)
met_jump step (meets_later step' m) = cc
met_jump {fits} {chains} {place} step (meets_inside step' m) = inr (inl (subst (λ (x : ℕ). Meets fits chains x place) (same_walked step' step) m))
met_jump {fits} {chains} step (meets_behind step' back m) = inr (inr (subst (λ (x : ℕ). Gives fits chains (rules_of chains x) None) (same_walked step' step) back, m))

met_none : {fits : Rule → Bool} {chains : List Chain} {place : Place} {c n : ℕ} {rs : List Rule} → MeetsFrom fits chains place c n rs → rs ≡ [] → ⊥
met_none (meets_here at on) none = cc
met_none (meets_later step m) none = cc
met_none (meets_inside step m) none = cc
met_none (meets_behind step back m) none = cc

-- ---- along a chain

-- The traversal of chain c reached rule n: each rule that it meets from there on is met by the chain, and each other rule that
-- the chain meets is recorded and has no verdict.
pub record IsReached (fits : Rule → Bool) (chains : List Chain) (Has : Place → Type 0) (c n : ℕ) : Type 0 where
  pub meets : (place : Place) → MeetsFrom fits chains place c n (drop n (rules_of chains c)) → Meets fits chains c place
  pub behind : (place : Place) → Meets fits chains c place
      → (Has place × (verdict_at chains place ≡ None)) ⊎ MeetsFrom fits chains place c n (drop n (rules_of chains c))

-- The rule at an index of the rules.
abbrev pub Stands : List Rule → ℕ → Rule → Type 0
Stands rules n r = (n < length rules) × (r ≡ get_or rules n r)

module _ (fits : Rule → Bool) (chains : List Chain) (c n : ℕ) (r : Rule) (stands : Stands (rules_of chains c) n r) (Old New : Place → Type 0) (records : Records (fits r) (record { chain = c; rule = n }) Old New)
    (reached : IsReached fits chains Old c n) where
  abbrev place : Place
  place = record { chain = c; rule = n }

  abbrev others : List Rule
  others = drop (n + 1) (rules_of chains c)

  cut : drop n (rules_of chains c) ≡ r ∷ others
  cut = rules_at (rules_of chains c) n r stands.0 stands.1

  -- The verdict of the rule, if it matches.
  own_verdict : (p : Place) → p ≡ place → fits r ≡ true → (e : RuleEffect) → step_of (fits r) r.target ≡ e → verdict_at chains p ≡ effect_verdict e
  own_verdict p same on e step = verdict_here chains p c n r others same (sym cut) ∙ target_effect (fits r) r.target on ∙ ap effect_verdict step

  own : (p : Place) → p ≡ place → fits r ≡ true → New p
  own p same on = subst New (sym same) (records.own on)

  -- Each rule that the rules from here on meet is met by the chain.
  from_here : (p : Place) → MeetsFrom fits chains p c n (r ∷ others) → Meets fits chains c p
  from_here p m = reached.meets p (subst (λ (rs : List Rule). MeetsFrom fits chains p c n rs) (sym cut) m)

  split : (p : Place) → Meets fits chains c p → (New p × (verdict_at chains p ≡ None)) ⊎ MeetsFrom fits chains p c n (r ∷ others)
  split p m = elim (reached.behind p m) [
    | inl (on, none) ↦ inl (records.kept p on, none)
    | inr left ↦ inr (subst (λ (rs : List Rule). MeetsFrom fits chains p c n rs) cut left)
  ]

  pub own_only : HasMetOnly fits chains c Old New
  own_only = record {
    kept = records.kept;
    only = λ p on. elim (records.only p on) [ inl old ↦ inl old | inr (same, fit) ↦ inr (from_here p (meets_here same fit)) ];
  }

  pub reached_past : step_of (fits r) r.target ≡ Continues → IsReached fits chains New c (n + 1)
  reached_past step = record {
    meets = λ p m. from_here p (meets_later step m);
    behind = λ p m. elim (split p m) [
      | inl on ↦ inl on
      | inr left ↦ elim (met_past step left) [ inl (same, on) ↦ inl (own p same on, own_verdict p same on Continues step) | inr later ↦ inr later ]
    ];
  }

  all_met : (o : Option Verdict) → step_of (fits r) r.target ≡ Ends o → (p : Place) → Meets fits chains c p → New p
  all_met o step p m = elim (split p m) [ inl (on, none) ↦ on | inr left ↦ let (same, on) = met_last step left in own p same on ]

  pub decides_here : (v : Verdict) → step_of (fits r) r.target ≡ Ends (Some v) → IsTraversed fits chains New c (Some place)
  decides_here v step =
      let on = ended_fits (fits r) r.target (Some v) step in
      record { decides = (from_here place (meets_here refl on), is_some_by (own_verdict place refl on (Ends (Some v)) step)); met = all_met (Some v) step }

  pub returns_here : step_of (fits r) r.target ≡ Ends None → IsTraversed fits chains New c None
  returns_here step = record {
    decides = λ p m. elim (split p m) [ inl (on, none) ↦ none | inr left ↦ let (same, on) = met_last step left in own_verdict p same on (Ends None) step ];
    met = all_met None step;
  }

  -- The rule jumps to a chain that is traversed.
  module _ (each : AreDeterministic chains) (d : ℕ) (step : step_of (fits r) r.target ≡ JumpsTo d) (Then : Place → Type 0) (more : HasMetOnly fits chains d New Then) where
    pub jump_only : HasMetOnly fits chains c Old Then
    jump_only = record {
      kept = λ p on. more.kept p (own_only.kept p on);
      only = λ p on. elim (more.only p on) [ inl old ↦ own_only.only p old | inr met ↦ inr (from_here p (meets_inside step met)) ];
    }

    pub reached_behind : IsTraversed fits chains Then d None → IsReached fits chains Then c (n + 1)
    reached_behind inner = record {
      meets = λ p m. from_here p (meets_behind step (decided_gives fits chains d None each inner.decides) m);
      behind = λ p m. elim (split p m) [
        | inl (on, none) ↦ inl (more.kept p on, none)
        | inr left ↦ elim (met_jump step left) [
          | inl (same, on) ↦ inl (more.kept p (own p same on), own_verdict p same on (JumpsTo d) step)
          | inr jumped ↦ elim jumped [ inl inside ↦ inl (inner.met p inside, inner.decides p inside) | inr (gives, later) ↦ inr later ]
        ]
      ];
    }

    pub decides_inside : (q : Place) → IsTraversed fits chains Then d (Some q) → IsTraversed fits chains Then c (Some q)
    decides_inside q inner = record {
      decides = (from_here q (meets_inside step inner.decides.0), inner.decides.1);
      met = λ p m. elim (split p m) [
        | inl (on, none) ↦ more.kept p on
        | inr left ↦ elim (met_jump step left) [
          | inl (same, on) ↦ more.kept p (own p same on)
          | inr jumped ↦ elim jumped [
            | inl inside ↦ inner.met p inside
            | inr (back, later) ↦ let (v, has) = some_is inner.decides.1 in absurd (returns_not step step inner.decides.0 has back)
          ]
        ]
      ];
    }

-- ---- rules that do not match, and the end of the chain

module _ (fits : Rule → Bool) (chains : List Chain) (c : ℕ) (Has : Place → Type 0) where
  passed_some : (from n : ℕ) → from + n ≤ length (rules_of chains c) → NoneFits fits (rules_of chains c) from (from + n) → IsReached fits chains Has c from → IsReached fits chains Has c (from + n)
  passed_some from zero within none reached = subst (λ (k : ℕ). IsReached fits chains Has c k) (omega arith) reached
  passed_some from (suc n) within none reached =
      let before = passed_some from n (omega (arith, within)) (λ i r low high there. none i r low (omega (arith, high)) there) reached in
      elim (slice_get_cases (rules_of chains c) (from + n)).1 [
        | inl (r, low, there, is) ↦
            let off : fits r ≡ false = none (from + n) r (omega arith) (omega arith) there in
            subst (λ (k : ℕ). IsReached fits chains Has c k) (omega arith)
            (reached_past fits chains c (from + n) r (low, sym is) Has Has (subst (λ (b : Bool). Records b (record { chain = c; rule = from + n }) Has Has) (sym off) (record { kept = λ p on. on; own = λ on. cc; only = λ p on. inl on })) before
            (ap (λ (b : Bool). step_of b r.target) off))
        | inr (past, there) ↦ absurd (omega (arith, past, within))
      ]

  reached_at : (from at : ℕ) → from ≤ at → at ≤ length (rules_of chains c) → NoneFits fits (rules_of chains c) from at → IsReached fits chains Has c from → IsReached fits chains Has c at
  reached_at from at later within none reached =
      let place : from + (at - from) ≡ at = omega (arith, later) in
      subst (λ (k : ℕ). IsReached fits chains Has c k) place
      (passed_some from (at - from) (omega (arith, place, within)) (λ i r low high there. none i r low (omega (arith, place, high)) there) reached)

  returns_past : (n : ℕ) → length (rules_of chains c) ≤ n → IsReached fits chains Has c n → IsTraversed fits chains Has c None
  returns_past n past reached = record { decides = λ p m. (by p m).1; met = λ p m. (by p m).0 }
    where
      by : (p : Place) → Meets fits chains c p → Has p × (verdict_at chains p ≡ None)
      by p m = elim (reached.behind p m) [ inl on ↦ on | inr left ↦ absurd (met_none left (drop_of_length-le (rules_of chains c) past)) ]

-- ---- the facts between two steps

pub record Along (fits : Rule → Bool) (chains : List Chain) (Start New : Place → Type 0) (known_to_return : List Bool) (c n : ℕ) : Type 0 where
  pub known : AreTraversed fits chains New known_to_return
  pub only : HasMetOnly fits chains c Start New
  pub reached : IsReached fits chains New c n

module _ (p : Packet) (state : CtState) (chains : List Chain) (Start Old : Place → Type 0) (known_to_return : List Bool) (c from : ℕ) (so_far : Along (matches p state) chains Start Old known_to_return c from) (rules : List Rule)
    (same : rules ≡ rules_of chains c) where
  abbrev fits : Rule → Bool
  fits = matches p state

  -- No rule is left that may match.
  pub after_all : from ≤ length rules → IsNext fits rules from None → Traverses fits chains Start Old known_to_return c None
  after_all within none =
      let long = ap length same in
      record {
        known = so_far.known;
        only = so_far.only;
        all =
            returns_past fits chains c Old (length rules) (omega (arith, long))
            (reached_at fits chains c Old from (length rules) within (omega (arith, long)) (subst (λ (rs : List Rule). NoneFits fits rs from (length rules)) same none) so_far.reached);
      }

  only_then : (New : Place → Type 0) → HasMetOnly fits chains c Old New → HasMetOnly fits chains c Start New
  only_then New more = record {
    kept = λ q on. more.kept q (so_far.only.kept q on);
    only = λ q on. elim (more.only q on) [ inl old ↦ so_far.only.only q old | inr met ↦ inr met ];
  }

  module _ (each : AreDeterministic chains) (at : ℕ) (next : IsNextAt fits rules from at) (r : Rule) (is : r ≡ get_or rules at r) (In : Packet → Type 0) (inside : In p) (New : Place → Type 0) where
    abbrev Stepped : Step → Type 0
    Stepped step = Steps In state r (record { chain = c; rule = at }) Old New step

    stands : Stands (rules_of chains c) at r
    stands = subst (λ (rs : List Rule). Stands rs at r) same (next.within, is)

    reached : IsReached fits chains Old c at
    reached = reached_at fits chains c Old from at next.later (omega (arith, stands.0)) (subst (λ (rs : List Rule). NoneFits fits rs from at) same next.passed) so_far.reached

    own_records : (step : Step) → Stepped step → Records (fits r) (record { chain = c; rule = at }) Old New
    own_records step steps = subst (λ (b : Bool). Records b (record { chain = c; rule = at }) Old New) (sym (steps.alike p inside)) steps.records

    own_effect : (step : Step) (steps : Stepped step) (e : RuleEffect) → step_of steps.fits r.target ≡ e → step_of (fits r) r.target ≡ e
    own_effect step steps e effect = ap (λ (b : Bool). step_of b r.target) (steps.alike p inside) ∙ effect

    only_new : (step : Step) → Stepped step → HasMetOnly fits chains c Start New
    only_new step steps = only_then New (own_only fits chains c at r stands Old New (own_records step steps) reached)

    pub after_continues : Stepped code.Continues → Along fits chains Start New known_to_return c (at + 1)
    after_continues steps = record {
      known = kept_traversed fits chains Old New known_to_return steps.records.kept so_far.known;
      only = only_new code.Continues steps;
      reached = reached_past fits chains c at r stands Old New (own_records code.Continues steps) reached (own_effect code.Continues steps Continues steps.effect);
    }

    pub after_decides : Stepped code.Decides → Traverses fits chains Start New known_to_return c (Some (record { chain = c; rule = at }))
    after_decides steps = record {
      known = kept_traversed fits chains Old New known_to_return steps.records.kept so_far.known;
      only = only_new code.Decides steps;
      all = decides_here fits chains c at r stands Old New (own_records code.Decides steps) reached steps.effect.0 (own_effect code.Decides steps (Ends (Some steps.effect.0)) steps.effect.1);
    }

    pub after_returns : Stepped code.Returns → Traverses fits chains Start New known_to_return c None
    after_returns steps = record {
      known = kept_traversed fits chains Old New known_to_return steps.records.kept so_far.known;
      only = only_new code.Returns steps;
      all = returns_here fits chains c at r stands Old New (own_records code.Returns steps) reached (own_effect code.Returns steps (Ends None) steps.effect);
    }

    -- A chain was traversed at a jump.
    module _ (d : ℕ) (steps : Stepped (code.JumpsTo d)) (Then : Place → Type 0) (known : List Bool) where
      jumps : step_of (fits r) r.target ≡ JumpsTo d
      jumps = own_effect (code.JumpsTo d) steps (JumpsTo d) steps.effect

      only_jump : HasMetOnly fits chains d New Then → HasMetOnly fits chains c Start Then
      only_jump more = only_then Then (jump_only fits chains c at r stands Old New (own_records (code.JumpsTo d) steps) reached each d jumps Then more)

      pub after_back : (decider : Option Place) → is_some decider ≡ false → Traverses fits chains New Then known d decider → Along fits chains Start Then known c (at + 1)
      after_back None none inner = record {
        known = inner.known;
        only = only_jump inner.only;
        reached = reached_behind fits chains c at r stands Old New (own_records (code.JumpsTo d) steps) reached each d jumps Then inner.only inner.all;
      }
      after_back (Some q) none inner = cc

      pub after_inside : (decider : Option Place) → is_some decider ≡ true → Traverses fits chains New Then known d decider → Traverses fits chains Start Then known c decider
      after_inside None some inner = cc
      after_inside (Some q) some inner = record {
        known = inner.known;
        only = only_jump inner.only;
        all = decides_inside fits chains c at r stands Old New (own_records (code.JumpsTo d) steps) reached each d jumps Then inner.only q inner.all;
      }

-- One more chain is known to return.
pub after_return : (fits : Rule → Bool) (chains : List Chain) (Start New : Place → Type 0) (known_to_return : List Bool) (c : ℕ) → Traverses fits chains Start New known_to_return c None
    → Traverses fits chains Start New (set known_to_return c true) c None
after_return fits chains Start New known_to_return c done = record {
  known = λ d at. elim (cases_eq d c) [
    | inl same ↦ subst (λ (x : ℕ). IsTraversed fits chains New x None) (sym same) done.all
    | inr other ↦ done.known d (sym (ap (λ (o : Option Bool). unwrap_or o false) (get_set_other known_to_return c d true other)) ∙ at)
  ];
  only = done.only;
  all = done.all;
}
