-- The outcomes of chains, and the jumps of rules.
use Rattle.std.proofs.Common.{◌≡◌, ℕ, zero, suc, ◌+◌, ◌<◌, ◌≤◌, ◌∙◌, sym, ap, refl, Bool, true, false, List, [], ◌∷◌, Option, Some, None, length, get_or, drop, arith, subst, inl, inr}
use Rattle.std.proofs.Math.Seq.{drop-cons}
use Rattle.std.proofs.Math.Numerals.{add-one}
use Rattle.std.proofs.lemmas.Bool.{and_parts, cases_lt}
use Rattle.std.proofs.lemmas.Option.{same_Some, slice_get_past}
use Rattle.std.proofs.lemmas.List.Elements.{Contains-append_right}
use Rattle.std.specs.List.{list_all, cons_option}
use Rattle.std.specs.Prelude.{slice_get, Contains}
use Rattle.ipt_rules.specs.declared.rule.Rule.{Rule}
use Rattle.ipt_rules.specs.declared.rule.Target.{Target}
use Rattle.ipt_rules.specs.declared.rule.Target.TheVariants.{Accept, Drop, Reject, Return, Count, Jump}
use Rattle.host_net.specs.declared.packet.Verdict.{Verdict}
use Rattle.ipt_rules.specs.Chain.{Chain, rules_of}
use Rattle.ipt_rules.specs.inner.ChainTable.{rules_in}
use Rattle.ipt_rules.specs.Loops.{jump_of, jumps_of, jumps_from}
use Rattle.ipt_rules.specs.inner.Ranks.{place_of, IsBefore, IsOrder, HasTopologicalOrder}
use Rattle.ipt_rules.proofs.MeaningLaws.{gives_once}
use Rattle.ipt_rules.specs.Semantics.{RuleEffect, Continues, Ends, JumpsTo, step_of, Gives, at_end, goes_on, ends, decides, comes_back}
use Rattle.ipt_rules.specs.inner.OneOutcome.{AreDeterministic}

pub rules_at : (rules : List Rule) (i : ℕ) (r : Rule) → i < length rules → r ≡ get_or rules i r → drop i rules ≡ r ∷ drop (i + 1) rules
rules_at rules i r h is = rw (add-one i) (drop-cons rules i r h ∙ ap (λ y. y ∷ drop (suc i) rules) (sym is))

pub all_at : (p : Rule → Bool) (xs : List Rule) (i : ℕ) (x : Rule) → list_all p xs ≡ true → i < length xs → x ≡ get_or xs i x → p x ≡ true
all_at p [] i x all h is = absurd (omega arith)
all_at p (y ∷ ys) zero x all h is = ap p is ∙ (and_parts (p y) (list_all p ys) all).0
all_at p (y ∷ ys) (suc i) x all h is =
    all_at p ys i x (and_parts (p y) (list_all p ys) all).1 (omega arith) is

pub walked_jump : (b : Bool) (t : Target) (d : ℕ) → JumpsTo d ≡ step_of b t → t ≡ Jump d
walked_jump false t d step = cc
walked_jump true Accept d step = cc
walked_jump true Drop d step = cc
walked_jump true Reject d step = cc
walked_jump true Return d step = cc
walked_jump true Count d step = cc
walked_jump true (Jump c) d step = cc

-- The rules have an outcome.
pub record GivesSome (fits : Rule → Bool) (chains : List Chain) (rules : List Rule) : Type 0 where
  pub outcome : Option Verdict
  pub gives : Gives fits chains rules outcome

walked_gives : (fits : Rule → Bool) (chains : List Chain) (r : Rule) (rs : List Rule) (d : ℕ) (o : Option Verdict) → step_of (fits r) r.target ≡ JumpsTo d → Gives fits chains (rules_of chains d) o → GivesSome fits chains rs → GivesSome fits chains (r ∷ rs)
walked_gives fits chains r rs d None step walked rest =
    record { outcome = rest.outcome; gives = comes_back step walked rest.gives }
walked_gives fits chains r rs d (Some v) step walked rest =
    record { outcome = Some v; gives = decides step walked }

-- Jumps of the first rule, and of the rules after it.
jump_first : (r : Rule) (rs : List Rule) (d : ℕ) (o : Option ℕ) → jump_of r.target ≡ o → o ≡ Some d → Contains (cons_option o (jumps_of rs)) d
jump_first r rs d None is some = cc
jump_first r rs d (Some e) is some =
    subst (λ (x : ℕ). Contains (e ∷ jumps_of rs) x) (same_Some e d some) (zero, omega arith, refl)

pub first_jump : (r : Rule) (rs : List Rule) (d : ℕ) → r.target ≡ Jump d → Contains (jumps_of (r ∷ rs)) d
first_jump r rs d jump = jump_first r rs d (jump_of r.target) refl (ap jump_of jump)

behind_option : (o : Option ℕ) (xs : List ℕ) (d : ℕ) → Contains xs d → Contains (cons_option o xs) d
behind_option None xs d h = h
behind_option (Some e) xs d h = Contains-append_right (e ∷ []) xs d h

pub later_jump : (r : Rule) (rs : List Rule) (d : ℕ) → Contains (jumps_of rs) d → Contains (jumps_of (r ∷ rs)) d
later_jump r rs d h = behind_option (jump_of r.target) (jumps_of rs) d h

dropped_jump : (k : ℕ) (rs : List Rule) (d : ℕ) → Contains (jumps_of (drop k rs)) d → Contains (jumps_of rs) d
dropped_jump zero rs d h = h
dropped_jump (suc k) [] d h = h
dropped_jump (suc k) (r ∷ rs) d h = later_jump r rs d (dropped_jump k rs d h)

-- A jump of the rule at an index.
pub jump_at : (rules : List Rule) (i : ℕ) (r : Rule) (d : ℕ) → slice_get rules i ≡ Some r → r.target ≡ Jump d → Contains (jumps_of rules) d
jump_at [] i r d there jump = cc
jump_at (x ∷ rules) zero r d there jump = first_jump x rules d (ap (λ y. y.target) (same_Some x r there) ∙ jump)
jump_at (x ∷ rules) (suc i) r d there jump = later_jump x rules d (jump_at rules i r d there jump)

module _ (fits : Rule → Bool) (chains : List Chain) where
  -- A rule before rules that have an outcome.
  rule_gives : (r : Rule) (rs : List Rule) (s : RuleEffect) → step_of (fits r) r.target ≡ s → ((d : ℕ) → Contains (jumps_of (r ∷ rs)) d → GivesSome fits chains (rules_of chains d)) → GivesSome fits chains rs → GivesSome fits chains (r ∷ rs)
  rule_gives r rs Continues step all rest = record { outcome = rest.outcome; gives = goes_on step rest.gives }
  rule_gives r rs (Ends o) step all rest = record { outcome = o; gives = ends step }
  rule_gives r rs (JumpsTo d) step all rest =
      let walked : GivesSome fits chains (rules_of chains d) = all d (first_jump r rs d (walked_jump (fits r) r.target d (sym step))) in
      walked_gives fits chains r rs d walked.outcome step walked.gives rest

  -- Rules whose jumps all go to chains that have an outcome.
  rules_give : (rs : List Rule) → ((d : ℕ) → Contains (jumps_of rs) d → GivesSome fits chains (rules_of chains d)) → GivesSome fits chains rs
  rules_give [] all = record { outcome = None; gives = at_end }
  rules_give (r ∷ rs) all =
      rule_gives r rs (step_of (fits r) r.target) refl all (rules_give rs (λ d h. all d (later_jump r rs d h)))

-- By induction on the position of the chain in the order.
placed_gives : (fits : Rule → Bool) (chains : List Chain) (count : ℕ) (order : List ℕ) (places : List (Option ℕ)) → IsOrder (jumps_from chains) count order places → (n c i : ℕ) → i < n → place_of places c ≡ Some i → GivesSome fits chains (rules_of chains c)
placed_gives fits chains count order places is zero c i low at = absurd (omega (arith, low))
placed_gives fits chains count order places is (suc n) c i low at =
    rules_give fits chains (rules_of chains c) (λ d jump.
    let b : IsBefore places d i = is.back i c d (is.there c i at) jump in
    placed_gives fits chains count order places is n d b.place (omega (arith, low, b.before)) b.placed)

pub each_gives_one : (chains : List Chain) → HasTopologicalOrder chains → AreDeterministic chains
each_gives_one chains topological_order fits c k =
    let some : GivesSome fits chains (drop k (rules_of chains c)) = rules_give fits chains (drop k (rules_of chains c)) (λ d jump. chain_gives d (dropped_jump k (rules_of chains c) d jump)) in
    record { outcome = some.outcome; gives = some.gives; only = λ o g. gives_once g some.gives }
  where
    no_jump : (d : ℕ) → length chains ≤ c → Contains (jumps_from chains c) d → ⊥
    no_jump d past jump =
        let none : rules_of chains c ≡ [] = ap rules_in (slice_get_past chains c past) in
        let found : Contains [] d = subst (λ (rs : List Rule). Contains (jumps_of rs) d) none jump in
        omega (arith, found.1)

    chain_gives : (d : ℕ) → Contains (jumps_from chains c) d → GivesSome fits chains (rules_of chains d)
    chain_gives d jump = elim (cases_lt c (length chains)) [
      | inl low ↦
          let own : IsBefore topological_order.places c (length topological_order.order) = topological_order.is.every c low in
          let b : IsBefore topological_order.places d own.place = topological_order.is.ordered.back own.place c d (topological_order.is.ordered.there c own.place own.placed) jump in
          placed_gives fits chains (length chains) topological_order.order topological_order.places topological_order.is.ordered own.place d b.place b.before b.placed
      | inr past ↦ absurd (no_jump d past jump)
    ]
