-- Composition of the outcomes of blocks: along `++` and `flat_map`, and through a jump.
use Rattle.std.proofs.Common.{◌≡◌, ℕ, ◌∙◌, sym, ap, refl, Bool, true, false, List, [], ◌∷◌, ◌++◌, Option, Some, None, subst, append_assoc, append-nil}
use Rattle.std.specs.Prelude.{if◌then◌else◌}
use Rattle.std.specs.List.{flat_map}
use Rattle.std.specs.Option.{option_or}
use Rattle.host_net.specs.declared.packet.Packet.{Packet}
use Rattle.host_net.specs.declared.packet.CtState.{CtState}
use Rattle.ipt_rules.specs.declared.rule.Rule.{Rule}
use Rattle.ipt_rules.specs.declared.rule.Target.TheVariants.{Jump}
use Rattle.host_net.specs.declared.packet.Verdict.{Verdict}
use Rattle.ipt_rules.specs.Matching.{matches}
use Rattle.ipt_rules.specs.Chain.{Chain, rules_of, policy_of}
use Rattle.ipt_rules.specs.Semantics.{RuleEffect, Continues, Ends, JumpsTo, step_of, Gives, at_end, goes_on, ends, decides, comes_back, verdict_by, HasVerdictIn}
use Rattle.ipt_rules.specs.inner.Saying.{Says, first_said}

module _ (fits : Rule → Bool) (chains : List Chain) where
  regrouped : (xs ys rest : List Rule) (o : Option Verdict) → Gives fits chains (xs ++ (ys ++ rest)) o → Gives fits chains ((xs ++ ys) ++ rest) o
  regrouped xs ys rest o g =
      subst (λ (rs : List Rule). Gives fits chains rs o) (sym (append_assoc xs ys rest)) g

  -- An empty block leaves every packet to the rules that follow.
  pub says_none : Says fits chains [] None
  says_none rest o g = g

  -- A block after a block: the first block that has a verdict decides.
  pub says_append : (xs ys : List Rule) (a b : Option Verdict) → Says fits chains xs a → Says fits chains ys b → Says fits chains (xs ++ ys) (option_or a b)
  says_append xs ys None None first second =
      λ rest o g. regrouped xs ys rest o (first (ys ++ rest) o (second rest o g))
  says_append xs ys None (Some v) first second =
      λ rest. regrouped xs ys rest (Some v) (first (ys ++ rest) (Some v) (second rest))
  says_append xs ys (Some v) b first second =
      λ rest. regrouped xs ys rest (Some v) (first (ys ++ rest))

  step_at : (r : Rule) (b : Bool) (s : RuleEffect) → fits r ≡ b → step_of b r.target ≡ s → step_of (fits r) r.target ≡ s
  step_at r b s is step = ap (λ (f : Bool). step_of f r.target) is ∙ step

  one_said : (r : Rule) (v : Verdict) → step_of true r.target ≡ Ends (Some v) → (b : Bool) → fits r ≡ b → Says fits chains (r ∷ []) (if b then Some v else None)
  one_said r v target true is = λ rest. ends (step_at r true (Ends (Some v)) is target)
  one_said r v target false is = λ rest o g. goes_on (step_at r false Continues is refl) g

  -- A rule that ends its chain with a verdict, if it matches.
  pub says_one : (r : Rule) (v : Verdict) → step_of true r.target ≡ Ends (Some v) → Says fits chains (r ∷ []) (if fits r then Some v else None)
  says_one r v target = one_said r v target (fits r) refl

  jump_said : (r : Rule) (c : ℕ) (o : Option Verdict) → r.target ≡ Jump c → Gives fits chains (rules_of chains c) o → (b : Bool) → fits r ≡ b → Says fits chains (r ∷ []) (if b then o else None)
  jump_said r c None target walked true is =
      λ rest o g. comes_back (step_at r true (JumpsTo c) is (ap (step_of true) target)) walked g
  jump_said r c (Some v) target walked true is =
      λ rest. decides (step_at r true (JumpsTo c) is (ap (step_of true) target)) walked
  jump_said r c o target walked false is = λ rest p g. goes_on (step_at r false Continues is refl) g

  -- A jump has the outcome of its chain, if the rule matches.
  pub says_jump : (r : Rule) (c : ℕ) (o : Option Verdict) → r.target ≡ Jump c → Gives fits chains (rules_of chains c) o → Says fits chains (r ∷ []) (if fits r then o else None)
  says_jump r c o target walked = jump_said r c o target walked (fits r) refl

  pub says_flat_map : {X : Type 0} (rules : X → List Rule) (said : X → Option Verdict) → ((x : X) → Says fits chains (rules x) (said x)) → (xs : List X) → Says fits chains (flat_map rules xs) (first_said said xs)
  says_flat_map rules said each [] = says_none
  says_flat_map rules said each (x ∷ xs) =
      says_append (rules x) (flat_map rules xs) (said x) (first_said said xs) (each x) (says_flat_map rules said each xs)

  -- A whole chain has the outcome of its rules as a block.
  pub gives_said : (rules : List Rule) (o : Option Verdict) → Says fits chains rules o → Gives fits chains rules o
  gives_said rules None said =
      subst (λ (rs : List Rule). Gives fits chains rs None) (append-nil rules) (said [] None at_end)
  gives_said rules (Some v) said =
      subst (λ (rs : List Rule). Gives fits chains rs (Some v)) (append-nil rules) (said [])

-- The verdict, given the outcome of the rules of the built-in chain as a block.
pub verdict_said : (chains : List Chain) (c : ℕ) (packet : Packet) (state : CtState) (o : Option Verdict) → Says (matches packet state) chains (rules_of chains c) o → HasVerdictIn chains c packet state (verdict_by (policy_of chains c) o)
verdict_said chains c packet state o said =
    record { outcome = o; gives = gives_said (matches packet state) chains (rules_of chains c) o said; verdict = refl }
