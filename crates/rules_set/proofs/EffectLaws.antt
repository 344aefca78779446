-- Laws of effects.
use Rattle.std.proofs.Common.{◌<◌, ◌≡◌, ℕ, ◌≤◌, Bool, true, false, List, [], ◌∷◌, ◌++◌, length, Option, Some, None, append_assoc, append-nil, drop, slice_get, take, take-append-drop, ◌-◌, refl, sym, ap, subst, ◌∙◌, arith}
use Rattle.std.proofs.lemmas.List.{length-drop, take_all}
use Rattle.std.specs.Prelude.{◌&&◌, ◌||◌, not}
use Rattle.host_net.specs.declared.packet.Packet.{Packet}
use Rattle.host_net.specs.declared.packet.CtState.{CtState}
use Rattle.host_net.specs.declared.packet.Verdict.{Verdict}
use Rattle.host_net.specs.declared.packet.Verdict.TheVariants.{Forward as Forwarded, Drop as Dropped}
use Rattle.host_net.specs.Verdict.{verdict_if}
use Rattle.header_space.specs.declared.packet_box.PacketBox.{PacketBox}
use Rattle.header_space.specs.Boxes.{IsIn}
use Rattle.ipt_rules.specs.declared.rule.Policy.{Policy}
use Rattle.ipt_rules.specs.declared.rule.Rule.{Rule}
use Rattle.ipt_rules.specs.declared.rule.Target.TheVariants.{Jump}
use Rattle.ipt_rules.specs.Chain.{Chain, policy_of, rules_of}
use Rattle.ipt_rules.specs.Matching.{matches}
use Rattle.ipt_rules.specs.Semantics.{Continues, Ends, Gives, JumpsTo, RuleEffect, at_end, comes_back, decides, ends, goes_on, policy_verdict, step_of, verdict_by}
use Rattle.ipt_rules.specs.inner.OneOutcome.{AreDeterministic}
use Rattle.packet_set.specs.declared.node.Node.{Node}
use Rattle.packet_set.specs.Nodes.{has}
use Rattle.packet_set.specs.Sets.{IsSet, Keeps}
use Rattle.rules_set.specs.declared.effect.Effect.{Effect}
use Rattle.rules_set.specs.Accepting.{IsAcceptedBy}
use Rattle.rules_set.specs.inner.Effects.{AreSets, DecidesAll, HasBox, IsComposed, IsEffect, IsEffectBy, Turns, outcome_by}

and_none : (x : Bool) → (x && false) ≡ false
and_none true = refl
and_none false = refl

module _ (fits : Rule → Bool) (chains : List Chain) where
  pub turns_same : (rules : List Rule) {a b c x y z : Bool} → a ≡ x → b ≡ y → c ≡ z → Turns fits chains rules x y z → Turns fits chains rules a b c
  turns_same rules {a} {b} {c} {x} {y} {z} one two three turns =
      subst (λ (v : Bool). Turns fits chains rules v b c) (sym one)
      (subst (λ (v : Bool). Turns fits chains rules x v c) (sym two) (subst (λ (v : Bool). Turns fits chains rules x y v) (sym three) turns))

  pub turns_none : Turns fits chains [] false false false
  turns_none rest o gives = gives

  -- ---- one rule

  pub turns_past : (r : Rule) → fits r ≡ false → Turns fits chains (r ∷ []) false false false
  turns_past r not_it rest o gives = goes_on (ap (λ (b : Bool). step_of b r.target) not_it) gives

  step_is : (r : Rule) (effect : RuleEffect) → fits r ≡ true → step_of true r.target ≡ effect → step_of (fits r) r.target ≡ effect
  step_is r effect it is = ap (λ (b : Bool). step_of b r.target) it ∙ is

  pub turns_counts : (r : Rule) (m : Bool) → fits r ≡ m → step_of true r.target ≡ Continues → Turns fits chains (r ∷ []) false false false
  turns_counts r true it is rest o gives = goes_on (step_is r Continues it is) gives
  turns_counts r false it is rest o gives = turns_past r it rest o gives

  pub turns_accepts : (r : Rule) (m : Bool) → fits r ≡ m → step_of true r.target ≡ Ends (Some Forwarded) → Turns fits chains (r ∷ []) m false false
  turns_accepts r true it is rest o gives = ends (step_is r (Ends (Some Forwarded)) it is)
  turns_accepts r false it is rest o gives = turns_past r it rest o gives

  pub turns_drops : (r : Rule) (m : Bool) → fits r ≡ m → step_of true r.target ≡ Ends (Some Dropped) → Turns fits chains (r ∷ []) false m false
  turns_drops r true it is rest o gives = ends (step_is r (Ends (Some Dropped)) it is)
  turns_drops r false it is rest o gives = turns_past r it rest o gives

  pub turns_returns : (r : Rule) (m : Bool) → fits r ≡ m → step_of true r.target ≡ Ends None → Turns fits chains (r ∷ []) false false m
  turns_returns r true it is rest o gives = ends (step_is r (Ends None) it is)
  turns_returns r false it is rest o gives = turns_past r it rest o gives

  -- The outcome of a whole chain.
  pub gives_all : (rules : List Rule) (a d r : Bool) → Turns fits chains rules a d r → Gives fits chains rules (outcome_by a d r None)
  gives_all rules a d r turns = subst (λ (rs : List Rule). Gives fits chains rs (outcome_by a d r None)) (append-nil rules) (turns [] None at_end)

  pub turns_jump : (r : Rule) (c : ℕ) (m a d back : Bool) → fits r ≡ m → r.target ≡ Jump c → Turns fits chains (rules_of chains c) a d back
      → Turns fits chains (r ∷ []) (a && m) (d && m) false
  turns_jump r c true true d back it is inner rest o gives =
      decides (step_is r (JumpsTo c) it (ap (step_of true) is)) (gives_all (rules_of chains c) true d back inner)
  turns_jump r c true false true back it is inner rest o gives =
      decides (step_is r (JumpsTo c) it (ap (step_of true) is)) (gives_all (rules_of chains c) false true back inner)
  turns_jump r c true false false true it is inner rest o gives =
      comes_back (step_is r (JumpsTo c) it (ap (step_of true) is)) (gives_all (rules_of chains c) false false true inner) gives
  turns_jump r c true false false false it is inner rest o gives =
      comes_back (step_is r (JumpsTo c) it (ap (step_of true) is)) (gives_all (rules_of chains c) false false false inner) gives
  turns_jump r c false a d back it is inner rest o gives = turns_same (r ∷ []) (and_none a) (and_none d) refl (turns_past r it) rest o gives

  -- ---- two lists

  outcome_twice : (a d r x y z : Bool) (o : Option Verdict)
      → outcome_by a d r (outcome_by x y z o) ≡ outcome_by (a || (x && not (d || r))) (d || (y && not (a || r))) (r || (z && not (a || d))) o
  outcome_twice true d r x y z o = refl
  outcome_twice false true r true y z o = refl
  outcome_twice false true r false y z o = refl
  outcome_twice false false true true true z o = refl
  outcome_twice false false true true false z o = refl
  outcome_twice false false true false true z o = refl
  outcome_twice false false true false false z o = refl
  outcome_twice false false false true y z o = refl
  outcome_twice false false false false true z o = refl
  outcome_twice false false false false false true o = refl
  outcome_twice false false false false false false o = refl

  pub turns_both : (one two : List Rule) (a d r x y z : Bool) → Turns fits chains one a d r → Turns fits chains two x y z
      → Turns fits chains (one ++ two) (a || (x && not (d || r))) (d || (y && not (a || r))) (r || (z && not (a || d)))
  turns_both one two a d r x y z first second rest o gives =
      subst (λ (rs : List Rule). Gives fits chains rs (outcome_by (a || (x && not (d || r))) (d || (y && not (a || r))) (r || (z && not (a || d))) o))
      (sym (append_assoc one two rest))
      (subst (Gives fits chains (one ++ (two ++ rest))) (outcome_twice a d r x y z o) (first (two ++ rest) (outcome_by x y z o) (second rest o gives)))

-- ---- effects

pub sets_still : (old new : List Node) (e : Effect) → Keeps old new → AreSets old e → AreSets new e
sets_still old new e keeps sets = record {
  accepted = let a = sets.accepted in let k = keeps.longer in omega (arith, a, k);
  dropped = let a = sets.dropped in let k = keeps.longer in omega (arith, a, k);
  returned = let a = sets.returned in let k = keeps.longer in omega (arith, a, k);
}

pub effect_still : (old new : List Node) (chains : List Chain) (state : CtState) (b : PacketBox) (rules : List Rule) (e : Effect) → Keeps old new
    → IsEffect old chains state b rules e → IsEffect new chains state b rules e
effect_still old new chains state b rules e keeps is = record {
  sets = sets_still old new e keeps is.sets;
  turns = λ p inside. turns_same (matches p state) chains rules (keeps.same e.accepted is.sets.accepted p) (keeps.same e.dropped is.sets.dropped p)
      (keeps.same e.returned is.sets.returned p) (is.turns p inside);
}

sets_by : (nodes : List Node) (a d r : Packet → Bool) (e : Effect) → IsEffectBy nodes a d r e → AreSets nodes e
sets_by nodes a d r e is = record { accepted = is.accepted.there; dropped = is.dropped.there; returned = is.returned.there }

-- No rules, or a rule that matches no packet of the box.
pub effect_none : (nodes : List Node) (chains : List Chain) (state : CtState) (b : PacketBox) (rules : List Rule) (e : Effect)
    → IsEffectBy nodes (λ p. false) (λ p. false) (λ p. false) e → ((p : Packet) → IsIn b p → Turns (matches p state) chains rules false false false)
    → IsEffect nodes chains state b rules e
effect_none nodes chains state b rules e is turns = record {
  sets = sets_by nodes _ _ _ e is;
  turns = λ p inside. turns_same (matches p state) chains rules (is.accepted.exact p) (is.dropped.exact p) (is.returned.exact p) (turns p inside);
}

pub effect_jump : (old mid new : List Node) (chains : List Chain) (state : CtState) (b : PacketBox) (r : Rule) (c matched : ℕ) (inner e : Effect)
    → ((p : Packet) → IsIn b p → matches p state r ≡ has mid matched p) → r.target ≡ Jump c → Keeps old mid → IsEffect old chains state b (rules_of chains c) inner
    → IsEffectBy new (λ p. has mid inner.accepted p && has mid matched p) (λ p. has mid inner.dropped p && has mid matched p) (λ p. false) e
    → IsEffect new chains state b (r ∷ []) e
effect_jump old mid new chains state b r c matched inner e header is keeps known jumps =
    let chain = effect_still old mid chains state b (rules_of chains c) inner keeps known in
    record {
      sets = sets_by new _ _ _ e jumps;
      turns = λ p inside. turns_same (matches p state) chains (r ∷ []) (jumps.accepted.exact p) (jumps.dropped.exact p) (jumps.returned.exact p)
          (turns_jump (matches p state) chains r c (has mid matched p) _ _ _ (header p inside) is (chain.turns p inside));
    }

pub effect_both : (old new : List Node) (chains : List Chain) (state : CtState) (b : PacketBox) (one two : List Rule) (first second e : Effect)
    → IsEffect old chains state b one first → IsEffect old chains state b two second → IsComposed old new first second e
    → IsEffect new chains state b (one ++ two) e
effect_both old new chains state b one two first second e is also composed = record {
  sets = sets_by new _ _ _ e composed;
  turns = λ p inside. turns_same (matches p state) chains (one ++ two) (composed.accepted.exact p) (composed.dropped.exact p) (composed.returned.exact p)
      (turns_both (matches p state) chains one two _ _ _ _ _ _ (is.turns p inside) (also.turns p inside));
}

-- ---- the halves of a list

pub halves : (rules : List Rule) (n : ℕ) → (take n rules ++ take (length rules - n) (drop n rules)) ≡ rules
halves rules n =
    ap (λ (rs : List Rule). take n rules ++ rs) (take_all (length rules - n) (drop n rules) (let e = length-drop n rules in omega (arith, e))) ∙ take-append-drop n rules

-- ---- one list of rules

pub only_one : (rules : List Rule) (r : Rule) → length rules ≤ 1 → slice_get rules 0 ≡ Some r → rules ≡ r ∷ []
only_one [] r few first = absurd (cc)
only_one (x ∷ []) r few first = ap (λ (y : Rule). y ∷ []) (some_same first)
  where
    some_same : {x y : Rule} → Some x ≡ Some y → x ≡ y
    some_same e = cc
only_one (x ∷ y ∷ ys) r few first = absurd (omega (arith, few))

-- ---- the verdict of FORWARD

verdict_is : (a d r accepts : Bool) (policy : Option Policy) → policy_verdict policy ≡ verdict_if accepts
    → verdict_if (a || (accepts && not d)) ≡ verdict_by policy (outcome_by a d r None)
verdict_is true d r accepts policy is = refl
verdict_is false true r true policy is = refl
verdict_is false true r false policy is = refl
verdict_is false false true true policy is = sym is
verdict_is false false true false policy is = sym is
verdict_is false false false true policy is = sym is
verdict_is false false false false policy is = sym is

pub accepted_is : (old new : List Node) (chains : List Chain) (state : CtState) (b : PacketBox) (e : Effect) (accepts : Bool) (set : ℕ)
    → IsEffect old chains state b (rules_of chains 1) e → policy_verdict (policy_of chains 1) ≡ verdict_if accepts
    → IsSet new set (λ p. has old e.accepted p || (accepts && not (has old e.dropped p))) → IsAcceptedBy new chains state b set
accepted_is old new chains state b e accepts set effect policy is = record {
  there = is.there;
  exact = λ p inside. record {
    outcome = outcome_by (has old e.accepted p) (has old e.dropped p) (has old e.returned p) None;
    gives = gives_all (matches p state) chains (rules_of chains 1) _ _ _ (effect.turns p inside);
    verdict = ap verdict_if (is.exact p)
        ∙ verdict_is (has old e.accepted p) (has old e.dropped p) (has old e.returned p) accepts (policy_of chains 1) policy;
  };
}

-- ---- rules after which no packet continues

module _ (fits : Rule → Bool) (chains : List Chain) (one : AreDeterministic chains) where
  abbrev HasOutcome : List Rule → Type 0
  HasOutcome rules = (o : Option Verdict) × Gives fits chains rules o

  jumped : (r : Rule) (rs : List Rule) (c : ℕ) (o : Option Verdict) → step_of (fits r) r.target ≡ JumpsTo c → Gives fits chains (rules_of chains c) o
      → HasOutcome rs → HasOutcome (r ∷ rs)
  jumped r rs c None step gives rest = (rest.0, comes_back step gives rest.1)
  jumped r rs c (Some v) step gives rest = (Some v, decides step gives)

  stepped : (r : Rule) (rs : List Rule) (effect : RuleEffect) → step_of (fits r) r.target ≡ effect → HasOutcome rs → HasOutcome (r ∷ rs)
  stepped r rs Continues step rest = (rest.0, goes_on step rest.1)
  stepped r rs (Ends o) step rest = (o, ends step)
  stepped r rs (JumpsTo c) step rest = let inner = one fits c 0 in jumped r rs c inner.outcome step inner.gives rest

  outcome_of : (rules rest : List Rule) → HasOutcome rest → HasOutcome (rules ++ rest)
  outcome_of [] rest some = some
  outcome_of (r ∷ rs) rest some = stepped r (rs ++ rest) (step_of (fits r) r.target) refl (outcome_of rs rest some)

  same_outcome : (a d r : Bool) (o other : Option Verdict) → (a || d || r) ≡ true → outcome_by a d r o ≡ outcome_by a d r other
  same_outcome true d r o other is = refl
  same_outcome false true r o other is = refl
  same_outcome false false true o other is = refl
  same_outcome false false false o other is = absurd (cc)

  pub turns_cut : (first second : List Rule) (a d r : Bool) → (a || d || r) ≡ true → Turns fits chains first a d r → Turns fits chains (first ++ second) a d r
  turns_cut first second a d r is turns rest o gives =
      let later = outcome_of second rest (o, gives) in
      subst (λ (rs : List Rule). Gives fits chains rs (outcome_by a d r o)) (sym (append_assoc first second rest))
      (subst (Gives fits chains (first ++ (second ++ rest))) (same_outcome a d r later.0 o is) (turns (second ++ rest) later.0 later.1))

pub effect_cut : (nodes : List Node) (chains : List Chain) (state : CtState) (b : PacketBox) (first second : List Rule) (e : Effect) → AreDeterministic chains
    → DecidesAll nodes b e → IsEffect nodes chains state b first e → IsEffect nodes chains state b (first ++ second) e
effect_cut nodes chains state b first second e one all is = record {
  sets = is.sets;
  turns = λ p inside. turns_cut (matches p state) chains one first second _ _ _ (all p inside) (is.turns p inside);
}

pub box_still : (old new : List Node) (b : PacketBox) (set : ℕ) → Keeps old new → HasBox old b set → HasBox new b set
box_still old new b set keeps is = record {
  there = let a = is.there in let k = keeps.longer in omega (arith, a, k);
  all = λ p inside. keeps.same set is.there p ∙ is.all p inside;
}

left_none : (area decided left : Bool) → left ≡ (area && not decided) → left ≡ false → area ≡ true → decided ≡ true
left_none true true left is none there = refl
left_none true false left is none there = absurd (cc)
left_none false decided left is none there = absurd (cc)

pub all_decided : (old one two new : List Node) (b : PacketBox) (area verdicts decided left : ℕ) (e : Effect) → HasBox old b area → AreSets old e → Keeps old one
    → Keeps one two → IsSet one verdicts (λ p. has old e.accepted p || has old e.dropped p) → IsSet two decided (λ p. has one verdicts p || has one e.returned p)
    → IsSet new left (λ p. has two area p && not (has two decided p)) → ((p : Packet) → has new left p ≡ false) → DecidesAll old b e
all_decided old one two new b area verdicts decided left e box sets first second is_verdicts is_decided is_left none p inside =
    let there_one : area < length one = let a = box.there in let k = first.longer in omega (arith, a, k) in
    let in_area : has two area p ≡ true = second.same area there_one p ∙ (first.same area box.there p ∙ box.all p inside) in
    let all : has two decided p ≡ true = left_none (has two area p) (has two decided p) (has new left p) (is_left.exact p) (none p) in_area in
    let parts : has two decided p ≡ (has old e.accepted p || has old e.dropped p || has old e.returned p) =
    is_decided.exact p ∙ (ap (λ (x : Bool). x || has one e.returned p) (is_verdicts.exact p)
    ∙ ap (λ (x : Bool). has old e.accepted p || has old e.dropped p || x) (first.same e.returned sets.returned p)) in
    sym parts ∙ all
