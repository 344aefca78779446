-- Laws of walks of sets of packets through rules.
use Rattle.std.proofs.Common.{◌≡◌, ◌⊎◌, inl, inr, ◌↔◌, ℕ, zero, suc, ◌+◌, ◌<◌, ◌≤◌, Bool, true, false, List, [], ◌∷◌, ◌++◌, length, Option, Some, None, get_or, drop, slice_get, ◌-◌, refl, sym, ap, subst, ◌∙◌, arith}
use Rattle.std.specs.Prelude.{◌&&◌, ◌||◌, not}
use Rattle.std.proofs.Math.ListN.{drop_of_length-le}
use Rattle.std.proofs.lemmas.Option.{slice_get-get_or}
use Rattle.host_net.specs.declared.packet.Packet.{Packet}
use Rattle.host_net.specs.declared.packet.CtState.{CtState}
use Rattle.host_net.specs.declared.packet.Verdict.{Verdict}
use Rattle.header_space.specs.declared.packet_box.PacketBox.{PacketBox}
use Rattle.header_space.specs.Boxes.{IsIn}
use Rattle.ipt_rules.specs.declared.marks.Place.{Place}
use Rattle.ipt_rules.specs.declared.rule.Rule.{Rule}
use Rattle.ipt_rules.specs.declared.rule.Target.{Target}
use Rattle.ipt_rules.specs.declared.rule.Target.TheVariants.{Jump}
use Rattle.ipt_rules.specs.Chain.{Chain, rules_of}
use Rattle.ipt_rules.specs.Matching.{matches}
use Rattle.ipt_rules.specs.Meets.{MeetsFrom, meets_behind, meets_here, meets_inside, meets_later}
use Rattle.ipt_rules.specs.inner.Walking.{IsShallow}
use Rattle.ipt_rules.specs.Semantics.{Continues, Ends, Gives, JumpsTo, RuleEffect, at_end, comes_back, ends, goes_on, step_of}
use Rattle.packet_set.specs.declared.node.Node.{Node}
use Rattle.packet_set.specs.Nodes.{has}
use Rattle.packet_set.specs.Sets.{IsSet, Keeps}
use Rattle.packet_set.proofs.BranchLaws.{keeps_both}
use Rattle.rules_set.specs.declared.met.Flow.{Flow}
use Rattle.rules_set.specs.declared.met.MetSet.{MetSet}
use Rattle.rules_set.specs.Meeting.{AreSetsOfRules, IsListed}
use Rattle.rules_set.specs.inner.Known.{JumpsShallow}
use Rattle.rules_set.specs.inner.Walks.{AreFlowSets, ComesBack, IsPassed, IsShown, IsStepped, IsUnderWay, IsWalked, MeetsInside, Passes}
use Rattle.rules_set.proofs.KnownLaws.{shallow_rules}

-- ---- tests

which : (x : Bool) → (x ≡ true) ⊎ (x ≡ false)
which true = inl refl
which false = inr refl

both_true : (x y : Bool) → (x && y) ≡ true → (x ≡ true) × (y ≡ true)
both_true true true is = (refl, refl)
both_true true false is = absurd (cc)
both_true false y is = absurd (cc)

pub with_false : (x : Bool) → (x && false) ≡ false
with_false true = refl
with_false false = refl

-- ---- the first of the rules

module _ {fits : Rule → Bool} {chains : List Chain} where
  after_rule : {at : Place} {c n : ℕ} {r : Rule} {rest : List Rule} (effect : RuleEffect) → step_of (fits r) r.target ≡ effect → Passes fits chains effect
      → MeetsFrom fits chains at c (n + 1) rest → MeetsFrom fits chains at c n (r ∷ rest)
  after_rule Continues step passes m = meets_later step m
  after_rule (Ends o) step passes m = absurd passes
  after_rule (JumpsTo d) step passes m = meets_behind step passes m

  inside_rule : {at : Place} {c n : ℕ} {r : Rule} {rest : List Rule} (effect : RuleEffect) → step_of (fits r) r.target ≡ effect → MeetsInside fits chains at effect
      → MeetsFrom fits chains at c n (r ∷ rest)
  inside_rule Continues step inside = absurd inside
  inside_rule (Ends o) step inside = absurd inside
  inside_rule (JumpsTo d) step inside = meets_inside step inside

  gives_after : {r : Rule} {rest : List Rule} (effect : RuleEffect) → step_of (fits r) r.target ≡ effect → Passes fits chains effect
      → Gives fits chains rest None → Gives fits chains (r ∷ rest) None
  gives_after Continues step passes g = goes_on step g
  gives_after (Ends o) step passes g = absurd passes
  gives_after (JumpsTo d) step passes g = comes_back step passes g

  from_rule : {at : Place} {c n : ℕ} {r : Rule} {rest : List Rule} → MeetsFrom fits chains at c n (r ∷ rest)
      → ((at ≡ record { chain = c; rule = n }) × (fits r ≡ true))
      ⊎ (MeetsInside fits chains at (step_of (fits r) r.target) ⊎ (Passes fits chains (step_of (fits r) r.target) × MeetsFrom fits chains at c (n + 1) rest))
  from_rule (meets_here is on) = inl (is, on)
  from_rule (meets_later step m) = inr (inr (subst (λ (e : RuleEffect). Passes fits chains e) (sym step) tt, m))
  from_rule {at} (meets_inside step m) = inr (inl (subst (λ (e : RuleEffect). MeetsInside fits chains at e) (sym step) m))
  from_rule (meets_behind step g m) = inr (inr (subst (λ (e : RuleEffect). Passes fits chains e) (sym step) g, m))

  from_gives : {r : Rule} {rest : List Rule} → Gives fits chains (r ∷ rest) None
      → (step_of (fits r) r.target ≡ Ends None) ⊎ (Passes fits chains (step_of (fits r) r.target) × Gives fits chains rest None)
  from_gives (goes_on step g) = inr (subst (λ (e : RuleEffect). Passes fits chains e) (sym step) tt, g)
  from_gives (ends step) = inl step
  from_gives (comes_back step h g) = inr (subst (λ (e : RuleEffect). Passes fits chains e) (sym step) h, g)

module _ (fits : Rule → Bool) (chains : List Chain) (r : Rule) (c n : ℕ) (left met after : Bool) (part : met ≡ (left && fits r))
    (passes : (after ≡ true) ↔ ((left ≡ true) × ((met ≡ false) ⊎ Passes fits chains (step_of true r.target)))) where
  meets_it : left ≡ true → fits r ≡ true → met ≡ true
  meets_it l f = part ∙ (ap (λ (x : Bool). x && fits r) l ∙ f)

  not_met : left ≡ true → fits r ≡ false → met ≡ false
  not_met l f = part ∙ (ap (λ (x : Bool). x && fits r) l ∙ f)

  is_met : met ≡ true → (left ≡ true) × (fits r ≡ true)
  is_met m = both_true left (fits r) (sym part ∙ m)

  effect_on : fits r ≡ true → step_of true r.target ≡ step_of (fits r) r.target
  effect_on f = ap (λ (x : Bool). step_of x r.target) (sym f)

  passes_off : fits r ≡ false → Passes fits chains (step_of (fits r) r.target)
  passes_off f = subst (λ (x : Bool). Passes fits chains (step_of x r.target)) (sym f) tt

  still : after ≡ true → (left ≡ true) × Passes fits chains (step_of (fits r) r.target)
  still a =
      let w = passes.0 a in (
        w.0,
        elim (which (fits r)) [
          | inl on ↦ elim w.1 [
            | inl off ↦ absurd (let wrong : true ≡ false = sym (meets_it w.0 on) ∙ off in cc)
            | inr goes ↦ subst (λ (e : RuleEffect). Passes fits chains e) (effect_on on) goes
          ]
          | inr off ↦ passes_off off
        ],
      )

  goes_past : left ≡ true → Passes fits chains (step_of (fits r) r.target) → after ≡ true
  goes_past l goes = elim (which (fits r)) [
    | inl on ↦ passes.1 (l, inr (subst (λ (e : RuleEffect). Passes fits chains e) (sym (effect_on on)) goes))
    | inr off ↦ passes.1 (l, inl (not_met l off))
  ]

  pub shown : (Old New : Type 0) (at : Place) (rest : List Rule)
      → (New ↔ ((Old ⊎ ((record { chain = c; rule = n } ≡ at) × (met ≡ true))) ⊎ ((met ≡ true) × MeetsInside fits chains at (step_of true r.target))))
      → ((New ⊎ ((after ≡ true) × MeetsFrom fits chains at c (n + 1) rest)) ↔ (Old ⊎ ((left ≡ true) × MeetsFrom fits chains at c n (r ∷ rest))))
  shown Old New at rest lists = (
    λ is. elim is [
      | inl new ↦ elim (lists.0 new) [
        | inl listed ↦ elim listed [
          | inl old ↦ inl old
          | inr here ↦ let w = is_met here.1 in inr (w.0, meets_here (sym here.0) w.1)
        ]
        | inr inside ↦
            let w = is_met inside.0 in
            inr (w.0, inside_rule (step_of (fits r) r.target) refl (subst (λ (e : RuleEffect). MeetsInside fits chains at e) (effect_on w.1) inside.1))
      ]
      | inr later ↦ let w = still later.0 in inr (w.0, after_rule (step_of (fits r) r.target) refl w.1 later.1)
    ],
    λ is. elim is [
      | inl old ↦ inl (lists.1 (inl (inl old)))
      | inr m ↦ elim (from_rule m.1) [
        | inl here ↦ inl (lists.1 (inl (inr (sym here.0, meets_it m.0 here.1))))
        | inr more ↦ elim more [
          | inl inside ↦ elim (which (fits r)) [
            | inl on ↦ inl (lists.1 (inr (meets_it m.0 on, subst (λ (e : RuleEffect). MeetsInside fits chains at e) (sym (effect_on on)) inside)))
            | inr off ↦ absurd (subst (λ (x : Bool). MeetsInside fits chains at (step_of x r.target)) off inside)
          ]
          | inr w ↦ inr (goes_past m.0 w.0, w.1)
        ]
      ]
    ],
  )

  pub comes : (returned later : Bool) (rest : List Rule)
      → ((later ≡ true) ↔ ((returned ≡ true) ⊎ ((met ≡ true) × (step_of true r.target ≡ Ends None))))
      → (((later ≡ true) ⊎ ((after ≡ true) × Gives fits chains rest None)) ↔ ((returned ≡ true) ⊎ ((left ≡ true) × Gives fits chains (r ∷ rest) None)))
  comes returned later rest returns = (
    λ is. elim is [
      | inl back ↦ elim (returns.0 back) [
        | inl before ↦ inl before
        | inr here ↦ let w = is_met here.0 in inr (w.0, ends (sym (effect_on w.1) ∙ here.1))
      ]
      | inr goes ↦ let w = still goes.0 in inr (w.0, gives_after (step_of (fits r) r.target) refl w.1 goes.1)
    ],
    λ is. elim is [
      | inl before ↦ inl (returns.1 (inl before))
      | inr g ↦ elim (from_gives g.1) [
        | inl stops ↦ elim (which (fits r)) [
          | inl on ↦ inl (returns.1 (inr (meets_it g.0 on, effect_on on ∙ stops)))
          | inr off ↦ absurd (let wrong : step_of false r.target ≡ Ends None = subst (λ (x : Bool). step_of x r.target ≡ Ends None) off stops in cc)
        ]
        | inr w ↦ inr (goes_past g.0 w.0, w.1)
      ]
    ],
  )

-- ---- lists of sets

pub sets_still : (old new : List Node) (chains : List Chain) (sets : List MetSet) → Keeps old new → AreSetsOfRules old chains sets → AreSetsOfRules new chains sets
sets_still old new chains sets keeps all k d within =
    let one = all k d within in
    let a = one.there in
    let b = keeps.longer in
    record { there = omega (arith, a, b); ends = one.ends }

module _ (old new : List Node) (chains : List Chain) (keeps : Keeps old new) (p : Packet) (at : Place) where
  pub listed_new : (sets : List MetSet) → AreSetsOfRules old chains sets → IsListed old sets p at → IsListed new sets p at
  listed_new [] all is = is
  listed_new (m ∷ ms) all (inl one) = inl (one.0, keeps.same m.set (all 0 m (omega arith)).there p ∙ one.1)
  listed_new (m ∷ ms) all (inr more) = inr (listed_new ms (λ k d within. all (suc k) d (omega (arith, within))) more)

  pub listed_old : (sets : List MetSet) → AreSetsOfRules old chains sets → IsListed new sets p at → IsListed old sets p at
  listed_old [] all is = is
  listed_old (m ∷ ms) all (inl one) = inl (one.0, sym (keeps.same m.set (all 0 m (omega arith)).there p) ∙ one.1)
  listed_old (m ∷ ms) all (inr more) = inr (listed_old ms (λ k d within. all (suc k) d (omega (arith, within))) more)

module _ (nodes : List Node) (p : Packet) (at : Place) (m : MetSet) where
  pub listed_push : (sets : List MetSet) → IsListed nodes (sets ++ m ∷ []) p at → IsListed nodes sets p at ⊎ ((m.place ≡ at) × (has nodes m.set p ≡ true))
  listed_push [] (inl one) = inr one
  listed_push [] (inr none) = absurd none
  listed_push (x ∷ xs) (inl one) = inl (inl one)
  listed_push (x ∷ xs) (inr more) = elim (listed_push xs more) [ inl is ↦ inl (inr is) | inr is ↦ inr is ]

  pub pushed_listed : (sets : List MetSet) → IsListed nodes sets p at ⊎ ((m.place ≡ at) × (has nodes m.set p ≡ true)) → IsListed nodes (sets ++ m ∷ []) p at
  pushed_listed [] (inl none) = absurd none
  pushed_listed [] (inr one) = inl one
  pushed_listed (x ∷ xs) (inl (inl one)) = inl one
  pushed_listed (x ∷ xs) (inl (inr more)) = inr (pushed_listed xs (inl more))
  pushed_listed (x ∷ xs) (inr one) = inr (pushed_listed xs (inr one))

pub flow_still : (old new : List Node) (f : Flow) → Keeps old new → AreFlowSets old f → AreFlowSets new f
flow_still old new f keeps are =
    let a = are.left in
    let b = are.returned in
    let k = keeps.longer in
    record { left = omega (arith, a, k); returned = omega (arith, b, k) }

-- ---- one rule

module _ (old new : List Node) (chains : List Chain) (state : CtState) (b : PacketBox) (place : Place) (r : Rule) (f : Flow) (sets : List MetSet)
    (keeps : Keeps old new) (are : AreFlowSets old f) (all : AreSetsOfRules old chains sets) where
  left_same : (p : Packet) → has new f.left p ≡ has old f.left p
  left_same p = keeps.same f.left are.left p

  -- No packet that is left matches the rule.
  pub idle : ((p : Packet) → IsIn b p → (has old f.left p && matches p state r) ≡ false) → IsStepped old new chains state b place r f sets sets f
  idle none = record {
    sets = flow_still old new f keeps are;
    met = λ p inside at rest.
        shown (matches p state) chains r place.chain place.rule (has old f.left p) false (has new f.left p) (sym (none p inside))
        (λ is. (sym (left_same p) ∙ is, inl refl), λ is. left_same p ∙ is.0)
        (IsListed old sets p at) (IsListed new sets p at) at rest (
          λ is. inl (inl (listed_old old new chains keeps p at sets all is)),
          λ is. elim is [
            | inl one ↦ elim one [ inl old_one ↦ listed_new old new chains keeps p at sets all old_one | inr here ↦ absurd (let wrong = here.1 in cc) ]
            | inr inside_one ↦ absurd (let wrong = inside_one.0 in cc)
          ],
        );
    back = λ p inside rest.
        comes (matches p state) chains r place.chain place.rule (has old f.left p) false (has new f.left p) (sym (none p inside))
        (λ is. (sym (left_same p) ∙ is, inl refl), λ is. left_same p ∙ is.0)
        (has old f.returned p) (has new f.returned p) rest (
          λ is. inl (sym (keeps.same f.returned are.returned p) ∙ is),
          λ is. elim is [ inl one ↦ keeps.same f.returned are.returned p ∙ one | inr none_met ↦ absurd (let wrong = none_met.0 in cc) ],
        );
  }

  -- The packets that are left and match the rule are added, and traverse the chain that it jumps to.
  pub stepped : (last : List Node) (m : MetSet) (pushed new_sets : List MetSet) (after : Flow)
      → ((p : Packet) → IsIn b p → has new m.set p ≡ (has old f.left p && matches p state r)) → m.place ≡ place → pushed ≡ sets ++ m ∷ []
      → IsPassed new last chains state b r.target m.set f pushed new_sets after → IsStepped old last chains state b place r f sets new_sets after
  stepped last m pushed new_sets after met here is passed = record {
    sets = passed.sets;
    met = λ p inside at rest.
        let lists = passed.listed p inside at in
        let left = passed.left p inside in
        shown (matches p state) chains r place.chain place.rule (has old f.left p) (has new m.set p) (has last after.left p) (met p inside)
        (λ on. let w = left.0 on in (sym (left_same p) ∙ w.0, w.1), λ w. left.1 (left_same p ∙ w.0, w.1))
        (IsListed old sets p at) (IsListed last new_sets p at) at rest (
          λ on. elim (lists.0 on) [
            | inl one ↦ elim (listed_push new p at m sets (subst (λ (l : List MetSet). IsListed new l p at) is one)) [
              | inl before ↦ inl (inl (listed_old old new chains keeps p at sets all before))
              | inr own ↦ inl (inr (sym here ∙ own.0, own.1))
            ]
            | inr more ↦ inr more
          ],
          λ on. elim on [
            | inl one ↦ lists.1 (inl (subst (λ (l : List MetSet). IsListed new l p at) (sym is) (pushed_listed new p at m sets (elim one [
              | inl before ↦ inl (listed_new old new chains keeps p at sets all before)
              | inr own ↦ inr (here ∙ own.0, own.1)
            ]))))
            | inr more ↦ lists.1 (inr more)
          ],
        );
    back = λ p inside rest.
        let left = passed.left p inside in
        let returned = passed.returned p inside in
        comes (matches p state) chains r place.chain place.rule (has old f.left p) (has new m.set p) (has last after.left p) (met p inside)
        (λ on. let w = left.0 on in (sym (left_same p) ∙ w.0, w.1), λ w. left.1 (left_same p ∙ w.0, w.1))
        (has old f.returned p) (has last after.returned p) rest (
          λ on. elim (returned.0 on) [ inl before ↦ inl (sym (keeps.same f.returned are.returned p) ∙ before) | inr own ↦ inr own ],
          λ on. elim on [ inl before ↦ returned.1 (inl (keeps.same f.returned are.returned p ∙ before)) | inr own ↦ returned.1 (inr own) ],
        );
  }

-- ---- the rules of a chain

no_rules : {fits : Rule → Bool} {chains : List Chain} {at : Place} {c n : ℕ} {rules : List Rule} → MeetsFrom fits chains at c n rules → rules ≡ [] → ⊥
no_rules (meets_here is on) none = cc
no_rules (meets_later step m) none = cc
no_rules (meets_inside step m) none = cc
no_rules (meets_behind step g m) none = cc

either_true : (x y : Bool) → (x || y) ≡ true → (x ≡ true) ⊎ (y ≡ true)
either_true true y is = inl refl
either_true false y is = inr is

first_true : (x y : Bool) → x ≡ true → (x || y) ≡ true
first_true true y is = refl
first_true false y is = absurd (cc)

second_true : (x y : Bool) → y ≡ true → (x || y) ≡ true
second_true true y is = refl
second_true false y is = is

none_left : (rules : List Rule) (n : ℕ) → length rules ≤ n → drop n rules ≡ []
none_left rules n all = drop_of_length-le rules all

module _ (old : List Node) (chains : List Chain) (state : CtState) (b : PacketBox) (c incoming : ℕ) (old_sets : List MetSet) where
  pub way_first : (f : Flow) → f.left ≡ incoming → incoming < length old → IsSet old f.returned (λ p. false)
      → IsUnderWay old old chains state b c incoming 0 old_sets old_sets f
  way_first f is there none = record {
    sets = record { left = subst (λ (n : ℕ). n < length old) (sym is) there; returned = none.there };
    met = λ p inside at. (
      λ on. elim on [ inl one ↦ inl one | inr m ↦ inr (subst (λ (n : ℕ). has old n p ≡ true) is m.0, m.1) ],
      λ on. elim on [ inl one ↦ inl one | inr m ↦ inr (subst (λ (n : ℕ). has old n p ≡ true) (sym is) m.0, m.1) ],
    );
    back = λ p inside. (
      λ on. elim on [
        | inl returned ↦ absurd (let wrong : true ≡ false = sym returned ∙ none.exact p in cc)
        | inr g ↦ (subst (λ (n : ℕ). has old n p ≡ true) is g.0, g.1)
      ],
      λ g. inr (subst (λ (n : ℕ). has old n p ≡ true) (sym is) g.0, g.1),
    );
  }

  pub way_step : (mid new : List Node) (n : ℕ) (r : Rule) (sets new_sets : List MetSet) (f after : Flow) → r ∷ drop (n + 1) (rules_of chains c) ≡ drop n (rules_of chains c)
      → IsUnderWay old mid chains state b c incoming n old_sets sets f
      → IsStepped mid new chains state b (record { chain = c; rule = n }) r f sets new_sets after
      → IsUnderWay old new chains state b c incoming (n + 1) old_sets new_sets after
  way_step mid new n r sets new_sets f after is way stepped = record {
    sets = stepped.sets;
    met = λ p inside at.
        let now = stepped.met p inside at (drop (n + 1) (rules_of chains c)) in
        let before = way.met p inside at in (
          λ on. before.0 (subst (λ (rs : List Rule). IsShown mid chains state sets f.left p at c n rs) is (now.0 on)),
          λ on. now.1 (subst (λ (rs : List Rule). IsShown mid chains state sets f.left p at c n rs) (sym is) (before.1 on)),
        );
    back = λ p inside.
        let now = stepped.back p inside (drop (n + 1) (rules_of chains c)) in
        let before = way.back p inside in (
          λ on. before.0 (subst (λ (rs : List Rule). ComesBack mid chains state f p rs) is (now.0 on)),
          λ on. now.1 (subst (λ (rs : List Rule). ComesBack mid chains state f p rs) (sym is) (before.1 on)),
        );
  }

  pub way_all : (mid new : List Node) (n back : ℕ) (sets : List MetSet) (f : Flow) → length (rules_of chains c) ≤ n → AreSetsOfRules mid chains sets → Keeps mid new
      → IsUnderWay old mid chains state b c incoming n old_sets sets f → IsSet new back (λ p. has mid f.left p || has mid f.returned p)
      → IsWalked old new chains state b c incoming old_sets sets back
  way_all mid new n back sets f all are keeps way union =
      let none : drop n (rules_of chains c) ≡ [] = none_left (rules_of chains c) n all in
      record {
        there = union.there;
        met = λ p inside at.
            let w = way.met p inside at in (
              λ on. w.0 (inl (listed_old mid new chains keeps p at sets are on)),
              λ on. elim (w.1 on) [ inl one ↦ listed_new mid new chains keeps p at sets are one | inr more ↦ absurd (no_rules more.1 none) ],
            );
        back = λ p inside.
            let w = way.back p inside in (
              λ on. elim (either_true (has mid f.left p) (has mid f.returned p) (sym (union.exact p) ∙ on)) [
                | inl left ↦ w.0 (inr (left, subst (λ (rs : List Rule). Gives (matches p state) chains rs None) (sym none) at_end))
                | inr returned ↦ w.0 (inl returned)
              ],
              λ g. union.exact p ∙ elim (w.1 g) [
                | inl returned ↦ second_true (has mid f.left p) (has mid f.returned p) returned
                | inr left ↦ first_true (has mid f.left p) (has mid f.returned p) left.0
              ],
            );
      }

-- ---- targets

less_true : (x y : Bool) → (x && not y) ≡ true → (x ≡ true) × (y ≡ false)
less_true true true is = absurd (cc)
less_true true false is = (refl, refl)
less_true false y is = absurd (cc)

true_less : (x y : Bool) → x ≡ true → y ≡ false → (x && not y) ≡ true
true_less true true is off = absurd (cc)
true_less true false is off = refl
true_less false y is off = absurd (cc)

module _ (old : List Node) (chains : List Chain) (state : CtState) (b : PacketBox) (t : Target) (met : ℕ) (f : Flow) (sets : List MetSet)
    (are : AreFlowSets old f) (there : met < length old) (all : AreSetsOfRules old chains sets) where
  continues : (e : RuleEffect) (o : Option Verdict) → e ≡ Continues → e ≡ Ends o → ⊥
  continues e o is wrong = cc

  pub passed_count : step_of true t ≡ Continues → IsPassed old old chains state b t met f sets sets f
  passed_count is = record {
    sets = are;
    left = λ p inside. (λ on. (on, inr (subst (λ (e : RuleEffect). Passes (matches p state) chains e) (sym is) tt)), λ on. on.0);
    returned = λ p inside. (λ on. inl on, λ on. elim on [ inl one ↦ one | inr own ↦ absurd (continues (step_of true t) None is own.1) ]);
    listed = λ p inside at. (
      λ on. inl on,
      λ on. elim on [ inl one ↦ one | inr own ↦ absurd (subst (λ (e : RuleEffect). MeetsInside (matches p state) chains at e) is own.1) ],
    );
  }

  module _ (new : List Node) (keeps : Keeps old new) (o : Option Verdict) (is : step_of true t ≡ Ends o) (after : Flow)
      (left : (p : Packet) → has new after.left p ≡ (has old f.left p && not (has old met p))) where
    left_ends : (p : Packet) → (has new after.left p ≡ true) ↔ ((has old f.left p ≡ true) × ((has old met p ≡ false) ⊎ Passes (matches p state) chains (step_of true t)))
    left_ends p = (
      λ on. let w = less_true (has old f.left p) (has old met p) (sym (left p) ∙ on) in (w.0, inl w.1),
      λ on. left p ∙ elim on.1 [
        | inl off ↦ true_less (has old f.left p) (has old met p) on.0 off
        | inr goes ↦ absurd (subst (λ (e : RuleEffect). Passes (matches p state) chains e) is goes)
      ],
    )

    listed_ends : (p : Packet) (at : Place)
        → IsListed new sets p at ↔ (IsListed old sets p at ⊎ ((has old met p ≡ true) × MeetsInside (matches p state) chains at (step_of true t)))
    listed_ends p at = (
      λ on. inl (listed_old old new chains keeps p at sets all on),
      λ on. elim on [
        | inl one ↦ listed_new old new chains keeps p at sets all one
        | inr own ↦ absurd (subst (λ (e : RuleEffect). MeetsInside (matches p state) chains at e) is own.1)
      ],
    )

    pub passed_ends : (v : Verdict) → o ≡ Some v → after.returned ≡ f.returned → AreFlowSets new after → IsPassed old new chains state b t met f sets sets after
    passed_ends v some same sets_there = record {
      sets = sets_there;
      left = λ p inside. left_ends p;
      returned = λ p inside. (
        λ on. inl (sym (keeps.same f.returned are.returned p) ∙ subst (λ (n : ℕ). has new n p ≡ true) same on),
        λ on. elim on [
          | inl one ↦ subst (λ (n : ℕ). has new n p ≡ true) (sym same) (keeps.same f.returned are.returned p ∙ one)
          | inr own ↦ absurd (let wrong : Ends (Some v) ≡ Ends None = sym (is ∙ ap (λ (x : Option Verdict). Ends x) some) ∙ own.1 in cc)
        ],
      );
      listed = λ p inside at. listed_ends p at;
    }

    pub passed_returns : o ≡ None → AreFlowSets new after → ((p : Packet) → has new after.returned p ≡ (has old f.returned p || has old met p))
        → IsPassed old new chains state b t met f sets sets after
    passed_returns none sets_there returned = record {
      sets = sets_there;
      left = λ p inside. left_ends p;
      returned = λ p inside. (
        λ on. elim (either_true (has old f.returned p) (has old met p) (sym (returned p) ∙ on)) [
          | inl one ↦ inl one
          | inr own ↦ inr (own, is ∙ ap (λ (x : Option Verdict). Ends x) none)
        ],
        λ on. returned p ∙ elim on [
          | inl one ↦ first_true (has old f.returned p) (has old met p) one
          | inr own ↦ second_true (has old f.returned p) (has old met p) own.0
        ],
      );
      listed = λ p inside at. listed_ends p at;
    }

  pub passed_jumps : (c : ℕ) (one two new : List Node) (first back : ℕ) (new_sets : List MetSet) (after : Flow) → t ≡ Jump c
      → ((p : Packet) → has old met p ≡ true → has old f.left p ≡ true) → Keeps old one → Keeps one two → Keeps two new
      → IsSet one first (λ p. has old f.left p && not (has old met p)) → AreSetsOfRules two chains new_sets
      → IsWalked one two chains state b c met sets new_sets back → IsSet new after.left (λ p. has two first p || has two back p) → after.returned ≡ f.returned
      → IsPassed old new chains state b t met f sets new_sets after
  passed_jumps c one two new first back new_sets after is part k l m left_first sets_two walked union same =
      let jump : step_of true t ≡ JumpsTo c = ap (step_of true) is in
      let old_two : Keeps old two = keeps_both old one two k l in
      let old_new : Keeps old new = keeps_both old two new old_two m in
      record {
        sets = record {
          left = union.there;
          returned = subst (λ (n : ℕ). n < length new) (sym same) (let x = are.returned in let y = old_new.longer in omega (arith, x, y));
        };
        left = λ p inside.
            let firsts : has two first p ≡ (has old f.left p && not (has old met p)) = l.same first left_first.there p ∙ left_first.exact p in
            let backs = walked.back p inside in
            let met_one : has one met p ≡ has old met p = k.same met there p in (
              λ on. elim (either_true (has two first p) (has two back p) (sym (union.exact p) ∙ on)) [
                | inl by_first ↦ let w = less_true (has old f.left p) (has old met p) (sym firsts ∙ by_first) in (w.0, inl w.1)
                | inr by_back ↦
                    let w = backs.0 by_back in (
                      part p (sym met_one ∙ w.0),
                      inr (subst (λ (e : RuleEffect). Passes (matches p state) chains e) (sym jump) w.1),
                    )
              ],
              λ on. union.exact p ∙ elim (which (has old met p)) [
                | inl hit ↦ elim on.1 [
                  | inl off ↦ absurd (let wrong : true ≡ false = sym hit ∙ off in cc)
                  | inr goes ↦ second_true (has two first p) (has two back p)
                      (backs.1 (met_one ∙ hit, subst (λ (e : RuleEffect). Passes (matches p state) chains e) jump goes))
                ]
                | inr off ↦ first_true (has two first p) (has two back p) (firsts ∙ true_less (has old f.left p) (has old met p) on.0 off)
              ],
            );
        returned = λ p inside. (
          λ on. inl (sym (old_new.same f.returned are.returned p) ∙ subst (λ (n : ℕ). has new n p ≡ true) same on),
          λ on. elim on [
            | inl before ↦ subst (λ (n : ℕ). has new n p ≡ true) (sym same) (old_new.same f.returned are.returned p ∙ before)
            | inr own ↦ absurd (let wrong : JumpsTo c ≡ Ends None = sym jump ∙ own.1 in cc)
          ],
        );
        listed = λ p inside at.
            let w = walked.met p inside at in
            let met_one : has one met p ≡ has old met p = k.same met there p in (
              λ on. elim (w.0 (listed_old two new chains m p at new_sets sets_two on)) [
                | inl before ↦ inl (listed_old old one chains k p at sets all before)
                | inr own ↦ inr (sym met_one ∙ own.0, subst (λ (e : RuleEffect). MeetsInside (matches p state) chains at e) (sym jump) own.1)
              ],
              λ on. listed_new two new chains m p at new_sets sets_two (w.1 (elim on [
                | inl before ↦ inl (listed_new old one chains k p at sets all before)
                | inr own ↦ inr (met_one ∙ own.0, subst (λ (e : RuleEffect). MeetsInside (matches p state) chains at e) jump own.1)
              ])),
            );
      }

-- ---- a rule of a chain

drop_first : (rs : List Rule) (n : ℕ) (d : Rule) → n < length rs → drop n rs ≡ get_or rs n d ∷ drop (suc n) rs
drop_first [] n d within = absurd (omega (arith, within))
drop_first (x ∷ xs) zero d within = refl
drop_first (x ∷ xs) (suc n) d within = drop_first xs n d (omega (arith, within))

pub rule_is : (rs rules : List Rule) (n : ℕ) (r d : Rule) → rs ≡ rules → n < length rs → r ≡ get_or rs n d → slice_get rules n ≡ Some r
rule_is rs rules n r d is within read =
    subst (λ (xs : List Rule). slice_get xs n ≡ Some r) is (subst (λ (x : Rule). slice_get rs n ≡ Some x) (sym read) (slice_get-get_or rs n d within))

pub rule_next : (rs rules : List Rule) (n : ℕ) (r d : Rule) → rs ≡ rules → n < length rs → r ≡ get_or rs n d → r ∷ drop (n + 1) rules ≡ drop n rules
rule_next rs rules n r d is within read =
    let next : n + 1 ≡ suc n = omega arith in
    subst (λ (xs : List Rule). r ∷ drop (n + 1) xs ≡ drop n xs) is
    (subst (λ (k : ℕ). r ∷ drop k rs ≡ drop n rs) (sym next) (ap (λ (x : Rule). x ∷ drop (suc n) rs) read ∙ sym (drop_first rs n d within)))

pub rule_shallow : (chains : List Chain) (depth c : ℕ) (rs : List Rule) (n : ℕ) (r d : Rule) → rs ≡ rules_of chains c → n < length rs → r ≡ get_or rs n d
    → IsShallow chains depth c → JumpsShallow chains (depth - 1) r
rule_shallow chains depth c rs n r d is within read shallow =
    subst (JumpsShallow chains (depth - 1)) (sym read)
    (subst (λ (xs : List Rule). JumpsShallow chains (depth - 1) (get_or xs n d)) (sym is)
    (shallow_rules chains depth c shallow n d (subst (λ (xs : List Rule). n < length xs) is within)))

pub both_same : {x y s t : Bool} → x ≡ s → y ≡ t → (x || y) ≡ (s || t)
both_same {x} {y} {s} {t} a b = ap (λ (v : Bool). v || y) a ∙ ap (λ (v : Bool). s || v) b

-- The packets that are left and match the rule.
pub met_is : {left old fitting header rule met : Bool} → left ≡ old → fitting ≡ header → rule ≡ header → met ≡ (left && fitting) → met ≡ (old && rule)
met_is {left} {old} {fitting} {header} {rule} {met} a b c d =
    d ∙ (ap (λ (v : Bool). v && fitting) a ∙ ap (λ (v : Bool). old && v) (b ∙ sym c))
