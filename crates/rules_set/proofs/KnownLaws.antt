-- Laws of the known effects of chains.
use Rattle.std.proofs.Common.{drop, ◌-◌, ◌≤◌, ◌++◌, ◌≡◌, ◌⊎◌, inl, inr, ℕ, zero, suc, ◌<◌, List, [], ◌∷◌, length, Option, Some, None, get_or, take, set, replicate, ◌+◌, refl, sym, ap, subst, ◌∙◌, arith}
use Rattle.std.specs.Prelude.{IsSome}
use Rattle.std.specs.List.{All}
use Rattle.std.proofs.Math.Seq.{take-add, take-length}
use Rattle.std.proofs.lemmas.List.{length-drop, length-take-le, take-append-drop}
use Rattle.std.proofs.lemmas.Option.{slice_get-get_or}
use Rattle.std.proofs.lemmas.List.Elements.{All-more, All-weaker}
use Rattle.host_net.specs.declared.packet.CtState.{CtState}
use Rattle.header_space.specs.declared.packet_box.PacketBox.{PacketBox}
use Rattle.ipt_rules.specs.declared.rule.Rule.{Rule}
use Rattle.ipt_rules.specs.declared.rule.Target.{Target}
use Rattle.ipt_rules.specs.declared.rule.Target.TheVariants.{Jump, Accept, Drop, Reject, Return, Count}
use Rattle.ipt_rules.specs.Chain.{Chain, rules_of}
use Rattle.ipt_rules.specs.inner.OneOutcome.{AreDeterministic}
use Rattle.ipt_rules.specs.inner.Walking.{IsShallow}
use Rattle.ipt_rules.proofs.WalkLemmas.{jump_at}
use Rattle.ipt_rules.proofs.WalkingLemmas.{shallow_jump}
use Rattle.packet_set.specs.declared.node.Node.{Node}
use Rattle.packet_set.specs.Sets.{Keeps}
use Rattle.rules_set.specs.declared.effect.Effect.{Effect}
use Rattle.rules_set.specs.inner.Effects.{DecidesAll, IsEffect}
use Rattle.rules_set.specs.inner.Known.{AreKnown, IsKnownTarget, IsShallowTarget, JumpsShallow, KnowsMore, LeadsToKnown, effect_at}
use Rattle.rules_set.proofs.EffectLaws.{effect_cut, effect_still}

pub known_still : (old new : List Node) (chains : List Chain) (state : CtState) (b : PacketBox) (known : List (Option Effect)) → Keeps old new
    → AreKnown old chains state b known → AreKnown new chains state b known
known_still old new chains state b known keeps are c e at = effect_still old new chains state b (rules_of chains c) e keeps (are c e at)

target_more : (old new : List (Option Effect)) (t : Target) → KnowsMore old new → IsKnownTarget old t → IsKnownTarget new t
target_more old new (Jump c) more is = more c is
target_more old new Accept more is = tt
target_more old new Drop more is = tt
target_more old new Reject more is = tt
target_more old new Return more is = tt
target_more old new Count more is = tt

known_target : (known : List (Option Effect)) (t : Target) → ((c : ℕ) → t ≡ Jump c → IsSome (effect_at known c)) → IsKnownTarget known t
known_target known (Jump c) is = is c refl
known_target known Accept is = tt
known_target known Drop is = tt
known_target known Reject is = tt
known_target known Return is = tt
known_target known Count is = tt

leads_more : (old new : List (Option Effect)) (rules : List Rule) → KnowsMore old new → All (LeadsToKnown old) rules → All (LeadsToKnown new) rules
leads_more old new rules more all = All-weaker (LeadsToKnown old) (LeadsToKnown new) (λ r is. target_more old new r.target more is) rules all

-- The first rules lead to known chains, and so does the next rule.
pub leads_step : (old new : List (Option Effect)) (rules : List Rule) (i : ℕ) (r : Rule) → i < length rules → r ≡ get_or rules i r → KnowsMore old new
    → All (LeadsToKnown old) (take i rules) → ((c : ℕ) → r.target ≡ Jump c → IsSome (effect_at new c)) → All (LeadsToKnown new) (take (i + 1) rules)
leads_step old new rules i r within read more all own =
    All-more (LeadsToKnown new) rules i r within (leads_more old new (take i rules) more all)
    (subst (LeadsToKnown new) read (known_target new r.target own))

-- ---- an effect more

set_cases : (known : List (Option Effect)) (i c : ℕ) (v : Option Effect) (e : Effect) → effect_at (set known i v) c ≡ Some e
    → ((v ≡ Some e) × (c ≡ i)) ⊎ (effect_at known c ≡ Some e)
set_cases [] i c v e at = inr at
set_cases (x ∷ xs) zero zero v e at = inl (at, refl)
set_cases (x ∷ xs) zero (suc c) v e at = inr at
set_cases (x ∷ xs) (suc i) zero v e at = inr at
set_cases (x ∷ xs) (suc i) (suc c) v e at = elim (set_cases xs i c v e at) [ inl (is, same) ↦ inl (is, ap suc same) | inr is ↦ inr is ]

pub known_more : (nodes : List Node) (chains : List Chain) (state : CtState) (b : PacketBox) (known : List (Option Effect)) (i : ℕ) (e : Effect)
    → AreKnown nodes chains state b known → IsEffect nodes chains state b (rules_of chains i) e → AreKnown nodes chains state b (set known i (Some e))
known_more nodes chains state b known i e are is c f at = elim (set_cases known i c (Some e) f at) [
  | inl (same, here) ↦
      let one : e ≡ f = cc in
      subst (λ (n : ℕ). IsEffect nodes chains state b (rules_of chains n) f) (sym here) (subst (λ (x : Effect). IsEffect nodes chains state b (rules_of chains i) x) one is)
  | inr old ↦ are c f old
]

pub still_some : (known : List (Option Effect)) (i c : ℕ) (e : Effect) → IsSome (effect_at known c) → IsSome (effect_at (set known i (Some e)) c)
still_some [] i c e is = is
still_some (x ∷ xs) zero zero e is = refl
still_some (x ∷ xs) zero (suc c) e is = is
still_some (x ∷ xs) (suc i) zero e is = is
still_some (x ∷ xs) (suc i) (suc c) e is = still_some xs i c e is

pub some_at : (known : List (Option Effect)) (i : ℕ) (e : Effect) → i < length known → IsSome (effect_at (set known i (Some e)) i)
some_at [] i e there = absurd (omega (arith, there))
some_at (x ∷ xs) zero e there = refl
some_at (x ∷ xs) (suc i) e there = some_at xs i e (omega (arith, there))

-- ---- no effect

none_at : (n c : ℕ) → effect_at (replicate n None) c ≡ None
none_at zero c = refl
none_at (suc n) zero = refl
none_at (suc n) (suc c) = none_at n c

pub known_none : (nodes : List Node) (chains : List Chain) (state : CtState) (b : PacketBox) (known : List (Option Effect)) (n : ℕ) → known ≡ replicate n None
    → AreKnown nodes chains state b known
known_none nodes chains state b known n is c e at =
    let none : effect_at known c ≡ None = ap (λ (xs : List (Option Effect)). effect_at xs c) is ∙ none_at n c in
    absurd (cc)

-- ---- parts of the rules of a chain

part_length : (rules : List Rule) (done end : ℕ) → done < end → end ≤ length rules → length (take (end - done) (drop done rules)) ≡ end - done
part_length rules done end after within =
    let e = length-drop done rules in length-take-le (end - done) (drop done rules) (omega (arith, e, after, within))

pub part_within : (rules : List Rule) (done end : ℕ) → done < end → end ≤ length rules → done + length (take (end - done) (drop done rules)) ≤ length rules
part_within rules done end after within = let e = part_length rules done end after within in omega (arith, e, after, within)

pub effect_part : (nodes : List Node) (chains : List Chain) (state : CtState) (b : PacketBox) (rules : List Rule) (done end : ℕ) (e : Effect) → done < end
    → end ≤ length rules → IsEffect nodes chains state b (take done rules ++ take (end - done) (drop done rules)) e
    → IsEffect nodes chains state b (take (done + length (take (end - done) (drop done rules))) rules) e
effect_part nodes chains state b rules done end e after within is =
    subst (λ (n : ℕ). IsEffect nodes chains state b (take (done + n) rules) e) (sym (part_length rules done end after within))
    (subst (λ (rs : List Rule). IsEffect nodes chains state b rs e) (sym (take-add done (end - done) rules)) is)

-- The effect of the first rules is the effect of all if no packet continues after the first.
pub effect_all : (old new : List Node) (chains : List Chain) (state : CtState) (b : PacketBox) (rules : List Rule) (done end : ℕ) (e : Effect) → AreDeterministic chains
    → Keeps old new → DecidesAll old b e → IsEffect old chains state b (take done rules ++ take (end - done) (drop done rules)) e
    → IsEffect new chains state b (take (length rules) rules) e
effect_all old new chains state b rules done end e one keeps all is =
    let first = take (done + (end - done)) rules in
    let second = drop (done + (end - done)) rules in
    let part : IsEffect old chains state b first e = subst (λ (rs : List Rule). IsEffect old chains state b rs e) (sym (take-add done (end - done) rules)) is in
    let whole : IsEffect old chains state b (first ++ second) e = effect_cut old chains state b first second e one all part in
    let same : (first ++ second) ≡ take (length rules) rules = take-append-drop (done + (end - done)) rules ∙ sym (take-length rules) in
    effect_still old new chains state b (take (length rules) rules) e keeps (subst (λ (rs : List Rule). IsEffect old chains state b rs e) same whole)

-- ---- jumps that are nested less deep

shallow_target : (chains : List Chain) (depth : ℕ) (t : Target) → ((c : ℕ) → t ≡ Jump c → IsShallow chains depth c) → IsShallowTarget chains depth t
shallow_target chains depth (Jump c) is = is c refl
shallow_target chains depth Accept is = tt
shallow_target chains depth Drop is = tt
shallow_target chains depth Reject is = tt
shallow_target chains depth Return is = tt
shallow_target chains depth Count is = tt

pub shallow_rules : (chains : List Chain) (depth c : ℕ) → IsShallow chains depth c → All (JumpsShallow chains (depth - 1)) (rules_of chains c)
shallow_rules chains depth c is k d within =
    let rules = rules_of chains c in
    let r = get_or rules k d in
    shallow_target chains (depth - 1) r.target
    (λ e jump. shallow_jump chains depth c e is (jump_at rules k r e (slice_get-get_or rules k d within) jump))
