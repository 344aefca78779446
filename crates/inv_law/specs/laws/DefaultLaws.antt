-- The reason for the default of a template, by a flow between two hosts: any other attribute exonerates its offending host.
use Rattle.std.proofs.Common.{◌≡◌, ◌≢◌, ℕ, ◌≤◌, ◌<◌, true, false, not, List, [], ◌∷◌, length, replicate, get_or, set, inl, inr, refl, sym, ◌∙◌, subst, arith, get_or-set_same, get_or-set_other, length-set}
use Rattle.std.specs.Prelude.{slice_index_or}
use Rattle.std.proofs.lemmas.Bool.{false≢true, cases_eq, or_cases, not_from_true}
use Rattle.std.proofs.lemmas.List.{get_or-replicate, length-replicate}
use Rattle.flow_set.specs.Conditions.{IsMinimalOffending}
use Rattle.flow_set.specs.Flow.{same_flow}
use Rattle.flow_set.specs.FlowSet.{has, with_flow, without}
use Rattle.flow_set.specs.declared.flow.Flow.{Flow}
use Rattle.flow_set.specs.laws.FlowLaws.{filter_nothing, has_first, same_flow-true}
use Rattle.inv_law.specs.Rules.{AllFlowsPass}
use Rattle.inv_law.specs.Attributes.{PassesBetween}
use Rattle.inv_law.specs.Template.{Template, template_of}
use Rattle.inv_law.specs.inner.Template.{AllMayHave, LetsOff}
use Rattle.inv_law.specs.laws.RuleLaws.{AllFlowsPass-none, AllFlowsPass-one, passes_alone}
use Rattle.inv_law.specs.laws.TemplateLaws.{AllMayHave-set}
use Rattle.inv_law.specs.declared.strategy.Strategy.{Strategy}
use Rattle.inv_law.specs.declared.strategy.Strategy.TheVariants.{Access, Information}

-- A flow by itself.
none_left : (f : Flow) → without (f ∷ []) (f ∷ []) ≡ []
none_left f = filter_nothing (λ g. not (has (f ∷ []) g)) (f ∷ []) (λ g there. not_from_true (has (f ∷ []) g) there)

pub one_offends : (Holds : List Flow → Type 0) (f : Flow) → Holds [] → (Holds (f ∷ []) → ⊥) → IsMinimalOffending Holds (f ∷ []) (f ∷ [])
one_offends Holds f none fails = record {
  within = record { ordered = (λ g none. absurd (false≢true none), tt); within = λ g there. there };
  fails = fails;
  holds_without = subst Holds (sym (none_left f)) none;
  minimal = λ g there back.
      elim (or_cases (same_flow f g) false there) [
        | inl same ↦ fails (subst (λ (h : Flow). Holds (h ∷ [])) (sym (same_flow-true f g same)) (subst (λ (e : List Flow). Holds (with_flow e g)) (none_left f) back))
        | inr never ↦ absurd (false≢true never)
      ];
}

-- Another host.
pub record Another (n host : ℕ) : Type 0 where
  pub other : ℕ
  pub within : other < n
  pub apart : other ≢ host

pub another : (n host : ℕ) → 2 ≤ n → Another n host
another n host two =
    elim (cases_eq host 0) [
      | inl first ↦ record { other = 1; within = omega arith; apart = λ same. omega arith }
      | inr later ↦ record { other = 0; within = omega arith; apart = λ same. later (sym same) }
    ]

-- Hosts of which one has y, and all others have d.
module _ {A : Type 0} (n host : ℕ) (o : Another n host) (y d : A) (is_host : host < n) where
  abbrev pair_of : List A
  pair_of = set (replicate n d) o.other y

  length-pair_of : length pair_of ≡ n
  length-pair_of = length-set (replicate n d) o.other y ∙ length-replicate n d

  at_other : get_or pair_of o.other d ≡ y
  at_other = get_or-set_same (replicate n d) o.other y d (subst (λ m. o.other < m) (sym (length-replicate n d)) o.within)

  at_host : get_or pair_of host d ≡ d
  at_host = get_or-set_other (replicate n d) o.other host y d (λ same. o.apart (sym same)) ∙ get_or-replicate n host d d is_host

  other_stays : (x : A) → get_or (set pair_of host x) o.other d ≡ y
  other_stays x = get_or-set_other pair_of host o.other x d o.apart ∙ at_other

  given_at_host : (x : A) → get_or (set pair_of host x) host d ≡ x
  given_at_host x = get_or-set_same pair_of host x d (subst (λ m. host < m) (sym length-pair_of) is_host)

-- Hosts that all have the attribute z may have it.
AllMayHave-same : (t : Template) (n : ℕ) (z : t.Attribute) → ((k : ℕ) → t.MayHave n k z) → AllMayHave t (replicate n z)
AllMayHave-same t n z may host within =
    let sized : length (replicate n z) ≡ n = length-replicate n z in
    let below : host < n = subst (λ m. host < m) sized within in
    subst (λ m. t.MayHave m host (slice_index_or (replicate n z) host (t.default m host))) (sym sized)
    (subst (t.MayHave n host) (sym (get_or-replicate n host z (t.default n host) below)) (may host))

-- Hosts that all have the attribute z, except one that has y, may have them.
pub AllMayHave-one : (t : Template) (n one : ℕ) (y z : t.Attribute) → t.MayHave n one y → ((k : ℕ) → t.MayHave n k z)
    → AllMayHave t (set (replicate n z) one y)
AllMayHave-one t n one y z may_y may_z =
    AllMayHave-set t (replicate n z) one y (AllMayHave-same t n z may_z)
    (subst (λ m. t.MayHave m one y) (sym (length-replicate n z)) may_y)

-- The edge-wise template of a rule on two attributes and on the number of the sender, with one default for all hosts.
abbrev pub rule_template : {A : Type 0} → List ℕ → Strategy → (ℕ → ℕ → A → Type 0) → A → (ℕ → A → A → Type 0) → Template
rule_template name strategy MayHave d Passes =
    template_of true name strategy MayHave (λ n host. d) (λ hosts. AllFlowsPass (λ i. PassesBetween d (Passes i) hosts i))

-- A receiver with y denies senders with the default and accepts senders with x.
pub sender_lets_off : {A : Type 0} (name : List ℕ) (MayHave : ℕ → ℕ → A → Type 0) (d : A) (Passes : ℕ → A → A → Type 0) (x y : A)
    → ((n k : ℕ) → MayHave n k y) → ((n k : ℕ) → MayHave n k d) → ((i : ℕ) → Passes i d y → ⊥) → ((i : ℕ) → Passes i x y)
    → (n host : ℕ) → 2 ≤ n → host < n → LetsOff (rule_template name Access MayHave d Passes) n host x
sender_lets_off {A} name MayHave d Passes x y may_y may_d denies takes n host two is_host =
    let o : Another n host = another n host two in
    let hosts : List A = pair_of n host o y d is_host in
    let f : Flow = record { from = host; to = o.other } in
    let Rule : List A → ℕ → ℕ → Type 0 = λ given i. PassesBetween d (Passes i) given i in
    record {
      hosts = hosts;
      sized = length-pair_of n host o y d is_host;
      may = AllMayHave-one (rule_template name Access MayHave d Passes) n o.other y d (may_y n o.other) (may_d n);
      flow = f;
      is_flow = (is_host, o.within, λ same. o.apart (sym same));
      offends = one_offends (AllFlowsPass (Rule hosts)) f (AllFlowsPass-none (Rule hosts))
          (λ holds. denies host
          (subst (λ (v : A). Passes host v y) (at_host n host o y d is_host)
          (subst (λ (w : A). Passes host (get_or hosts host d) w) (at_other n host o y d is_host) (passes_alone (Rule hosts) f holds))));
      blamed = record { flow = f; offends = has_first f []; blamed = refl };
      holds_without = AllFlowsPass-one (Rule (set hosts host x)) f
          (subst (λ (v : A). Passes host v (get_or (set hosts host x) o.other d)) (sym (given_at_host n host o y d is_host x))
          (subst (λ (w : A). Passes host x w) (sym (other_stays n host o y d is_host x)) (takes host)));
    }

-- A sender with y may not send to receivers with the default, but may send to receivers with x.
pub receiver_lets_off : {A : Type 0} (name : List ℕ) (MayHave : ℕ → ℕ → A → Type 0) (d : A) (Passes : ℕ → A → A → Type 0) (x y : A)
    → ((n k : ℕ) → MayHave n k y) → ((n k : ℕ) → MayHave n k d) → ((i : ℕ) → Passes i y d → ⊥) → ((i : ℕ) → Passes i y x)
    → (n host : ℕ) → 2 ≤ n → host < n → LetsOff (rule_template name Information MayHave d Passes) n host x
receiver_lets_off {A} name MayHave d Passes x y may_y may_d denies takes n host two is_host =
    let o : Another n host = another n host two in
    let hosts : List A = pair_of n host o y d is_host in
    let f : Flow = record { from = o.other; to = host } in
    let Rule : List A → ℕ → ℕ → Type 0 = λ given i. PassesBetween d (Passes i) given i in
    record {
      hosts = hosts;
      sized = length-pair_of n host o y d is_host;
      may = AllMayHave-one (rule_template name Information MayHave d Passes) n o.other y d (may_y n o.other) (may_d n);
      flow = f;
      is_flow = (o.within, is_host, o.apart);
      offends = one_offends (AllFlowsPass (Rule hosts)) f (AllFlowsPass-none (Rule hosts))
          (λ holds. denies o.other
          (subst (λ (v : A). Passes o.other v d) (at_other n host o y d is_host)
          (subst (λ (w : A). Passes o.other (get_or hosts o.other d) w) (at_host n host o y d is_host) (passes_alone (Rule hosts) f holds))));
      blamed = record { flow = f; offends = has_first f []; blamed = refl };
      holds_without = AllFlowsPass-one (Rule (set hosts host x)) f
          (subst (λ (v : A). Passes o.other v (get_or (set hosts host x) host d)) (sym (other_stays n host o y d is_host x))
          (subst (λ (w : A). Passes o.other y w) (sym (given_at_host n host o y d is_host x)) (takes o.other)));
    }
