-- The spans of a table are in ascending order, and have no rules in common.
use Rattle.std.proofs.Common.{◌≡◌, ◌⊎◌, inl, inr, ℕ, zero, suc, ◌+◌, ◌<◌, ◌≤◌, List, [], ◌∷◌, ◌++◌, Option, Some, None, length, refl, sym, ap, subst, ◌∙◌, arith, length-append}
use Rattle.std.specs.Prelude.{slice_get}
use Rattle.std.specs.List.{Contains, flat_map}
use Rattle.std.proofs.lemmas.List.{length-map}
use Rattle.std.proofs.lemmas.List.Elements.{Contains-append_cases, Contains-append_right}
use Rattle.ipt_rules.specs.declared.marks.Place.{Place}
use Rattle.nft_rules.specs.declared.table.Chain.{Chain}
use Rattle.nft_rules.specs.declared.table.Element.{Element}
use Rattle.nft_rules.specs.declared.table.End.{End}
use Rattle.nft_rules.specs.declared.table.Rule.{Rule}
use Rattle.nft_rules.specs.declared.table.Rule.TheVariants.{Map, Match}
use Rattle.nft_rules.specs.declared.table.Table.{Table}
use Rattle.nft_chains.specs.Translation.{chain_number, element_rules, prefix_rule, prefixes_of, rules_of_rule, rules_of_rules, target_of}
use Rattle.nft_flows.specs.Places.{ComesBefore, rank}
use Rattle.nft_flows.specs.declared.place.TablePlace.{TablePlace}
use Rattle.nft_flows.specs.declared.span.Span.{Span}
use Rattle.nft_flows.specs.inner.Spans.{number_of, span_at, spans_from, spans_of, spans_of_elements, spans_of_rule, spans_of_rules}
use Rattle.nft_flows.proofs.MetLaws.{IsLast, IsOf}

pub cons_cases : {X : Type 0} (x : X) (xs : List X) (y : X) → Contains (x ∷ xs) y → (x ≡ y) ⊎ Contains xs y
cons_cases x xs y (zero, low, is) = inl is
cons_cases x xs y (suc k, low, is) = inr (k, omega (arith, low), is)

pub contains_none : {X : Type 0} (x : X) → Contains [] x → ⊥
contains_none x (k, low, is) = omega (arith, low)

-- The place of the first span precedes that of the second, and so do its rules.
pub record Precedes (s t : Span) : Type 0 where
  pub place : ComesBefore s.place t.place
  pub rules : (s.chain < t.chain) ⊎ ((s.chain ≡ t.chain) × (s.end ≤ t.first))

abbrev pub AreLaid : List Span → Type 0
AreLaid [] = Unit {0}
AreLaid (s ∷ ss) = ((t : Span) → Contains ss t → Precedes s t) × AreLaid ss

laid_append : (xs ys : List Span) → AreLaid xs → AreLaid ys → ((s t : Span) → Contains xs s → Contains ys t → Precedes s t) → AreLaid (xs ++ ys)
laid_append [] ys one two across = two
laid_append (x ∷ xs) ys one two across = (
  λ t among. elim (Contains-append_cases xs ys t among) [
    | inl first ↦ one.0 t first
    | inr second ↦ across x t (0, omega arith, refl) second
  ],
  laid_append xs ys one.1 two (λ s t first second. across s t (Contains-append_right (x ∷ []) xs s first) second),
)

-- ---- The spans of a chain, from rule k on

-- The span is of a rule from k on, whose rules are from index n on and end before index m.
pub record IsWithin (chain : Option ℕ) (k n m : ℕ) (s : Span) : Type 0 where
  pub own : s.place.chain ≡ chain
  pub number : s.chain ≡ number_of chain
  pub rule : k ≤ s.place.rule
  pub low : n ≤ s.first
  pub high : s.end ≤ m

element_within : (chain : Option ℕ) (k i n : ℕ) (end : End) (es : List Element) (s : Span) → Contains (spans_of_elements chain k i n es) s
    → IsWithin chain k n (n + length (flat_map (element_rules end) es)) s × (s.place.rule ≡ k) × (i < rank s.place.element)
element_within chain k i n end [] s among = absurd (contains_none s among)
element_within chain k i n end (e ∷ es) s among =
    let next = n + length (prefixes_of e.range) in
    let others = flat_map (element_rules end) es in
    let long = length-map (prefixes_of e.range) (prefix_rule end (target_of e.verdict)) in
    let all = length-append (element_rules end e) others in
    elim (cons_cases (span_at chain k (Some i) n next) (spans_of_elements chain k (i + 1) next es) s among) [
      | inl is ↦
          subst (λ (t : Span). IsWithin chain k n (n + length (element_rules end e ++ others)) t × (t.place.rule ≡ k) × (i < rank t.place.element)) is
          (record { own = refl; number = refl; rule = omega arith; low = omega arith; high = omega (arith, long, all) }, refl, omega arith)
      | inr later ↦
          let found = element_within chain k (i + 1) next end es s later in
          let within = found.0 in
          let low = within.low in
          let high = within.high in
          let after = found.2 in (
            record { own = within.own; number = within.number; rule = within.rule; low = omega (arith, low); high = omega (arith, high, long, all) },
            found.1,
            omega (arith, after),
          )
    ]

laid_elements : (chain : Option ℕ) (k i n : ℕ) (end : End) (es : List Element) → AreLaid (spans_of_elements chain k i n es)
laid_elements chain k i n end [] = tt
laid_elements chain k i n end (e ∷ es) =
    let next = n + length (prefixes_of e.range) in (
      λ t among.
          let found = element_within chain k (i + 1) next end es t among in
          let within = found.0 in
          let after = found.2 in
          record {
            place = inr (sym within.own, inr (sym found.1, after));
            rules = inr (sym within.number, within.low);
          },
      laid_elements chain k (i + 1) next end es,
    )

rule_within : (chain : Option ℕ) (k n : ℕ) (rule : Rule) (s : Span) → Contains (spans_of_rule chain k n rule) s
    → IsWithin chain k n (n + length (rules_of_rule rule)) s × (s.place.rule ≡ k)
rule_within chain k n (Map m) s among = let found = element_within chain k 0 n m.end m.elements.items s among in (found.0, found.1)
rule_within chain k n (Match r) s among = elim (cons_cases (span_at chain k None n (n + 1)) [] s among) [
  | inl is ↦
      subst (λ (t : Span). IsWithin chain k n (n + 1) t × (t.place.rule ≡ k)) is
      (record { own = refl; number = refl; rule = omega arith; low = omega arith; high = omega arith }, refl)
  | inr none ↦ absurd (contains_none s none)
]

laid_rule : (chain : Option ℕ) (k n : ℕ) (rule : Rule) → AreLaid (spans_of_rule chain k n rule)
laid_rule chain k n (Map m) = laid_elements chain k 0 n m.end m.elements.items
laid_rule chain k n (Match r) = (λ t among. absurd (contains_none t among), tt)

pub rules_within : (chain : Option ℕ) (k n : ℕ) (rules : List Rule) (s : Span) → Contains (spans_of_rules chain k n rules) s
    → IsWithin chain k n (n + length (rules_of_rules rules)) s
rules_within chain k n [] s among = absurd (contains_none s among)
rules_within chain k n (rule ∷ rules) s among =
    let next = n + length (rules_of_rule rule) in
    let all = length-append (rules_of_rule rule) (rules_of_rules rules) in
    elim (Contains-append_cases (spans_of_rule chain k n rule) (spans_of_rules chain (k + 1) next rules) s among) [
      | inl first ↦
          let within = (rule_within chain k n rule s first).0 in
          let high = within.high in
          record { own = within.own; number = within.number; rule = within.rule; low = within.low; high = omega (arith, high, all) }
      | inr later ↦
          let within = rules_within chain (k + 1) next rules s later in
          let rule_low = within.rule in
          let low = within.low in
          let high = within.high in
          record { own = within.own; number = within.number; rule = omega (arith, rule_low); low = omega (arith, low); high = omega (arith, high, all) }
    ]

laid_rules : (chain : Option ℕ) (k n : ℕ) (rules : List Rule) → AreLaid (spans_of_rules chain k n rules)
laid_rules chain k n [] = tt
laid_rules chain k n (rule ∷ rules) =
    let next = n + length (rules_of_rule rule) in
    laid_append (spans_of_rule chain k n rule) (spans_of_rules chain (k + 1) next rules) (laid_rule chain k n rule)
    (laid_rules chain (k + 1) next rules) (λ s t first second.
    let one = rule_within chain k n rule s first in
    let two = rules_within chain (k + 1) next rules t second in
    let here = one.1 in
    let high = one.0.high in
    let later = two.rule in
    let low = two.low in
    record {
      place = inr (one.0.own ∙ sym two.own, inl (omega (arith, here, later)));
      rules = inr (one.0.number ∙ sym two.number, omega (arith, high, low));
    })

-- ---- The spans of all chains

pub from_chain : (c : ℕ) (xs : List Chain) (s : Span) → Contains (spans_from c xs) s
    → (i : ℕ) × (x : Chain) × (slice_get xs i ≡ Some x) × Contains (spans_of_rules (Some (c + i)) 0 0 x.rules.items) s
from_chain c [] s among = absurd (contains_none s among)
from_chain c (x ∷ xs) s among =
    elim (Contains-append_cases (spans_of_rules (Some c) 0 0 x.rules.items) (spans_from (c + 1) xs) s among) [
      | inl first ↦
          let same : c ≡ c + 0 = omega arith in
          (0, x, refl, subst (λ (d : ℕ). Contains (spans_of_rules (Some d) 0 0 x.rules.items) s) same first)
      | inr later ↦
          let found = from_chain (c + 1) xs s later in
          let same : c + 1 + found.0 ≡ c + suc found.0 = omega arith in
          (suc found.0, found.1, found.2, subst (λ (d : ℕ). Contains (spans_of_rules (Some d) 0 0 found.1.rules.items) s) same found.3)
    ]

after_base : (c : ℕ) (xs : List Chain) (t : Span) → Contains (spans_from c xs) t → (c < rank t.place.chain) × (chain_number c ≤ t.chain)
after_base c xs t among =
    let found = from_chain c xs t among in
    let within = rules_within (Some (c + found.0)) 0 0 found.1.rules.items t found.3 in
    let ranked = ap rank within.own in
    let number = within.number in
    (omega (arith, ranked), omega (arith, number))

laid_from : (c : ℕ) (xs : List Chain) → AreLaid (spans_from c xs)
laid_from c [] = tt
laid_from c (x ∷ xs) =
    laid_append (spans_of_rules (Some c) 0 0 x.rules.items) (spans_from (c + 1) xs) (laid_rules (Some c) 0 0 x.rules.items) (laid_from (c + 1) xs)
    (λ s t first second.
    let one = rules_within (Some c) 0 0 x.rules.items s first in
    let two = after_base (c + 1) xs t second in
    let ranked = ap rank one.own in
    let number = one.number in
    let later = two.0 in
    let low = two.1 in
    record { place = inl (omega (arith, ranked, later)); rules = inl (omega (arith, number, low)) })

pub laid_table : (table : Table) → AreLaid (spans_of table)
laid_table table =
    laid_append (spans_of_rules None 0 0 table.forward.items) (spans_from 0 table.chains.items) (laid_rules None 0 0 table.forward.items)
    (laid_from 0 table.chains.items)
    (λ s t first second.
    let one = rules_within None 0 0 table.forward.items s first in
    let two = after_base 0 table.chains.items t second in
    let ranked = ap rank one.own in
    let number = one.number in
    let later = two.0 in
    let low = two.1 in
    record { place = inl (omega (arith, ranked, later)); rules = inl (omega (arith, number, low)) })

-- ---- One span

one_span : (ss : List Span) (s t : Span) → AreLaid ss → Contains ss s → Contains ss t → (Precedes s t → ⊥) → (Precedes t s → ⊥) → s ≡ t
one_span [] s t laid one two less more = absurd (contains_none s one)
one_span (x ∷ ss) s t laid one two less more = elim (cons_cases x ss s one) [
  | inl here ↦ elim (cons_cases x ss t two) [
    | inl also ↦ sym here ∙ also
    | inr later ↦ absurd (less (subst (λ (y : Span). Precedes y t) here (laid.0 t later)))
  ]
  | inr there ↦ elim (cons_cases x ss t two) [
    | inl also ↦ absurd (more (subst (λ (y : Span). Precedes y s) also (laid.0 s there)))
    | inr later ↦ one_span ss s t laid.1 there later less more
  ]
]

apart : (s t : Span) (q : Place) → IsOf s q → IsOf t q → Precedes s t → ⊥
apart s t q one two before = elim before.rules [
  | inl chain ↦ let a = one.0 in let b = two.0 in omega (arith, chain, a, b)
  | inr same ↦ let high = one.2 in let low = two.1 in let end = same.1 in omega (arith, high, low, end)
]

before_itself : (p q : TablePlace) → p ≡ q → ComesBefore p q → ⊥
before_itself p q is (inl chain) = let same = ap (λ (x : TablePlace). rank x.chain) is in omega (arith, chain, same)
before_itself p q is (inr (chain, inl rule)) = let same = ap (λ (x : TablePlace). x.rule) is in omega (arith, rule, same)
before_itself p q is (inr (chain, inr (rule, element))) = let same = ap (λ (x : TablePlace). rank x.element) is in omega (arith, element, same)

pub one_of_rule : (table : Table) (s t : Span) (q : Place) → Contains (spans_of table) s → Contains (spans_of table) t → IsOf s q → IsOf t q → s ≡ t
one_of_rule table s t q one two here also =
    one_span (spans_of table) s t (laid_table table) one two (apart s t q here also) (apart t s q also here)

pub one_of_place : (table : Table) (s t : Span) → Contains (spans_of table) s → Contains (spans_of table) t → s.place ≡ t.place → s ≡ t
one_of_place table s t one two same =
    one_span (spans_of table) s t (laid_table table) one two (λ before. before_itself s.place t.place same before.place)
    (λ before. before_itself t.place s.place (sym same) before.place)

-- The last rule of a chain is in no span.
pub last_of_none : (table : Table) (s : Span) (q : Place) → Contains (spans_of table) s → IsOf s q → IsLast table q → ⊥
last_of_none table s q among of (c, x, there, is) =
    let rule = ap (λ (o : Place). o.rule) is in
    let chain = ap (λ (o : Place). o.chain) is in
    let own = of.0 in
    let end = of.2 in
    elim (Contains-append_cases (spans_of_rules None 0 0 table.forward.items) (spans_from 0 table.chains.items) s among) [
      | inl base ↦
          let within = rules_within None 0 0 table.forward.items s base in
          let number = within.number in
          omega (arith, chain, own, number)
      | inr later ↦
          let found = from_chain 0 table.chains.items s later in
          let within = rules_within (Some (0 + found.0)) 0 0 found.1.rules.items s found.3 in
          let number = within.number in
          let same : found.0 ≡ c = omega (arith, chain, own, number) in
          let also : Some found.1 ≡ Some x = sym found.2 ∙ ap (slice_get table.chains.items) same ∙ there in
          let long = ap (λ (o : Option Chain). chain_length o) also in
          let high = within.high in
          omega (arith, rule, end, high, long)
    ]
  where
    chain_length : Option Chain → ℕ
    chain_length None = 0
    chain_length (Some y) = length (rules_of_rules y.rules.items)
