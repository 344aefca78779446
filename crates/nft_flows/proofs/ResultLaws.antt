-- The deciders, the dead places and the flows of a table, from those of its chains.
use Rattle.std.proofs.Common.{◌≡◌, inl, inr, ℕ, zero, suc, ◌+◌, ◌-◌, ◌<◌, ◌≤◌, ◌==◌, ◌&&◌, Bool, true, false, List, [], ◌∷◌, Option, Some, None, map, cond, refl, sym, ap, subst, ◌∙◌, arith}
use Rattle.std.specs.Prelude.{IsSome, IsTrue, nat_le, nat_lt, slice_get}
use Rattle.std.specs.List.{Contains, filter, list_all, list_any, range_with_len}
use Rattle.std.specs.Option.{option_and_then}
use Rattle.std.proofs.lemmas.Bool.{and_from, and_parts, cases_lt, eq-eqb, eqb-true, false≢true, or_cases, or_left, or_right}
use Rattle.std.proofs.lemmas.Bool.Decides.{nat_tests}
use Rattle.std.proofs.lemmas.Option.{slice_get_within}
use Rattle.std.proofs.lemmas.List.Elements.{Contains-append_cases, Contains-append_right}
use Rattle.host_net.specs.declared.packet.Packet.{Packet}
use Rattle.host_net.specs.declared.packet.CtState.TheVariants.{New}
use Rattle.host_net.specs.declared.packet.Verdict.{Verdict as Outcome}
use Rattle.host_net.specs.Packet.{IsPacket}
use Rattle.ipt_rules.specs.declared.marks.Place.{Place}
use Rattle.ipt_rules.specs.declared.rule.Rule.{Rule as ChainRule}
use Rattle.ipt_rules.specs.Chain.{rules_of}
use Rattle.ipt_rules.specs.Meets.{target_verdict, verdict_at as rule_verdict}
use Rattle.nft_rules.specs.declared.table.Table.{Table}
use Rattle.nft_rules.specs.declared.table.Verdict.{Verdict}
use Rattle.nft_rules.specs.declared.table.Verdict.TheVariants.{Accept, Drop, Goto}
use Rattle.nft_rules.specs.Loadable.{IsLoadable}
use Rattle.nft_chains.specs.Translation.{HaveSameVerdicts, chains_of, target_of}
use Rattle.rules_space.specs.Rules.{Chains}
use Rattle.pass_core.specs.Dead.{AreDead, HasForwardRule, is_listed, same_place}
use Rattle.decide_core.specs.Deciders.{AreDeciders}
use Rattle.decide_core.specs.declared.deciders.Deciders.{Deciders}
use Rattle.nft_flows.specs.Dead.{AreDeadTablePlaces, IsDeadPlace}
use Rattle.nft_flows.specs.Deciders.{AreTableDeciders, DecidesOne, ends_evaluation}
use Rattle.nft_flows.specs.Places.{AreAscending, ComesBefore, IsMet, verdict_at}
use Rattle.nft_flows.specs.declared.place.TablePlace.{TablePlace}
use Rattle.nft_flows.specs.declared.span.Span.{Span}
use Rattle.nft_flows.specs.inner.Selected.{has_all, has_one, selected}
use Rattle.nft_flows.specs.inner.Spans.{is_in, number_of, spans_from, spans_of, spans_of_rules}
use Rattle.nft_flows.proofs.MetLaws.{IsOf, met_stands}
use Rattle.nft_flows.proofs.OrderLaws.{AreLaid, cons_cases, contains_none, from_chain, laid_table, last_of_none, one_of_place, one_of_rule, rules_within}
use Rattle.nft_flows.proofs.ReachLaws.{met_has_rule}
use Rattle.nft_flows.proofs.TargetLaws.{HasVerdict, place_span, span_verdict}

-- ---- Spans that pass a test

contains_later : {X : Type 0} (x : X) (xs : List X) (y : X) → Contains xs y → Contains (x ∷ xs) y
contains_later x xs y among = Contains-append_right (x ∷ []) xs y among

selected_more : (b : Bool) (x : Span) (ss : List Span) (place : TablePlace) → Contains (map (λ s. s.place) ss) place
    → Contains (map (λ s. s.place) (cond b (x ∷ ss) ss)) place
selected_more true x ss place among = contains_later x.place (map (λ s. s.place) ss) place among
selected_more false x ss place among = among

contains_selected : (test : Span → Bool) (ss : List Span) (s : Span) → Contains ss s → test s ≡ true → Contains (selected test ss) s.place
contains_selected test [] s among on = absurd (contains_none s among)
contains_selected test (x ∷ ss) s among on = elim (cons_cases x ss s among) [
  | inl is ↦
      let passes : test x ≡ true = ap test is ∙ on in
      subst (λ (b : Bool). Contains (map (λ t. t.place) (cond b (x ∷ filter test ss) (filter test ss))) s.place) (sym passes)
      (0, omega arith, ap (λ (t : Span). t.place) is)
  | inr later ↦ selected_more (test x) x (filter test ss) s.place (contains_selected test ss s later on)
]

selected_span : (test : Span → Bool) (ss : List Span) (place : TablePlace) → Contains (selected test ss) place
    → (s : Span) × Contains ss s × (test s ≡ true) × (s.place ≡ place)
selected_span test [] place among = absurd (contains_none place among)
selected_span test (x ∷ ss) place among = by_test (test x) refl among (λ later. selected_span test ss place later)
  where
    by_test : (b : Bool) → test x ≡ b → Contains (map (λ s. s.place) (cond b (x ∷ filter test ss) (filter test ss))) place
        → (Contains (selected test ss) place → (s : Span) × Contains ss s × (test s ≡ true) × (s.place ≡ place))
        → (s : Span) × Contains (x ∷ ss) s × (test s ≡ true) × (s.place ≡ place)
    by_test true on all rest = elim (cons_cases x.place (selected test ss) place all) [
      | inl is ↦ (x, (0, omega arith, refl), on, is)
      | inr later ↦ let found = rest later in (found.0, contains_later x ss found.0 found.1, found.2, found.3)
    ]
    by_test false off all rest = let found = rest all in (found.0, contains_later x ss found.0 found.1, found.2, found.3)

selected_ascending : (test : Span → Bool) (ss : List Span) → AreLaid ss → AreAscending (selected test ss)
selected_ascending test [] laid = tt
selected_ascending test (x ∷ ss) laid = by_test (test x) (selected_ascending test ss laid.1)
  where
    by_test : (b : Bool) → AreAscending (selected test ss) → AreAscending (map (λ s. s.place) (cond b (x ∷ filter test ss) (filter test ss)))
    by_test true rest = (
      λ q among. let found = selected_span test ss q among in subst (λ (p : TablePlace). ComesBefore x.place p) found.3 (laid.0 found.0 found.1).place,
      rest,
    )
    by_test false rest = rest

-- ---- Rules of a span

in_span : (s : Span) (q : Place) → is_in s q ≡ true → IsOf s q
in_span s q on =
    let parts = and_parts (q.chain == s.chain) (nat_le s.first q.rule && nat_lt q.rule s.end) on in
    let more = and_parts (nat_le s.first q.rule) (nat_lt q.rule s.end) parts.1 in
    (eqb-true q.chain s.chain parts.0, grind (arith, nat_tests, more.0), grind (arith, nat_tests, more.1))

of_span : (s : Span) (q : Place) → IsOf s q → is_in s q ≡ true
of_span s q of =
    let low = of.1 in
    let high = of.2 in
    let from : nat_le s.first q.rule ≡ true = grind (arith, nat_tests, low) in
    let before : nat_lt q.rule s.end ≡ true = grind (arith, nat_tests, high) in
    and_from _ _ (eq-eqb q.chain s.chain of.0) (and_from _ _ from before)

same_self : (p : Place) → same_place p p ≡ true
same_self p = and_from (p.chain == p.chain) (p.rule == p.rule) (eq-eqb p.chain p.chain refl) (eq-eqb p.rule p.rule refl)

place_same : (p q : Place) → same_place p q ≡ true → p ≡ q
place_same p q on =
    let parts = and_parts (p.chain == q.chain) (p.rule == q.rule) on in
    let chain = eqb-true p.chain q.chain parts.0 in
    let rule = eqb-true p.rule q.rule parts.1 in
    λ i. record { chain = chain i; rule = rule i }

one_listed : (qs : List Place) (s : Span) → has_one qs s ≡ true → (q : Place) × (is_listed qs q ≡ true) × IsOf s q
one_listed [] s on = absurd (false≢true on)
one_listed (x ∷ qs) s on = elim (or_cases (is_in s x) (list_any (is_in s) qs) on) [
  | inl here ↦ (x, or_left (same_place x x) (is_listed qs x) (same_self x), in_span s x here)
  | inr later ↦ let found = one_listed qs s later in (found.0, or_right (same_place x found.0) (is_listed qs found.0) found.1, found.2)
]

listed_one : (qs : List Place) (s : Span) (q : Place) → is_listed qs q ≡ true → IsOf s q → has_one qs s ≡ true
listed_one [] s q listed of = absurd (false≢true listed)
listed_one (x ∷ qs) s q listed of = elim (or_cases (same_place x q) (is_listed qs q) listed) [
  | inl same ↦ or_left (is_in s x) (list_any (is_in s) qs) (of_span s x (subst (IsOf s) (sym (place_same x q same)) of))
  | inr later ↦ or_right (is_in s x) (list_any (is_in s) qs) (listed_one qs s q later of)
]

all_at : (f : ℕ → Bool) (a n : ℕ) → list_all f (range_with_len a n) ≡ true → (i : ℕ) → a ≤ i → i < a + n → f i ≡ true
all_at f a zero all i low high = absurd (omega (arith, low, high))
all_at f a (suc n) all i low high =
    let parts = and_parts (f a) (list_all f (range_with_len (a + 1) n)) all in
    elim (cases_lt a i) [
      | inl later ↦ all_at f (a + 1) n parts.1 i (omega (arith, later)) (omega (arith, high))
      | inr first ↦ let same : i ≡ a = omega (arith, low, first) in ap f same ∙ parts.0
    ]

all_from : (f : ℕ → Bool) (a n : ℕ) → ((i : ℕ) → a ≤ i → i < a + n → f i ≡ true) → list_all f (range_with_len a n) ≡ true
all_from f a zero each = refl
all_from f a (suc n) each =
    and_from (f a) (list_all f (range_with_len (a + 1) n)) (each a (omega arith) (omega arith))
    (all_from f (a + 1) n (λ i low high. each i (omega (arith, low)) (omega (arith, high))))

all_listed : (qs : List Place) (s : Span) (q : Place) → has_all qs s ≡ true → IsOf s q → is_listed qs q ≡ true
all_listed qs s q all of =
    let low = of.1 in
    let high = of.2 in
    let same : record { chain = s.chain; rule = q.rule } ≡ q = λ i. record { chain = sym of.0 i; rule = q.rule } in
    subst (λ (x : Place). is_listed qs x ≡ true) same
    (all_at (λ n. is_listed qs (record { chain = s.chain; rule = n })) s.first (s.end - s.first) all q.rule low (omega (arith, low, high)))

listed_all : (qs : List Place) (s : Span) → ((q : Place) → IsOf s q → is_listed qs q ≡ true) → has_all qs s ≡ true
listed_all qs s each =
    all_from (λ n. is_listed qs (record { chain = s.chain; rule = n })) s.first (s.end - s.first)
    (λ i low high. each (record { chain = s.chain; rule = i }) (refl, low, omega (arith, low, high)))

-- ---- Verdicts at a place

pub verdict_ends : (v : Verdict) (o : Option Outcome) → o ≡ target_verdict (target_of v) → IsSome o → IsTrue (ends_evaluation (Some v))
verdict_ends Accept o is some = refl
verdict_ends Drop o is some = refl
verdict_ends (Goto c) o is some = let never = rw is at some in absurd (false≢true never)

pub ends_verdict : (v : Verdict) → IsTrue (ends_evaluation (Some v)) → IsSome (target_verdict (target_of v))
ends_verdict Accept ends = refl
ends_verdict Drop ends = refl
ends_verdict (Goto c) ends = absurd (false≢true ends)

span_number : (table : Table) (s : Span) → Contains (spans_of table) s → s.chain ≡ number_of s.place.chain
span_number table s among =
    elim (Contains-append_cases (spans_of_rules None 0 0 table.forward.items) (spans_from 0 table.chains.items) s among) [
      | inl base ↦
          let within = rules_within None 0 0 table.forward.items s base in within.number ∙ ap number_of (sym within.own)
      | inr later ↦
          let found = from_chain 0 table.chains.items s later in
          let within = rules_within (Some (0 + found.0)) 0 0 found.1.rules.items s found.3 in
          within.number ∙ ap number_of (sym within.own)
    ]

pub known_span : (table : Table) (place : TablePlace) (o : Option Verdict) → verdict_at table place ≡ o → IsSome o
    → (s : Span) × Contains (spans_of table) s × (s.place ≡ place)
known_span table place None has some = absurd (false≢true some)
known_span table place (Some v) has some = place_span table place.chain place.rule place.element v has

module _ (table : Table) where
  -- The verdict of a rule of the span is that at its place.
  pub rule_has : (s : Span) (q : Place) → (known : HasVerdict table s) → IsOf s q
      → rule_verdict (chains_of table) q ≡ target_verdict (target_of known.verdict)
  rule_has s q known of =
      let rule = known.targets q.rule of.1 of.2 in
      ap (λ (c : ℕ). option_and_then (λ r. target_verdict r.target) (slice_get (rules_of (chains_of table) c) q.rule)) of.0
      ∙ ap (λ (o : Option ChainRule). option_and_then (λ r. target_verdict r.target) o) rule.1
      ∙ ap target_verdict rule.2

  -- ---- Deciders

  module _ (is : IsLoadable table) (same : HaveSameVerdicts table (chains_of table)) (Among : Packet → Type 0)
      (packets : (p : Packet) → Among p → IsPacket p) (d : Deciders) (are : AreDeciders (Chains (chains_of table)) Among d) where
    decided_one : (place : TablePlace) → Contains (selected (has_one d.places.items) (spans_of table)) place → DecidesOne table Among place
    decided_one place among =
        let found = selected_span (has_one d.places.items) (spans_of table) place among in
        let s = found.0 in
        let rule = one_listed d.places.items s found.2 in
        let q = rule.0 in
        let one = (are.exact q).0 rule.1 in
        let p = one.packet in
        let packet = packets p one.among.0 in
        let known = span_verdict table s found.1 in
        subst (DecidesOne table Among) found.3
        (elim (met_stands table New p q is packet one.decides.0) [
          | inl stand ↦
              let own = one_of_rule table stand.0 s q stand.1 found.1 stand.2 rule.2 in
              record {
                packet = p;
                among = one.among.0;
                passes = (same New p true packet).1 one.among.1;
                decides = (
                  subst (λ (t : Span). IsMet table p New t.place) own stand.3,
                  subst (λ (o : Option Verdict). IsTrue (ends_evaluation o)) (sym known.there)
                      (verdict_ends known.verdict (rule_verdict (chains_of table) q) (rule_has s q known rule.2) one.decides.1),
                );
              }
          | inr last ↦ absurd (last_of_none table s q found.1 rule.2 last)
        ])

    one_decided : (place : TablePlace) → DecidesOne table Among place → Contains (selected (has_one d.places.items) (spans_of table)) place
    one_decided place one =
        let p = one.packet in
        let packet = packets p one.among in
        let found = met_has_rule table New p is packet place one.decides.0 in
        let s = found.0 in
        let q = found.3.0 in
        let known = span_verdict table s found.1 in
        let at : verdict_at table place ≡ Some known.verdict = ap (verdict_at table) (sym found.2) ∙ known.there in
        let ends : IsSome (rule_verdict (chains_of table) q) =
        subst (λ (o : Option Outcome). IsSome o) (sym (rule_has s q known found.3.1))
        (ends_verdict known.verdict (subst (λ (o : Option Verdict). IsTrue (ends_evaluation o)) at one.decides.1)) in
        let listed = (are.exact q).1 (record {
          packet = p;
          among = (one.among, (same New p true packet).0 one.passes);
          decides = (found.3.2, ends);
        }) in
        subst (Contains (selected (has_one d.places.items) (spans_of table))) found.2
        (contains_selected (has_one d.places.items) (spans_of table) s found.1 (listed_one d.places.items s q listed found.3.1))

    pub table_deciders : (places : List TablePlace) → places ≡ selected (has_one d.places.items) (spans_of table) → AreTableDeciders table Among places
    table_deciders places made = subst (AreTableDeciders table Among) (sym made) (record {
      ascending = selected_ascending (has_one d.places.items) (spans_of table) (laid_table table);
      exact = λ place. (decided_one place, one_decided place);
    })

  -- ---- Dead places

  chain_forward : (chain : Option ℕ) (c : ℕ) → c ≡ number_of chain → (c ≡ 0 → ⊥) × (c ≡ 2 → ⊥)
  chain_forward None c is = (λ none. omega (arith, is, none), λ two. omega (arith, is, two))
  chain_forward (Some n) c is = (λ none. omega (arith, is, none), λ two. omega (arith, is, two))

  module _ (is : IsLoadable table) (dead : List Place) (are : AreDead (chains_of table) dead) where
    dead_one : (place : TablePlace) → Contains (selected (has_all dead) (spans_of table)) place → IsDeadPlace table place
    dead_one place among =
        let found = selected_span (has_all dead) (spans_of table) place among in
        let s = found.0 in
        let known = span_verdict table s found.1 in
        record {
          there = subst (λ (o : Option Verdict). IsSome o) (sym (ap (verdict_at table) (sym found.3) ∙ known.there)) refl;
          unmet = λ p state packet met.
              let rule = met_has_rule table state p is packet place met in
              let own = one_of_place table rule.0 s rule.1 found.1 (rule.2 ∙ sym found.3) in
              let of = subst (λ (t : Span). IsOf t rule.3.0) own rule.3.1 in
              ((are.exact rule.3.0).0 (all_listed dead s rule.3.0 found.2 of)).1 p state packet rule.3.2;
        }

    rule_forward : (s : Span) (q : Place) → Contains (spans_of table) s → IsOf s q → HasForwardRule (chains_of table) q
    rule_forward s q among of =
        let known = span_verdict table s among in
        let rule = known.targets q.rule of.1 of.2 in
        let number = span_number table s among in
        let out = chain_forward s.place.chain q.chain (of.0 ∙ number) in
        record {
          there = slice_get_within (rules_of (chains_of table) q.chain) q.rule rule.0
              (ap (λ (c : ℕ). slice_get (rules_of (chains_of table) c) q.rule) of.0 ∙ rule.1);
          not_input = out.0;
          not_output = out.1;
        }

    one_dead : (place : TablePlace) → IsDeadPlace table place → Contains (selected (has_all dead) (spans_of table)) place
    one_dead place one =
        let found = known_span table place (verdict_at table place) refl one.there in
        let s = found.0 in
        subst (Contains (selected (has_all dead) (spans_of table))) found.2
        (contains_selected (has_all dead) (spans_of table) s found.1
        (listed_all dead s (λ q of. (are.exact q).1 (
          rule_forward s q found.1 of,
          λ p state packet met.
              elim (met_stands table state p q is packet met) [
                | inl stand ↦
                    let own = one_of_rule table stand.0 s q stand.1 found.1 stand.2 of in
                    one.unmet p state packet (subst (IsMet table p state) found.2 (subst (λ (t : Span). IsMet table p state t.place) own stand.3))
                | inr last ↦ last_of_none table s q found.1 of last
              ],
        ))))

    pub dead_places : (places : List TablePlace) → places ≡ selected (has_all dead) (spans_of table) → AreDeadTablePlaces table places
    dead_places places made = subst (AreDeadTablePlaces table) (sym made) (record {
      ascending = selected_ascending (has_all dead) (spans_of table) (laid_table table);
      exact = λ place. (dead_one place, one_dead place);
    })
