-- Places in ascending order, and the places before a limit that have a property.
use Rattle.std.proofs.Common.{◌≡◌, ◌⊎◌, ◌↔◌, inl, inr, ℕ, ◌+◌, ◌<◌, ◌==◌, true, false, IsTrue, List, [], ◌∷◌, ◌++◌, refl, sym, subst, arith}
use Rattle.std.proofs.lemmas.Bool.{and_from, and_parts, cases_lt, cases_order, eq-eqb, eqb-true, or_cases, or_left, or_right}
use Rattle.ipt_rules.specs.declared.marks.Place.{Place}
use Rattle.pass_core.specs.Dead.{AreAscending, ComesBefore, is_listed, same_place}
use Rattle.pass_core.specs.inner.Places.{AreBefore}

-- ---- lists of places

same_fields : (p q : Place) → p.chain ≡ q.chain → p.rule ≡ q.rule → p ≡ q
same_fields p q chain rule = λ i. record { chain = chain i; rule = rule i }

is_same : (p q : Place) → same_place p q ≡ true → p ≡ q
is_same p q on =
    let (chain, rule) = and_parts (p.chain == q.chain) (p.rule == q.rule) on in
    same_fields p q (eqb-true p.chain q.chain chain) (eqb-true p.rule q.rule rule)

same_self : (p : Place) → same_place p p ≡ true
same_self p = and_from (p.chain == p.chain) (p.rule == p.rule) (eq-eqb p.chain p.chain refl) (eq-eqb p.rule p.rule refl)

listed_first : (ps : List Place) (p q : Place) → IsTrue (is_listed ps q) → IsTrue (is_listed (ps ++ p ∷ []) q)
listed_first [] p q on = cc
listed_first (x ∷ ps) p q on = elim (or_cases (same_place x q) (is_listed ps q) on) [
  | inl here ↦ or_left (same_place x q) (is_listed (ps ++ p ∷ []) q) here
  | inr later ↦ or_right (same_place x q) (is_listed (ps ++ p ∷ []) q) (listed_first ps p q later)
]

listed_last : (ps : List Place) (p : Place) → IsTrue (is_listed (ps ++ p ∷ []) p)
listed_last [] p = or_left (same_place p p) false (same_self p)
listed_last (x ∷ ps) p = or_right (same_place x p) (is_listed (ps ++ p ∷ []) p) (listed_last ps p)

listed_either : (ps : List Place) (p q : Place) → IsTrue (is_listed (ps ++ p ∷ []) q) → IsTrue (is_listed ps q) ⊎ (p ≡ q)
listed_either [] p q on = elim (or_cases (same_place p q) false on) [ inl here ↦ inr (is_same p q here) | inr none ↦ cc ]
listed_either (x ∷ ps) p q on = elim (or_cases (same_place x q) (is_listed (ps ++ p ∷ []) q) on) [
  | inl here ↦ inl (or_left (same_place x q) (is_listed ps q) here)
  | inr later ↦ elim (listed_either ps p q later) [
    | inl first ↦ inl (or_right (same_place x q) (is_listed ps q) first)
    | inr last ↦ inr last
  ]
]

-- A place after all others is appended.
ascending_push : (ps : List Place) (p : Place) → AreAscending ps → ((q : Place) → IsTrue (is_listed ps q) → ComesBefore q p) → AreAscending (ps ++ p ∷ [])
ascending_push [] p are last = (tt, tt)
ascending_push (x ∷ []) p are last = (last x (or_left (same_place x x) false (same_self x)), (tt, tt))
ascending_push (x ∷ y ∷ ps) p are last =
    (are.0, ascending_push (y ∷ ps) p are.1 (λ q on. last q (or_right (same_place x q) (is_listed (y ∷ ps) q) on)))

-- ---- the order of places

abbrev pub at : ℕ → ℕ → Place
at c n = record { chain = c; rule = n }

before_next : (q : Place) (c n : ℕ) → ComesBefore q (at c n) → ComesBefore q (at c (n + 1))
before_next q c n before = elim before [ inl chain ↦ inl chain | inr rule ↦ inr (rule.0, (let low = rule.1 in omega (arith, low))) ]

next_either : (q : Place) (c n : ℕ) → ComesBefore q (at c (n + 1)) → ComesBefore q (at c n) ⊎ (at c n ≡ q)
next_either q c n before = elim before [
  | inl chain ↦ inl (inl chain)
  | inr rule ↦ elim (cases_lt q.rule n) [
    | inl low ↦ inl (inr (rule.0, low))
    | inr high ↦ let low = rule.1 in inr (same_fields (at c n) q (sym rule.0) (omega (arith, low, high)))
  ]
]

before_chain : (q : Place) (c n : ℕ) → ComesBefore q (at c n) → ComesBefore q (at (c + 1) 0)
before_chain q c n before = elim before [ inl chain ↦ inl (omega (arith, chain)) | inr rule ↦ inl (let same = rule.0 in omega (arith, same)) ]

not_later : (q : Place) (c : ℕ) → ComesBefore q (at (c + 1) 0) → c < q.chain → ⊥
not_later q c before more = elim before [ inl chain ↦ omega (arith, chain, more) | inr rule ↦ let low = rule.1 in omega (arith, low) ]

-- ---- the places with a property before a limit

module _ (Holds : Place → Type 0) where
  -- The limit advances past places without the property.
  moves : (old new : Place) (places : List Place) → ((q : Place) → ComesBefore q old → ComesBefore q new)
      → ((q : Place) → Holds q → ComesBefore q new → ComesBefore q old) → AreBefore Holds old places → AreBefore Holds new places
  moves old new places on back are = record {
    ascending = are.ascending;
    exact = λ place. (
      λ listed. let is = (are.exact place).0 listed in (on place is.0, is.1),
      λ is. (are.exact place).1 (back place is.1 is.0, is.1),
    );
  }

  pub passes_place : (places : List Place) (c n : ℕ) → (Holds (at c n) → ⊥) → AreBefore Holds (at c n) places → AreBefore Holds (at c (n + 1)) places
  passes_place places c n none = moves (at c n) (at c (n + 1)) places (λ q before. before_next q c n before) back
    where
      back : (q : Place) → Holds q → ComesBefore q (at c (n + 1)) → ComesBefore q (at c n)
      back q holds before = elim (next_either q c n before) [ inl earlier ↦ earlier | inr is ↦ absurd (none (subst Holds (sym is) holds)) ]

  -- The limit advances to the next chain, if the rest of the chain has no place with the property.
  pub passes_chain : (places : List Place) (c n : ℕ) → ((q : Place) → q.chain ≡ c → Holds q → q.rule < n) → AreBefore Holds (at c n) places
      → AreBefore Holds (at (c + 1) 0) places
  passes_chain places c n few = moves (at c n) (at (c + 1) 0) places (λ q before. before_chain q c n before) back
    where
      back : (q : Place) → Holds q → ComesBefore q (at (c + 1) 0) → ComesBefore q (at c n)
      back q holds before = elim (cases_order q.chain c) [
        | inl same ↦ inr (same, few q same holds)
        | inr other ↦ elim other [ inl less ↦ inl less | inr more ↦ absurd (not_later q c before more) ]
      ]

  pub pushes : (old new : List Place) (c n : ℕ) → Holds (at c n) → new ≡ old ++ at c n ∷ [] → AreBefore Holds (at c n) old → AreBefore Holds (at c (n + 1)) new
  pushes old new c n holds pushed are = subst (AreBefore Holds (at c (n + 1))) (sym pushed) (record {
    ascending = ascending_push old (at c n) are.ascending (λ q on. ((are.exact q).0 on).0);
    exact = λ place. (
      λ listed. elim (listed_either old (at c n) place listed) [
        | inl first ↦ let is = (are.exact place).0 first in (before_next place c n is.0, is.1)
        | inr same ↦ subst (λ (p : Place). ComesBefore p (at c (n + 1)) × Holds p) same (inr (refl, omega arith), holds)
      ],
      λ is. elim (next_either place c n is.0) [
        | inl earlier ↦ listed_first old (at c n) place ((are.exact place).1 (earlier, is.1))
        | inr same ↦ subst (λ (p : Place). IsTrue (is_listed (old ++ at c n ∷ []) p)) same (listed_last old (at c n))
      ],
    );
  })

  -- A place has the property iff it is listed, if all such places are before the limit.
  pub all_before : (n : ℕ) (places : List Place) → ((q : Place) → Holds q → q.chain < n) → AreBefore Holds (at n 0) places → (q : Place)
      → IsTrue (is_listed places q) ↔ Holds q
  all_before n places low are q = (λ listed. ((are.exact q).0 listed).1, λ holds. (are.exact q).1 (inl (low q holds), holds))
