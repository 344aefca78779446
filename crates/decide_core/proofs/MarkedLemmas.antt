-- The places of marked rules.
use Rattle.std.proofs.Common.{◌≡◌, inl, inr, ℕ, ◌<◌, ◌≤◌, Bool, false, IsTrue, List, Option, Some, None, length, slice_get, refl, ap, arith}
use Rattle.std.specs.Option.{unwrap_or}
use Rattle.std.proofs.lemmas.Bool.{cases_lt}
use Rattle.std.proofs.lemmas.Option.{slice_get_within}
use Rattle.ipt_rules.specs.declared.marks.Place.{Place}
use Rattle.ipt_rules.specs.Marks.{is_marked, marks_of}
use Rattle.rules_space.specs.Rules.{AnyRules}
use Rattle.pass_core.specs.inner.Places.{AreBefore}
use Rattle.pass_core.proofs.PlaceLaws.{all_before, at}
use Rattle.decide_core.specs.inner.Classifying.{HasMarks, chain_count}
use Rattle.decide_core.specs.inner.Marked.{AreMarked, IsMarked}
use Rattle.decide_core.proofs.ClassifyingLemmas.{none_past}

bit_there : (bs : List Bool) (n : ℕ) (o : Option Bool) → slice_get bs n ≡ o → IsTrue (unwrap_or o false) → n < length bs
bit_there bs n None is on = cc
bit_there bs n (Some b) is on = slice_get_within bs n b is

mark_there : (marks : List (List Bool)) (place : Place) → IsTrue (is_marked marks place) → place.rule < length (marks_of marks place.chain)
mark_there marks place on = bit_there (marks_of marks place.chain) place.rule (slice_get (marks_of marks place.chain) place.rule) refl on

-- The marked rules of a chain are among its rules.
pub marked_rules : (marks : List (List Bool)) (c n : ℕ) → length (marks_of marks c) ≤ n → (q : Place) → q.chain ≡ c → IsMarked marks q → q.rule < n
marked_rules marks c n long q same on =
    let low = mark_there marks q on in let few = ap (λ (k : ℕ). length (marks_of marks k)) same in omega (arith, low, few, long)

-- The chains of the marked rules are among the chains of the rules.
marked_chain : (marks : List (List Bool)) (rules : AnyRules) → HasMarks rules marks → (n : ℕ) → chain_count rules ≤ n → (q : Place) → IsMarked marks q
    → q.chain < n
marked_chain marks rules has n past q on = elim (cases_lt q.chain n) [
  | inl low ↦ low
  | inr high ↦
      let none = none_past rules q.chain (omega (arith, past, high)) in
      let same = has q.chain in
      let there = mark_there marks q on in
      absurd (omega (arith, none, same, there))
]

pub all_marked : (marks : List (List Bool)) (rules : AnyRules) → HasMarks rules marks → (n : ℕ) (places : List Place) → chain_count rules ≤ n
    → AreBefore (IsMarked marks) (at n 0) places → AreMarked marks places
all_marked marks rules has n places past are = record {
  ascending = are.ascending;
  exact = all_before (IsMarked marks) n places (marked_chain marks rules has n past) are;
}
