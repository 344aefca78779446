-- The decider of a frame is unique, and the verdict is its verdict.
use Rattle.std.proofs.Common.{◌≡◌, ◌⊎◌, inl, inr, ℕ, zero, suc, ◌+◌, ◌<◌, ◌≤◌, ◌∙◌, Bool, true, false, ◌&&◌, cond, IsTrue, List, [], ◌∷◌, Option, Some, None, length, get_or, slice_get, refl, sym, ap, subst, arith}
use Rattle.std.specs.Option.{option_map_or}
use Rattle.std.proofs.lemmas.Bool.{cases_lt}
use Rattle.std.proofs.lemmas.Bool.Decides.{nat_tests}
use Rattle.std.proofs.lemmas.Option.{same_Some, slice_get_read, slice_get_within}
use Rattle.host_net.specs.declared.packet.Verdict.TheVariants.{Drop as Dropped}
use Rattle.ofp_rules.specs.declared.deciders.Found.{Found}
use Rattle.ofp_rules.specs.declared.entry.Entry.{Entry}
use Rattle.ofp_rules.specs.declared.entry.Frame.{Frame}
use Rattle.ofp_rules.specs.Deciders.{DecidesAt, IsEntryDecider, decided}
use Rattle.ofp_rules.specs.Matching.{matches}
use Rattle.ofp_rules.specs.Semantics.{IsOneOf, HasVerdict, verdict_of}
use Rattle.ofp_rules.specs.inner.Deciding.{DecidesTo, IsFoundTo, found_with, is_higher, place_of}
use Rattle.ofp_rules.proofs.HighestLaws.{one_of_at}

-- ---- One more entry

module _ (entries : List Entry) (frame : Frame) (n : ℕ) (e : Entry) (here : slice_get entries n ≡ Some e) where
  -- An entry at an index below n + 1 has an index below n, or is e.
  earlier : (j : ℕ) (f : Entry) → j < n + 1 → slice_get entries j ≡ Some f → (j < n) ⊎ (f ≡ e)
  earlier j f low there = elim (cases_lt j n) [
    | inl less ↦ inl less
    | inr more ↦
        let same : j ≡ n = omega (arith, low, more) in
        inr (same_Some f e (sym there ∙ ap (slice_get entries) same ∙ here))
  ]

  -- The entry changes nothing.
  none_more : matches frame e ≡ false → IsFoundTo entries frame n None → IsFoundTo entries frame (n + 1) None
  none_more off none j f low there on = elim (earlier j f low there) [
    | inl less ↦ none j f less there on
    | inr same ↦ let off_f : matches frame f ≡ false = ap (matches frame) same ∙ off in absurd (cc)
  ]

  kept : (found : Found) → (IsTrue (matches frame e) → e.priority ≤ found.priority) → DecidesTo entries frame n found → DecidesTo entries frame (n + 1) found
  kept found below is = record {
    entry = is.entry;
    there = is.there;
    low = omega (arith, is.low);
    priority = is.priority;
    matched = is.matched;
    above = λ j f low there on. elim (earlier j f low there) [
      | inl less ↦ is.above j f less there on
      | inr same ↦
          let own : IsTrue (matches frame e) = ap (matches frame) (sym same) ∙ on in
          let as_e : f.priority ≡ e.priority = ap (λ (g : Entry). g.priority) same in
          let under = below own in
          omega (arith, as_e, under)
    ];
    first = is.first;
  }

  -- The entry decides.
  taken : matches frame e ≡ true → ((j : ℕ) (f : Entry) → j < n → slice_get entries j ≡ Some f → IsTrue (matches frame f) → f.priority < e.priority) → DecidesTo entries frame (n + 1) (record { place = n; priority = e.priority })
  taken on lower = record {
    entry = e;
    there = here;
    low = omega arith;
    priority = refl;
    matched = on;
    above = λ j f low there by_f. elim (earlier j f low there) [
      | inl less ↦ let under = lower j f less there by_f in omega (arith, under)
      | inr same ↦ let as_e : f.priority ≡ e.priority = ap (λ (g : Entry). g.priority) same in omega (arith, as_e)
    ];
    first = lower;
  }

  more_by : (found : Option Found) (b a : Bool) → matches frame e ≡ b → is_higher e.priority found ≡ a → IsFoundTo entries frame n found
      → IsFoundTo entries frame (n + 1) (cond (b && a) (Some (record { place = n; priority = e.priority })) found)
  more_by None false a off higher is = none_more off is
  more_by None true false on higher is = cc
  more_by None true true on higher is = taken on (λ j f low there by_f. absurd (is j f low there by_f))
  more_by (Some found) false a off higher is = kept found (λ on. cc) is
  more_by (Some found) true false on higher is = kept found (λ own. grind (arith, nat_tests)) is
  more_by (Some found) true true on higher is =
      let lower : found.priority < e.priority = grind (arith, nat_tests) in
      taken on (λ j f low there by_f. let under = is.above j f low there by_f in omega (arith, under, lower))

pub found_next : (entries : List Entry) (frame : Frame) (n : ℕ) (e : Entry) (found next : Option Found) → n < length entries → e ≡ get_or entries n e → next ≡ found_with frame found e n → IsFoundTo entries frame n found
    → IsFoundTo entries frame (n + 1) next
found_next entries frame n e found next low read same is =
    let here = slice_get_read entries (length entries) n e refl low read in
    subst (IsFoundTo entries frame (n + 1)) (sym same) (more_by entries frame n e here found (matches frame e) (is_higher e.priority found) refl refl is)

-- ---- All entries

pub decider_found : (entries : List Entry) (frame : Frame) (n : ℕ) (found : Option Found) → length entries ≤ n → IsFoundTo entries frame n found → IsEntryDecider entries frame (place_of found)
decider_found entries frame n None past none = λ j f there on. none j f (let low = slice_get_within entries j f there in omega (arith, low, past)) there on
decider_found entries frame n (Some found) past is = record {
  entry = is.entry;
  there = is.there;
  matched = is.matched;
  above = λ j f there on.
      let low = slice_get_within entries j f there in
      let under = is.above j f (omega (arith, low, past)) there on in
      let same = is.priority in
      omega (arith, under, same);
  first = λ j f low there on. let under = is.first j f low there on in let same = is.priority in omega (arith, under, same);
}

-- ---- Uniqueness of the decider

not_before : (entries : List Entry) (frame : Frame) (k l : ℕ) → DecidesAt entries frame k → DecidesAt entries frame l → k < l → ⊥
not_before entries frame k l one other low =
    let less = other.first k one.entry low one.there one.matched in
    let more = one.above l other.entry other.there other.matched in
    omega (arith, less, more)

pub one_decider : (entries : List Entry) (frame : Frame) (d e : Option ℕ) → IsEntryDecider entries frame d → IsEntryDecider entries frame e → d ≡ e
one_decider entries frame None None is also = refl
one_decider entries frame None (Some l) is also = absurd (is l also.entry also.there also.matched)
one_decider entries frame (Some k) None is also = absurd (also k is.entry is.there is.matched)
one_decider entries frame (Some k) (Some l) is also = elim (cases_lt k l) [
  | inl low ↦ absurd (not_before entries frame k l is also low)
  | inr high ↦ elim (cases_lt l k) [
    | inl low ↦ absurd (not_before entries frame l k also is low)
    | inr other ↦ let same : k ≡ l = omega (arith, high, other) in ap (λ (x : ℕ). Some x) same
  ]
]

-- ---- The verdict

at_of_one : (f : Entry) (xs : List Entry) → IsOneOf f xs → (j : ℕ) × (slice_get xs j ≡ Some f)
at_of_one f [] h = absurd h
at_of_one f (x ∷ xs) (inl same) = (zero, ap (λ (y : Entry). Some y) (sym same))
at_of_one f (x ∷ xs) (inr later) = let (j, there) = at_of_one f xs later in (suc j, there)

pub verdict_decided : (entries : List Entry) (frame : Frame) (d : Option ℕ) → IsEntryDecider entries frame d → HasVerdict entries frame (decided entries d)
verdict_decided entries frame None is = inr (λ f h on. let (j, there) = at_of_one f entries h in is j f there on, refl)
verdict_decided entries frame (Some k) is =
    inl (
      is.entry,
      record {
        listed = one_of_at entries k is.entry is.there;
        matched = is.matched;
        above = λ f h on. let (j, there) = at_of_one f entries h in is.above j f there on;
      },
      ap (λ (o : Option Entry). option_map_or (λ e. verdict_of e.action) o Dropped) is.there,
    )
