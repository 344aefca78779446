-- The order of chains during its construction.
use Rattle.std.proofs.Common.{◌≡◌, ℕ, ◌<◌, ◌≤◌, ◌∙◌, inl, inr, sym, ap, refl, false, cond, List, [], ◌∷◌, ◌++◌, Option, Some, None, length, get_or, set, replicate, arith, subst, length-append, length-set}
use Rattle.std.specs.Prelude.{slice_get, Contains, is_some, is_none}
use Rattle.std.proofs.lemmas.Bool.{cases_lt, cases_eq}
use Rattle.std.proofs.lemmas.Option.{slice_get_within, slice_get_read, slice_get-get_or, same_Some}
use Rattle.std.proofs.lemmas.List.{length-replicate}
use Rattle.std.proofs.lemmas.List.Sums.{sum_by-set}
use Rattle.std.proofs.lemmas.List.Folds.{sum_by-replicate}
use Rattle.ipt_rules.specs.inner.Ranks.{row_of, place_in, place_of, IsBefore, IsOrder, IsPartOrder, IsStuck}
use Rattle.ipt_rules.proofs.Gets.{get_set_same, get_set_other, get_front, get_last, get_pushed, contains_get, get_replicate}

none_by : (o : Option ℕ) → is_some o ≡ false → o ≡ None
none_by None h = refl
none_by (Some j) h = cc

pub unplaced_at : (places : List (Option ℕ)) (c : ℕ) (o : Option ℕ) → c < length places → o ≡ get_or places c o → is_some o ≡ false → place_of places c ≡ None
unplaced_at places c o h is none = ap place_in (slice_get_read places (length places) c o refl h is) ∙ none_by o none

placed_by : (places : List (Option ℕ)) (d n : ℕ) (o : Option ℕ) → ((j : ℕ) → place_of places d ≡ Some j → j < n) → place_of places d ≡ o → (place_of places d ≡ None → ⊥) → IsBefore places d n
placed_by places d n None low is some = absurd (some is)
placed_by places d n (Some j) low is some = record { place = j; placed = is; before = low j is }

-- A position is within the order.
pub placed : (next : ℕ → List ℕ) (count : ℕ) (order : List ℕ) (places : List (Option ℕ)) → IsOrder next count order places → (d : ℕ) → (place_of places d ≡ None → ⊥) → IsBefore places d (length order)
placed next count order places is d some =
    placed_by places d (length order) (place_of places d) (λ j at. slice_get_within order j d (is.there d j at)) refl some

pub looked_at : (table : List (List ℕ)) (order : List ℕ) (places : List (Option ℕ)) (looked : List ℕ) → IsPartOrder table order places looked → (c old at : ℕ) (row : List ℕ) (ps : List (Option ℕ)) → c < length table → old ≡ get_or looked c old → row ≡ row_of table c → ps ≡ places → at ≤ length row
    → ((i d : ℕ) → old ≤ i → i < at → slice_get row i ≡ Some d → place_of ps d ≡ None → ⊥) → IsPartOrder table order places (set looked c at)
looked_at table order places looked is c old at row ps there was same_row same_places high some = record {
  ordered = is.ordered;
  few = is.few;
  all_places = is.all_places;
  all_looked = length-set looked c at ∙ is.all_looked;
  counted = is.counted;
  within = λ e k got. elim (cases_eq e c) [
    | inl same ↦
        let now : at ≡ k = now_at e k same got in
        subst (λ (n : ℕ). n ≤ length (row_of table e)) now (subst (λ (x : ℕ). at ≤ length (row_of table x)) (sym same) (subst (λ (r : List ℕ). at ≤ length r) same_row high))
    | inr other ↦ is.within e k (sym (get_set_other looked c e at other) ∙ got)
  ];
  passed = λ e k i d got low here. elim (cases_eq e c) [
    | inl same ↦
        let now : at ≡ k = now_at e k same got in
        let here_c : slice_get (row_of table c) i ≡ Some d = subst (λ (x : ℕ). slice_get (row_of table x) i ≡ Some d) same here in
        elim (cases_lt i old) [
          | inl before ↦ is.passed c old i d was_at before here_c
          | inr behind ↦
              let here_row : slice_get row i ≡ Some d = subst (λ (r : List ℕ). slice_get r i ≡ Some d) (sym same_row) here_c in
              placed (row_of table) (length table) order places is.ordered d (λ none. some i d behind (omega (arith, now, low)) here_row (subst (λ (p : List (Option ℕ)). place_of p d ≡ None) (sym same_places) none))
        ]
    | inr other ↦ is.passed e k i d (sym (get_set_other looked c e at other) ∙ got) low here
  ];
}
  where
    long : c < length looked
    long = omega (arith, there, is.all_looked)

    was_at : slice_get looked c ≡ Some old
    was_at = slice_get_read looked (length looked) c old refl long was

    now_at : (e k : ℕ) → e ≡ c → slice_get (set looked c at) e ≡ Some k → at ≡ k
    now_at e k same got =
        same_Some at k (sym (get_set_same looked c at long) ∙ ap (slice_get (set looked c at)) (sym same) ∙ got)

-- A new position preserves the other positions.
module _ (places : List (Option ℕ)) (c n : ℕ) (there : c < length places) (none : place_of places c ≡ None) where
  pub own_place : place_of (set places c (Some n)) c ≡ Some n
  own_place = ap place_in (get_set_same places c (Some n) there)

  pub other_place : (d : ℕ) → (d ≡ c → ⊥) → place_of (set places c (Some n)) d ≡ place_of places d
  other_place d other = ap place_in (get_set_other places c d (Some n) other)

  pub still_before : (d i k : ℕ) → i ≤ k → IsBefore places d i → IsBefore (set places c (Some n)) d k
  still_before d i k up was = record {
    place = was.place;
    placed = other_place d (λ same. differ (sym was.placed ∙ ap (place_of places) same ∙ none)) ∙ was.placed;
    before = omega (arith, up, was.before);
  }
    where
      differ : Some was.place ≡ None → ⊥
      differ e = cc

none_get : (places : List (Option ℕ)) (c : ℕ) → c < length places → place_of places c ≡ None → get_or places c None ≡ None
none_get places c there none = sym (ap place_in (slice_get-get_or places c None there)) ∙ none

pub put_last : (table : List (List ℕ)) (order : List ℕ) (places : List (Option ℕ)) (looked : List ℕ) → IsPartOrder table order places looked → (c : ℕ) → c < length table → place_of places c ≡ None → slice_get looked c ≡ Some (length (row_of table c)) → IsPartOrder table (order ++ c ∷ []) (set places c (Some (length order))) looked
put_last table order places looked is c there none all = record {
  ordered = record {
    inside = λ i x at. elim (get_pushed order c i x at) [
      | inl old ↦ is.ordered.inside i x old
      | inr new ↦ subst (λ (y : ℕ). y < length table) new.1 there
    ];
    there = λ d i at. elim (cases_eq d c) [
      | inl same ↦
          let place : length order ≡ i = same_Some (length order) i (sym own ∙ ap (place_of (set places c (Some (length order)))) (sym same) ∙ at) in
          subst (λ (k : ℕ). slice_get (order ++ c ∷ []) k ≡ Some d) place (get_last order c ∙ ap (λ y. Some y) (sym same))
      | inr other ↦ get_front order (c ∷ []) i d (is.ordered.there d i (sym (other_place places c (length order) long none d other) ∙ at))
    ];
    back = λ i x d at jump. elim (get_pushed order c i x at) [
      | inl old ↦ still_before places c (length order) long none d i i (omega arith) (is.ordered.back i x d old jump)
      | inr new ↦
          let found = contains_get (row_of table c) d (subst (λ (y : ℕ). Contains (row_of table y) d) (sym new.1) jump) in
          let low : found.0 < length (row_of table c) = slice_get_within (row_of table c) found.0 d found.1 in
          still_before places c (length order) long none d (length order) i (omega (arith, new.0)) (is.passed c (length (row_of table c)) found.0 d all low found.1)
    ];
  };
  few = is.few;
  all_places = length-set places c (Some (length order)) ∙ is.all_places;
  all_looked = is.all_looked;
  counted =
      let step = sum_by-set (λ (o : Option ℕ). cond (is_none o) 1 0) places c (Some (length order)) None long in
      let one : ◌≡◌ {A = ℕ} (cond (is_none (get_or places c None)) 1 0) 1 = ap (λ (o : Option ℕ). cond (is_none o) 1 0) (none_get places c long none) in
      omega (arith, is.counted, length-append order (c ∷ []), step, one);
  within = is.within;
  passed = λ e k i d got low here. still_before places c (length order) long none d (length order) (length (order ++ c ∷ [])) (omega (arith, length-append order (c ∷ []))) (is.passed e k i d got low here);
}
  where
    long : c < length places
    long = omega (arith, there, is.all_places)

    own : place_of (set places c (Some (length order))) c ≡ Some (length order)
    own = own_place places c (length order) long none

nothing : (table : List (List ℕ)) → length table ≤ 4096 → IsPartOrder table [] (replicate (length table) None) (replicate (length table) 0)
nothing table few = record {
  ordered = record { inside = λ i c at. cc; there = λ c i at. absurd (nowhere c i at); back = λ i c d at jump. cc };
  few = few;
  all_places = length-replicate (length table) None;
  all_looked = length-replicate (length table) 0;
  counted = omega (arith, sum_by-replicate (λ (o : Option ℕ). cond (is_none o) 1 0) (length table) None);
  within = λ c k got. let z : 0 ≡ k = get_replicate (length table) 0 c k got in omega (arith, z);
  passed = λ c k i d got low here. let z : 0 ≡ k = get_replicate (length table) 0 c k got in absurd (omega (arith, z, low));
}
  where
    by_get : (o : Option (Option ℕ)) (i : ℕ) → ((x : Option ℕ) → o ≡ Some x → None ≡ x) → place_in o ≡ Some i → ⊥
    by_get None i empty at = cc
    by_get (Some x) i empty at = let e = empty x refl in cc

    nowhere : (c i : ℕ) → place_of (replicate (length table) None) c ≡ Some i → ⊥
    nowhere c i at = by_get (slice_get (replicate (length table) None) c) i (λ x got. get_replicate (length table) None c x got) at

pub nothing_yet : (table : List (List ℕ)) (count more : ℕ) (order : List ℕ) (places : List (Option ℕ)) (looked : List ℕ) → length table ≤ 4096 → count ≡ length table → more ≡ length table → order ≡ [] → places ≡ replicate count None → looked ≡ replicate more 0 → IsPartOrder table order places looked
nothing_yet table count more order places looked few same also no_order no_places no_looked =
    subst (λ (o : List ℕ). IsPartOrder table o places looked) (sym no_order)
    (subst (λ (p : List (Option ℕ)). IsPartOrder table [] p looked) (sym (no_places ∙ ap (λ (n : ℕ). replicate n None) same))
    (subst (λ (q : List ℕ). IsPartOrder table [] (replicate (length table) None) q) (sym (no_looked ∙ ap (λ (n : ℕ). replicate n 0) also)) (nothing table few)))

-- The chains below n that have no position are stuck.
abbrev pub StuckBelow : List (List ℕ) → List (Option ℕ) → ℕ → Type 0
StuckBelow table places n = (c : ℕ) → c < n → place_of places c ≡ None → IsStuck table places c

-- The same in terms of the values of the code.
pub put_at : (table : List (List ℕ)) (order : List ℕ) (places : List (Option ℕ)) (looked : List ℕ) (c at n : ℕ) (new : List ℕ) → IsPartOrder table order places (set looked c at) → c < length table → place_of places c ≡ None → at ≡ length (row_of table c) → n ≡ length order → new ≡ order ++ c ∷ [] → IsPartOrder table new (set places c (Some n)) (set looked c at)
put_at table order places looked c at n new is there none all place pushed =
    let got : slice_get (set looked c at) c ≡ Some at = get_set_same looked c at (omega (arith, there, is.all_looked, length-set looked c at)) in
    let last : IsPartOrder table (order ++ c ∷ []) (set places c (Some (length order))) (set looked c at) = put_last table order places (set looked c at) is c there none (got ∙ ap (λ (k : ℕ). Some k) all) in
    subst (λ (o : List ℕ). IsPartOrder table o (set places c (Some n)) (set looked c at)) (sym pushed)
    (subst (λ (k : ℕ). IsPartOrder table (order ++ c ∷ []) (set places c (Some k)) (set looked c at)) (sym place) last)
