-- A reported overlap is the first one, in the terms of `Overlaps`.
use Rattle.std.proofs.Common.{◌≡◌, ℕ, zero, suc, ◌+◌, ◌<◌, ◌≤◌, inl, inr, Bool, true, false, cond, List, [], ◌∷◌, ◌++◌, length, take, Option, Some, None, slice_get, refl, sym, ap, ◌∙◌, arith, append_assoc, length-append}
use Rattle.std.proofs.Math.Seq.{take-append_seam}
use Rattle.std.proofs.lemmas.Bool.{cases_lt}
use Rattle.std.specs.List.{position_from}
use Rattle.std.specs.Option.{option_map, option_or}
use Rattle.std.specs.Prelude.{if◌then◌else◌, not}
use Rattle.text_core.specs.FirstMatch.{some_if}
use Rattle.text_core.proofs.FirstsLaws.{some_same}
use Rattle.text_core.proofs.GetLaws.{get_seam}
use Rattle.text_core.specs.Name.{is_name}
use Rattle.host_net.specs.Host.{Host, host_named, rest_of, has_no_address}
use Rattle.host_net.specs.inner.Hosts.{meets_any, prefix_lists}
use Rattle.host_net.specs.inner.Overlaps.{HasPartner, IsFirstOverlap, earlier}
use Rattle.host_net.specs.inner.Refusal.{is_full, meeting, overlap, overlap_from, refusal_of, two_rests}
use Rattle.host_net.specs.declared.prefix.Prefix.{Prefix}
use Rattle.host_net.specs.declared.refusal.HostRefusal.{HostRefusal}
use Rattle.host_net.specs.declared.refusal.HostRefusal.TheVariants.{TooMany, BadName, Duplicate, NoAddress, TwoRests, Overlap}

-- An element that a search finds, at its index.
record IsPlaced {A : Type 0} (t : A → Bool) (xs : List A) (n : ℕ) : Type 0 where
  what : A
  there : slice_get xs n ≡ Some what
  passes : t what ≡ true

placed_by : {A : Type 0} (t : A → Bool) (i k : ℕ) (x : A) (xs : List A) (b : Bool) → t x ≡ b
    → cond b (Some i) (position_from t (i + 1) xs) ≡ Some k
    → (position_from t (i + 1) xs ≡ Some k → (n : ℕ) × (k ≡ i + 1 + n) × IsPlaced t xs n) → (n : ℕ) × (k ≡ i + n) × IsPlaced t (x ∷ xs) n
placed_by t i k x xs true here is later = (0, let same : i ≡ k = cc in omega arith, record { what = x; there = refl; passes = here })
placed_by t i k x xs false here is later =
    let (n, place, found) = later is in
    (suc n, omega arith, record { what = found.what; there = found.there; passes = found.passes })

placed : {A : Type 0} (t : A → Bool) (i k : ℕ) (xs : List A) → position_from t i xs ≡ Some k → (n : ℕ) × (k ≡ i + n) × IsPlaced t xs n
placed t i k [] is = cc
placed t i k (x ∷ xs) is = placed_by t i k x xs (t x) refl is (placed t (i + 1) k xs)

least_by : {A : Type 0} (t : A → Bool) (i k j : ℕ) (x : A) (xs : List A) (b : Bool) → t x ≡ b
    → cond b (Some i) (position_from t (i + 1) xs) ≡ Some k
    → (y : A) → slice_get (x ∷ xs) j ≡ Some y → t y ≡ true → ((m : ℕ) → position_from t (i + 1) xs ≡ Some k → slice_get xs m ≡ Some y → k ≤ i + 1 + m) → k ≤ i + j
least_by t i k j x xs true here is y there passes later = let same : i ≡ k = cc in omega arith
least_by t i k zero x xs false here is y there passes later = let same : x ≡ y = some_same x y there in cc
least_by t i k (suc j) x xs false here is y there passes later = let below = later j is there in omega arith

least : {A : Type 0} (t : A → Bool) (i k j : ℕ) (xs : List A) (y : A) → position_from t i xs ≡ Some k → slice_get xs j ≡ Some y
    → t y ≡ true → k ≤ i + j
least t i k j [] y is there passes = cc
least t i k j (x ∷ xs) y is there passes = least_by t i k j x xs (t x) refl is y there passes (λ m found at_m. least t (i + 1) k m xs y found at_m passes)

nowhere_by : {A : Type 0} (t : A → Bool) (i j : ℕ) (x : A) (xs : List A) (b : Bool) → t x ≡ b
    → cond b (Some i) (position_from t (i + 1) xs) ≡ None
    → (y : A) → slice_get (x ∷ xs) j ≡ Some y → t y ≡ true → ((m : ℕ) → position_from t (i + 1) xs ≡ None → slice_get xs m ≡ Some y → ⊥) → ⊥
nowhere_by t i j x xs true here is y there passes later = cc
nowhere_by t i zero x xs false here is y there passes later = let same : x ≡ y = some_same x y there in cc
nowhere_by t i (suc j) x xs false here is y there passes later = later j is there

nowhere : {A : Type 0} (t : A → Bool) (i j : ℕ) (xs : List A) (y : A) → position_from t i xs ≡ None → slice_get xs j ≡ Some y
    → t y ≡ true → ⊥
nowhere t i j [] y is there passes = cc
nowhere t i j (x ∷ xs) y is there passes = nowhere_by t i j x xs (t x) refl is y there passes (λ m found at_m. nowhere t (i + 1) m xs y found at_m passes)

-- The state of the search among the prefixes of a new host, after `own`.
record IsPassed (hs : List Host) (at : List Prefix) (n : ℕ) : Type 0 where
  none : (k j : ℕ) → k < n → HasPartner hs at k j → ⊥

not_passed : (hs : List Host) (at : List Prefix) (n k j : ℕ) → IsPassed hs at n → HasPartner hs at k j → n ≤ k
not_passed hs at n k j passed partner = elim (cases_lt k n) [
  | inl less ↦ absurd (passed.none k j less partner)
  | inr more ↦ more
]

found : (hs : List Host) (at own : List Prefix) (p : Prefix) (ps : List Prefix) (o item other : ℕ) → at ≡ own ++ p ∷ ps
    → IsPassed hs at (length own) → meeting (prefix_lists hs) own p ≡ Some o
    → Overlap (length own) o ≡ Overlap item other → IsFirstOverlap hs at item other
found hs at own p ps o item other whole passed met same =
    let here : slice_get at (length own) ≡ Some p = ap (λ (qs : List Prefix). slice_get qs (length own)) whole ∙ get_seam own p ps in
    let front : take (length own) at ≡ own = ap (λ (qs : List Prefix). take (length own) qs) whole ∙ take-append_seam own (p ∷ ps) in
    let lists : earlier hs at (length own) ≡ prefix_lists hs ++ own ∷ [] = ap (λ (qs : List Prefix). prefix_lists hs ++ qs ∷ []) front in
    let (n, place, one) = placed (λ qs. meets_any qs p) 0 o (prefix_lists hs ++ own ∷ []) met in
    let at_item : length own ≡ item = cc in
    let at_other : o ≡ other = cc in
    let host : slice_get (earlier hs at item) other ≡ Some one.what =
    (λ i. slice_get (earlier hs at (sym at_item i)) other) ∙ ap (λ (qs : List (List Prefix)). slice_get qs other) lists
    ∙ ap (λ (m : ℕ). slice_get (prefix_lists hs ++ own ∷ []) m) (sym at_other ∙ place ∙ omega arith) ∙ one.there in
    record {
      partner = record { prefix = p; there = ap (λ (m : ℕ). slice_get at m) (sym at_item) ∙ here; owned = one.what; host = host; meet = one.passes };
      first_place = λ k j partner. let later = not_passed hs at (length own) k j passed partner in omega (arith, later, at_item);
      first_host = λ j partner.
          let same_prefix : partner.prefix ≡ p = some_same partner.prefix p (sym partner.there ∙ ap (λ (m : ℕ). slice_get at m) (sym at_item) ∙ here) in
          let at_j : slice_get (prefix_lists hs ++ own ∷ []) j ≡ Some partner.owned =
          sym (ap (λ (qs : List (List Prefix)). slice_get qs j) lists) ∙ ap (λ (m : ℕ). slice_get (earlier hs at m) j) at_item ∙ partner.host in
          let meets : meets_any partner.owned p ≡ true = ap (meets_any partner.owned) (sym same_prefix) ∙ partner.meet in
          let first = least (λ qs. meets_any qs p) 0 o j (prefix_lists hs ++ own ∷ []) partner.owned met at_j meets in
          omega (arith, first, at_other);
    }

one_more_passed : (hs : List Host) (at own : List Prefix) (p : Prefix) (ps : List Prefix) → at ≡ own ++ p ∷ ps
    → IsPassed hs at (length own) → meeting (prefix_lists hs) own p ≡ None → IsPassed hs at (length (own ++ p ∷ []))
one_more_passed hs at own p ps whole passed none =
    let here : slice_get at (length own) ≡ Some p = ap (λ (qs : List Prefix). slice_get qs (length own)) whole ∙ get_seam own p ps in
    let front : take (length own) at ≡ own = ap (λ (qs : List Prefix). take (length own) qs) whole ∙ take-append_seam own (p ∷ ps) in
    let lists : earlier hs at (length own) ≡ prefix_lists hs ++ own ∷ [] = ap (λ (qs : List Prefix). prefix_lists hs ++ qs ∷ []) front in
    record {
      none = λ k j below partner. elim (cases_lt k (length own)) [
        | inl less ↦ passed.none k j less partner
        | inr more ↦
            let last : k ≡ length own = omega (arith, below, length-append own (p ∷ [])) in
            let same_prefix : partner.prefix ≡ p = some_same partner.prefix p (sym partner.there ∙ ap (λ (m : ℕ). slice_get at m) last ∙ here) in
            let at_j : slice_get (prefix_lists hs ++ own ∷ []) j ≡ Some partner.owned =
            sym (ap (λ (qs : List (List Prefix)). slice_get qs j) lists) ∙ ap (λ (m : ℕ). slice_get (earlier hs at m) j) (sym last) ∙ partner.host in
            nowhere (λ qs. meets_any qs p) 0 j (prefix_lists hs ++ own ∷ []) partner.owned none at_j (ap (meets_any partner.owned) (sym same_prefix) ∙ partner.meet)
      ];
    }

told_by : (hs : List Host) (at own : List Prefix) (p : Prefix) (ps : List Prefix) (item other : ℕ) (m : Option ℕ) → at ≡ own ++ p ∷ ps
    → IsPassed hs at (length own) → meeting (prefix_lists hs) own p ≡ m
    → option_or (option_map (λ o. Overlap (length own) o) m) (overlap_from (prefix_lists hs) (own ++ p ∷ []) ps) ≡ Some (Overlap item other)
    → (at ≡ (own ++ p ∷ []) ++ ps → IsPassed hs at (length (own ++ p ∷ [])) → overlap_from (prefix_lists hs) (own ++ p ∷ []) ps ≡ Some (Overlap item other) → IsFirstOverlap hs at item other)
    → IsFirstOverlap hs at item other
told_by hs at own p ps item other (Some o) whole passed met is later = found hs at own p ps o item other whole passed met (some_same (Overlap (length own) o) (Overlap item other) is)
told_by hs at own p ps item other None whole passed met is later =
    later (whole ∙ sym (append_assoc own (p ∷ []) ps)) (one_more_passed hs at own p ps whole passed met) is

told_from : (hs : List Host) (at own ps : List Prefix) (item other : ℕ) → at ≡ own ++ ps → IsPassed hs at (length own)
    → overlap_from (prefix_lists hs) own ps ≡ Some (Overlap item other) → IsFirstOverlap hs at item other
told_from hs at own [] item other whole passed is = cc
told_from hs at own (p ∷ ps) item other whole passed is =
    told_by hs at own p ps item other (meeting (prefix_lists hs) own p) whole passed refl is (λ more further last. told_from hs at (own ++ p ∷ []) ps item other more further last)

pub overlap_first : (hs : List Host) (at : List Prefix) (item other : ℕ) → overlap hs at ≡ Some (Overlap item other)
    → IsFirstOverlap hs at item other
overlap_first hs at item other is = told_from hs at [] at item other refl (record { none = λ k j below partner. absurd (omega arith) }) is

-- No other cause is reported as an overlap.
past : (o rest : Option HostRefusal) (item other : ℕ) → (o ≡ Some (Overlap item other) → ⊥)
    → option_or o rest ≡ Some (Overlap item other) → rest ≡ Some (Overlap item other)
past None rest item other not_this is = is
past (Some why) rest item other not_this is = absurd (not_this is)

too_many_apart : (b : Bool) (item other : ℕ) → some_if b TooMany ≡ Some (Overlap item other) → ⊥
too_many_apart true item other h = cc
too_many_apart false item other h = cc

bad_name_apart : (b : Bool) (item other : ℕ) → some_if b BadName ≡ Some (Overlap item other) → ⊥
bad_name_apart true item other h = cc
bad_name_apart false item other h = cc

duplicate_apart : (o : Option ℕ) (item other : ℕ) → option_map Duplicate o ≡ Some (Overlap item other) → ⊥
duplicate_apart None item other h = cc
duplicate_apart (Some n) item other h = cc

no_address_apart : (b : Bool) (item other : ℕ) → some_if b NoAddress ≡ Some (Overlap item other) → ⊥
no_address_apart true item other h = cc
no_address_apart false item other h = cc

two_rests_apart : (b : Bool) (o : Option ℕ) (item other : ℕ) → (if b then option_map TwoRests o else None) ≡ Some (Overlap item other)
    → ⊥
two_rests_apart true None item other h = cc
two_rests_apart true (Some n) item other h = cc
two_rests_apart false o item other h = cc

whole_first : (o : Option HostRefusal) → option_or o None ≡ o
whole_first None = refl
whole_first (Some why) = refl

pub overlap_told : (hs : List Host) (name : List ℕ) (at : List Prefix) (rest : Bool) (item other : ℕ)
    → refusal_of hs name at rest ≡ Some (Overlap item other) → IsFirstOverlap hs at item other
unfolding refusal_of
overlap_told hs name at rest item other is =
    let second = past (some_if (is_full hs (length at)) TooMany) _ item other (too_many_apart (is_full hs (length at)) item other) is in
    let third = past (some_if (not (is_name name)) BadName) _ item other (bad_name_apart (not (is_name name)) item other) second in
    let fourth = past (option_map Duplicate (host_named hs name)) _ item other (duplicate_apart (host_named hs name) item other) third in
    let fifth = past (some_if (has_no_address at rest) NoAddress) _ item other (no_address_apart (has_no_address at rest) item other) fourth in
    let last = past (two_rests hs rest) _ item other (two_rests_apart rest (rest_of hs) item other) fifth in
    overlap_first hs at item other (sym (whole_first (overlap hs at)) ∙ last)
