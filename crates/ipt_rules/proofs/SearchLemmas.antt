-- The search along jumps: the marked numbers are the numbers that jumps lead to.
use Rattle.std.proofs.Common.{◌≡◌, ℕ, ◌+◌, ◌<◌, ◌∙◌, ◌⊎◌, inl, inr, sym, ap, refl, Bool, true, false, cond, not, List, [], ◌∷◌, ◌++◌, Some, length, get_or, set, take, replicate, arith, subst, length-append, length-set, IsTrue, ◌↔◌}
use Rattle.std.specs.Prelude.{slice_get, Contains}
use Rattle.std.proofs.lemmas.List.{take_more}
use Rattle.std.proofs.lemmas.Bool.{cases_eq}
use Rattle.std.proofs.lemmas.Option.{slice_get_read, same_Some}
use Rattle.std.proofs.lemmas.List.Elements.{Contains-push_cases, Contains-append_left, Contains-push}
use Rattle.std.proofs.lemmas.List.Sums.{sum_by-set}
use Rattle.ipt_rules.specs.Loops.{Leads}
use Rattle.ipt_rules.specs.inner.Ranks.{IsSet, Visits}
use Rattle.ipt_rules.proofs.Gets.{get_set_same, get_set_other, get_replicate}
use Rattle.ipt_rules.proofs.LoopLemmas.{leads_once, leads_then, stays}

pub contains_none : {X : Type 0} (x : X) → Contains [] x → ⊥
contains_none x (k, low, is) = omega (arith, low)

-- One more number that was marked.
pub visits_seen : (row : List ℕ) (seen : List Bool) (left : List ℕ) (now : List Bool) (rest : List ℕ) → Visits row seen left now rest → (x : ℕ) → IsSet now x → Visits (row ++ x ∷ []) seen left now rest
visits_seen row seen left now rest is x here = record {
  long = is.long;
  measure = is.measure;
  grows = is.grows;
  marks = λ d h. elim (Contains-push_cases row x d h) [
    | inl old ↦ is.marks d old
    | inr new ↦ subst (λ (y : ℕ). IsSet now y) new here
  ];
  only = λ d h. elim (is.only d h) [ inl old ↦ inl old | inr new ↦ inr (Contains-append_left row (x ∷ []) d new.0, new.1) ];
  kept = is.kept;
  fresh = λ d h. elim (is.fresh d h) [ inl old ↦ inl old | inr new ↦ inr (Contains-append_left row (x ∷ []) d new) ];
}

-- One more number that was not marked.
pub visits_new : (row : List ℕ) (seen : List Bool) (left : List ℕ) (now : List Bool) (rest : List ℕ) → Visits row seen left now rest → (x : ℕ) → x < length now → get_or now x false ≡ false → Visits (row ++ x ∷ []) seen left (set now x true) (rest ++ x ∷ [])
visits_new row seen left now rest is x there unset = record {
  long = length-set now x true ∙ is.long;
  measure =
      let step = sum_by-set (λ b. cond (not b) 1 0) now x true false there in
      let one : ◌≡◌ {A = ℕ} (cond (not (get_or now x false)) 1 0) 1 = ap (λ (b : Bool). cond (not b) 1 0) unset in
      omega (arith, is.measure, length-append rest (x ∷ []), step, one);
  grows = λ d h. more d (is.grows d h);
  marks = λ d h. elim (Contains-push_cases row x d h) [
    | inl old ↦ more d (is.marks d old)
    | inr new ↦ subst (λ (y : ℕ). IsSet (set now x true) y) new (get_set_same now x true there)
  ];
  only = λ d h. elim (cases_eq d x) [
    | inl same ↦ inr (subst (λ (y : ℕ). Contains (row ++ x ∷ []) y × Contains (rest ++ x ∷ []) y) (sym same) (Contains-push row x, Contains-push rest x))
    | inr other ↦ elim (is.only d (sym (get_set_other now x d true other) ∙ h)) [
      | inl old ↦ inl old
      | inr new ↦ inr (Contains-append_left row (x ∷ []) d new.0, Contains-append_left rest (x ∷ []) d new.1)
    ]
  ];
  kept = λ d h. Contains-append_left rest (x ∷ []) d (is.kept d h);
  fresh = λ d h. elim (Contains-push_cases rest x d h) [
    | inl old ↦ elim (is.fresh d old) [ inl older ↦ inl older | inr new ↦ inr (Contains-append_left row (x ∷ []) d new) ]
    | inr new ↦ inr (subst (λ (y : ℕ). Contains (row ++ x ∷ []) y) new (Contains-push row x))
  ];
}
  where
    more : (d : ℕ) → IsSet now d → IsSet (set now x true) d
    more d h = elim (cases_eq d x) [
      | inl same ↦ subst (λ (y : ℕ). IsSet (set now x true) y) (sym same) (get_set_same now x true there)
      | inr other ↦ get_set_other now x d true other ∙ h
    ]

-- The marked numbers are reachable from the start, and the jumps of a marked number go to marked numbers unless the number is
-- on the work list.
pub record IsSearch (next : ℕ → List ℕ) (start : ℕ) (seen : List Bool) (left : List ℕ) : Type 0 where
  pub reached : (d : ℕ) → IsSet seen d → Leads next start d
  pub first : (d : ℕ) → Contains (next start) d → IsSet seen d
  pub closed : (d e : ℕ) → IsSet seen d → Contains (next d) e → Contains left d ⊎ IsSet seen e
  pub queued : (d : ℕ) → Contains left d → IsSet seen d

pub search_first : (next : ℕ → List ℕ) (start n : ℕ) (none : List Bool) (empty : List ℕ) (seen : List Bool) (left : List ℕ) → none ≡ replicate n false → empty ≡ [] → Visits (next start) none empty seen left → IsSearch next start seen left
search_first next start n none empty seen left unset is_empty is = record {
  reached = λ d h. elim (is.only d h) [ inl old ↦ absurd (not_yet d old) | inr new ↦ leads_once next start d new.0 ];
  first = is.marks;
  closed = λ d e h jump. elim (is.only d h) [ inl old ↦ absurd (not_yet d old) | inr new ↦ inl new.1 ];
  queued = λ d h. elim (is.fresh d h) [ inl old ↦ absurd (contains_none d (subst (λ (l : List ℕ). Contains l d) is_empty old)) | inr new ↦ is.marks d new ];
}
  where
    not_yet : (d : ℕ) → IsSet none d → ⊥
    not_yet d h = let e : false ≡ true = get_replicate n false d true (subst (λ (l : List Bool). slice_get l d ≡ Some true) unset h) in cc

pub search_more : (next : ℕ → List ℕ) (start : ℕ) (seen : List Bool) (left : List ℕ) (x : ℕ) (now : List Bool) (then : List ℕ) → IsSearch next start seen (left ++ x ∷ []) → Visits (next x) seen left now then → IsSearch next start now then
search_more next start seen left x now then is step = record {
  reached = λ d h. elim (step.only d h) [
    | inl old ↦ is.reached d old
    | inr new ↦ leads_then next start x d (is.reached x (is.queued x (Contains-push left x))) (leads_once next x d new.0)
  ];
  first = λ d h. step.grows d (is.first d h);
  closed = λ d e h jump. elim (step.only d h) [
    | inl old ↦ elim (is.closed d e old jump) [
      | inl still ↦ elim (Contains-push_cases left x d still) [
        | inl kept ↦ inl (step.kept d kept)
        | inr same ↦ inr (step.marks e (subst (λ (y : ℕ). Contains (next y) e) (sym same) jump))
      ]
      | inr marked ↦ inr (step.grows e marked)
    ]
    | inr new ↦ inl new.1
  ];
  queued = λ d h. elim (step.fresh d h) [
    | inl old ↦ step.grows d (is.queued d (Contains-append_left left (x ∷ []) d old))
    | inr new ↦ step.marks d new
  ];
}

pub search_done : (next : ℕ → List ℕ) (start : ℕ) (seen : List Bool) (left : List ℕ) → left ≡ [] → IsSearch next start seen left → (d : ℕ) → Leads next start d → IsSet seen d
search_done next start seen left empty is d walk =
    stays next (λ x. IsSet seen x)
    (λ x y h jump. elim (is.closed x y h jump) [
      | inl still ↦ absurd (contains_none x (subst (λ (l : List ℕ). Contains l x) empty still))
      | inr marked ↦ marked
    ])
    start d is.first walk

-- The marked numbers when the search is over.
pub search_says : (next : ℕ → List ℕ) (start : ℕ) (seen : List Bool) (left : List ℕ) → left ≡ [] → IsSearch next start seen left → (d : ℕ) (b : Bool) → d < length seen → b ≡ get_or seen d b → IsTrue b ↔ Leads next start d
search_says next start seen left empty is d b there read = (
  λ yes. is.reached d (slice_get_read seen (length seen) d b refl there read ∙ ap (λ (v : Bool). Some v) yes),
  λ walk. same_Some b true (sym (slice_get_read seen (length seen) d b refl there read) ∙ search_done next start seen left empty is d walk),
)

-- One more number of a row, in the form of the code.
pub row_new : (row : List ℕ) (i : ℕ) (seen : List Bool) (left : List ℕ) (now : List Bool) (rest : List ℕ) (new : List Bool) (then : List ℕ) (b : Bool) → i < length row → Visits (take i row) seen left now rest → get_or row i 0 < length now → b ≡ get_or now (get_or row i 0) b → b ≡ false → new ≡ set now (get_or row i 0) true → then ≡ rest ++ get_or row i 0 ∷ [] → Visits (take (i + 1) row) seen left new then
row_new row i seen left now rest new then b low is there read unset set_now pushed =
    let clear : get_or now (get_or row i 0) false ≡ false = sym (subst (λ (v : Bool). v ≡ get_or now (get_or row i 0) v) unset read) in
    subst (λ (r : List ℕ). Visits r seen left new then) (sym (take_more row i 0 low))
    (subst (λ (n : List Bool). Visits (take i row ++ get_or row i 0 ∷ []) seen left n then) (sym set_now)
    (subst (λ (t : List ℕ). Visits (take i row ++ get_or row i 0 ∷ []) seen left (set now (get_or row i 0) true) t) (sym pushed)
    (visits_new (take i row) seen left now rest is (get_or row i 0) there clear)))

pub row_seen : (row : List ℕ) (i : ℕ) (seen : List Bool) (left : List ℕ) (now : List Bool) (rest : List ℕ) (new : List Bool) (then : List ℕ) (b : Bool) → i < length row → Visits (take i row) seen left now rest → get_or row i 0 < length now → b ≡ get_or now (get_or row i 0) b → b ≡ true → new ≡ now → then ≡ rest → Visits (take (i + 1) row) seen left new then
row_seen row i seen left now rest new then b low is there read is_true same_now same_rest =
    let marked : IsSet now (get_or row i 0) = slice_get_read now (length now) (get_or row i 0) b refl there read ∙ ap (λ (v : Bool). Some v) is_true in
    subst (λ (r : List ℕ). Visits r seen left new then) (sym (take_more row i 0 low))
    (subst (λ (n : List Bool). Visits (take i row ++ get_or row i 0 ∷ []) seen left n then) (sym same_now)
    (subst (λ (t : List ℕ). Visits (take i row ++ get_or row i 0 ∷ []) seen left now t) (sym same_rest)
    (visits_seen (take i row) seen left now rest is (get_or row i 0) marked)))

pub no_items : (xs : List ℕ) → length xs ≡ 0 → xs ≡ []
no_items [] none = refl
no_items (x ∷ xs) none = absurd (omega (arith, none))
