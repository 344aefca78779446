-- Edits in sequence.
use Rattle.std.specs.Prelude.{if◌then◌else◌, is_err, is_ok}
use Rattle.std.specs.Result.{result_map_both}
use Rattle.std.proofs.Common.{◌≡◌, ℕ, ◌+◌, ◌<◌, ◌≤◌, Bool, false, List, [], ◌∷◌, ◌++◌, length, get_or, drop, take, map, append_assoc, append-nil, Result, Ok, Err, sym, ap, subst, ◌∙◌}
use Rattle.std.proofs.lemmas.List.{drop_all, drop_more, map-append, take-append-drop, take_more}
use Rattle.edit_core.specs.Edited.{◌>>=◌, after_edit}
use Rattle.edit_core.specs.Runs.{AreSummaries, IsRefusedFirst, StopsAt, after_edits}
use Rattle.edit_core.specs.inner.Runs.{IsCause}
use Rattle.edit_core.specs.Summaries.{IsSummary}
use Rattle.edit_core.specs.declared.fault.EditWhy.{EditWhy}
use Rattle.edit_core.specs.declared.run.EditRefusal.{EditRefusal}
use Rattle.edit_core.specs.declared.run.EditRefusal.TheVariants as refusal
use Rattle.edit_core.specs.declared.summary.Summary.{Summary}
use Rattle.edit_core.specs.Edit as meant
use Rattle.edit_core.specs.inner.EditView.{edit_view}
use Rattle.edit_core.specs.declared.edit.Edit.{Edit}
use Rattle.toml.specs.Data.{Members}

-- The result of an edit with its line.
abbrev on_line : ℕ → Result Members EditWhy → Result Members (ℕ × EditWhy)
on_line line r = result_map_both (λ next. next) (λ why. (line, why)) r

-- The remaining edits, one by one.
left : (edits : List Edit) (i : ℕ) (e : Edit) → i < length edits → e ≡ get_or edits i e
    → map edit_view (drop i edits) ≡ edit_view e ∷ map edit_view (drop (i + 1) edits)
left edits i e within is = ap (map edit_view) (drop_more edits i e within ∙ ap (λ (x : Edit). x ∷ drop (i + 1) edits) (sym is))

after_first : (e : meant.Edit) (es : List meant.Edit) (old new : Members) → after_edit e.change old ≡ Ok new → after_edits (e ∷ es) old ≡ after_edits es new
after_first e es old new made = ap (λ (r : Result Members EditWhy). on_line e.line r >>= after_edits es) made

pub rest_next : (edits : List Edit) (i : ℕ) (e : Edit) (old new : Members) (whole : Result Members (ℕ × EditWhy)) → i < length edits → e ≡ get_or edits i e
    → after_edit (edit_view e).change old ≡ Ok new → after_edits (map edit_view (drop i edits)) old ≡ whole
    → after_edits (map edit_view (drop (i + 1) edits)) new ≡ whole
rest_next edits i e old new whole within is made so_far =
    sym (ap (λ (es : List meant.Edit). after_edits es old) (left edits i e within is) ∙ after_first (edit_view e) (map edit_view (drop (i + 1) edits)) old new made)
    ∙ so_far

pub told_next : (edits : List Edit) (i : ℕ) (e : Edit) (old new first : Members) (s : Summary) (told pushed : List Summary) → i < length edits
    → e ≡ get_or edits i e → after_edit (edit_view e).change old ≡ Ok new → IsSummary new s → pushed ≡ told ++ s ∷ []
    → ((ss : List Summary) → AreSummaries (map edit_view (drop i edits)) old ss → AreSummaries (map edit_view edits) first (told ++ ss))
    → (ss : List Summary) → AreSummaries (map edit_view (drop (i + 1) edits)) new ss → AreSummaries (map edit_view edits) first (pushed ++ ss)
told_next edits i e old new first s told pushed within is made tells grown so_far ss are =
    subst (AreSummaries (map edit_view edits) first) (sym (ap (λ (ts : List Summary). ts ++ ss) grown ∙ append_assoc told (s ∷ []) ss))
    (so_far (s ∷ ss) (subst (λ (es : List meant.Edit). AreSummaries es old (s ∷ ss)) (sym (left edits i e within is)) (new, made, tells, are)))

pub all_told : (edits : List Edit) (i : ℕ) (now first : Members) (told : List Summary) → length edits ≤ i
    → ((ss : List Summary) → AreSummaries (map edit_view (drop i edits)) now ss → AreSummaries (map edit_view edits) first (told ++ ss))
    → AreSummaries (map edit_view edits) first told
all_told edits i now first told past so_far =
    subst (AreSummaries (map edit_view edits) first) (append-nil told)
    (so_far [] (subst (λ (es : List Edit). AreSummaries (map edit_view es) now []) (sym (drop_all i edits past)) tt))

refused_here : (line : ℕ) (r : Result Members EditWhy) (others : Members → Result Members (ℕ × EditWhy)) (x : ℕ × EditWhy)
    → on_line line r ≡ Err x → (on_line line r >>= others) ≡ Err x
refused_here line (Ok table) others x is = cc
refused_here line (Err why) others x is = is

pub cause_now : (edits : List Edit) (i : ℕ) (e : Edit) (old : Members) (whole : Result Members (ℕ × EditWhy)) (why : EditRefusal) → i < length edits
    → e ≡ get_or edits i e → IsCause {A = Members} (on_line (edit_view e).line (after_edit (edit_view e).change old)) why
    → after_edits (map edit_view (drop i edits)) old ≡ whole → IsCause whole why
cause_now edits i e old whole refusal.Memory within is cause so_far = tt
cause_now edits i e old whole (refusal.Refused line reason) within is cause so_far =
    sym so_far ∙ ap (λ (es : List meant.Edit). after_edits es old) (left edits i e within is)
    ∙ refused_here (edit_view e).line (after_edit (edit_view e).change old) (after_edits (map edit_view (drop (i + 1) edits))) (line, reason) cause

-- A summary that was pushed.
pub pushed_one : {T E : Type 0} (r : Result T E) (failed : Bool) (old new : List Summary) (s : Summary) → failed ≡ is_err r → failed ≡ false
    → new ≡ (if is_ok r then old ++ s ∷ [] else old) → new ≡ old ++ s ∷ []
pushed_one (Ok x) failed old new s is none grown = grown
pushed_one (Err e) failed old new s is none grown = cc

-- ---- the edit at which a run stops

then_edits : (line : ℕ) (r : Result Members EditWhy) (xs ys : List meant.Edit) (u : Members) → ((n : Members) → after_edits xs n ≡ Ok u → after_edits (xs ++ ys) n ≡ after_edits ys u)
    → (on_line line r >>= after_edits xs) ≡ Ok u → (on_line line r >>= after_edits (xs ++ ys)) ≡ after_edits ys u
then_edits line (Ok n) xs ys u later is = later n is
then_edits line (Err why) xs ys u later is = cc

after_then : (xs ys : List meant.Edit) (t u : Members) → after_edits xs t ≡ Ok u → after_edits (xs ++ ys) t ≡ after_edits ys u
after_then [] ys t u is = let same : t ≡ u = cc in ap (after_edits ys) same
after_then (e ∷ xs) ys t u is = then_edits e.line (after_edit e.change t) xs ys u (λ n h. after_then xs ys n u h) is

pub led_next : (edits : List Edit) (i : ℕ) (e : Edit) (first old new : Members) → i < length edits → e ≡ get_or edits i e
    → after_edits (map edit_view (take i edits)) first ≡ Ok old → after_edit (edit_view e).change old ≡ Ok new
    → after_edits (map edit_view (take (i + 1) edits)) first ≡ Ok new
led_next edits i e first old new within is led made =
    ap (λ (es : List Edit). after_edits (map edit_view es) first) (take_more edits i e within ∙ ap (λ (x : Edit). take i edits ++ x ∷ []) (sym is))
    ∙ ap (λ (es : List meant.Edit). after_edits es first) (map-append edit_view (take i edits) (e ∷ []))
    ∙ after_then (map edit_view (take i edits)) (edit_view e ∷ []) first old led
    ∙ after_first (edit_view e) [] old new made

refused_on : (line : ℕ) (r : Result Members EditWhy) (at : ℕ) (why : EditWhy) → on_line line r ≡ Err (at, why) → (line ≡ at) × (r ≡ Err why)
refused_on line (Ok t) at why is = cc
refused_on line (Err w) at why is =
    let same : (line, w) ≡ (at, why) = cc in
    (ap (λ (x : ℕ × EditWhy). x.0) same, ap (λ (x : ℕ × EditWhy). Err x.1) same)

all_parts : (edits : List Edit) (i : ℕ) → map edit_view edits ≡ map edit_view (take i edits) ++ map edit_view (drop i edits)
all_parts edits i = ap (map edit_view) (sym (take-append-drop i edits)) ∙ map-append edit_view (take i edits) (drop i edits)

refused_first : (edits : List Edit) (i : ℕ) (e : Edit) (old : Members) (why : EditRefusal) → i < length edits → e ≡ get_or edits i e
    → IsCause {A = Members} (on_line (edit_view e).line (after_edit (edit_view e).change old)) why → IsRefusedFirst (map edit_view (drop i edits)) old why
refused_first edits i e old refusal.Memory within is cause = tt
refused_first edits i e old (refusal.Refused line why) within is cause =
    let on = refused_on (edit_view e).line (after_edit (edit_view e).change old) line why cause in
    (edit_view e, map edit_view (drop (i + 1) edits), left edits i e within is, on.0, on.1)

pub stops_here : (edits : List Edit) (i : ℕ) (e : Edit) (first old new : Members) (why : EditRefusal) → i < length edits → e ≡ get_or edits i e
    → after_edits (map edit_view (take i edits)) first ≡ Ok old → new ≡ old
    → IsCause {A = Members} (on_line (edit_view e).line (after_edit (edit_view e).change old)) why → StopsAt (map edit_view edits) first new why
stops_here edits i e first old new why within is led kept cause = subst (λ (t : Members). StopsAt (map edit_view edits) first t why) (sym kept) (record {
  before = map edit_view (take i edits);
  rest = map edit_view (drop i edits);
  all = all_parts edits i;
  led = led;
  refused = refused_first edits i e old why within is cause;
})

-- Memory runs out after the edits up to some index.
pub stops_for_memory : (edits : List Edit) (i : ℕ) (first new : Members) → after_edits (map edit_view (take i edits)) first ≡ Ok new
    → StopsAt (map edit_view edits) first new refusal.Memory
stops_for_memory edits i first new led = record {
  before = map edit_view (take i edits);
  rest = map edit_view (drop i edits);
  all = all_parts edits i;
  led = led;
  refused = tt;
}
