-- Values that are copied or omitted one by one, and tables whose entries are copied.
use Rattle.std.proofs.Common.{◌≡◌, ℕ, ◌+◌, ◌<◌, ◌≤◌, Bool, true, false, cond, not, ◌||◌, List, [], ◌∷◌, ◌++◌, length, get_or, drop, map, filter, append_assoc, append-nil, arith, String, Global, string_bytes, refl, sym, ap, ◌∙◌}
use Rattle.std.proofs.lemmas.List.{drop_all, drop_more, length-map}
use Rattle.std.specs.BTreeMap.{BTreeMap}
use Rattle.std.specs.Prelude.{IfOk, MatchResult, Result, Ok, Err}
use Rattle.std.specs.List.{AllZip, list_any}
use Rattle.edit_core.specs.Edited.{others}
use Rattle.edit_core.specs.declared.fault.EditWhy.TheVariants.{Absent}
use Rattle.text_core.proofs.StepsLaws.{split_bool}
use Rattle.toml.specs.Data.{Data, string, member}
use Rattle.toml.specs.View.{members_view, table_view, view}
use Rattle.toml.specs.declared.value.Value.{Value}

abbrev Entry : Type 0
Entry = String Global × Value

-- Entries with equal keys and values.
pub entries_cloned : (es fs : List Entry) → AllZip (λ (p q : Entry). (string_bytes q.0 ≡ string_bytes p.0) × (view q.1 ≡ view p.1)) es fs
    → members_view fs ≡ members_view es
entries_cloned [] [] same = refl
entries_cloned [] (f ∷ fs) same = absurd same
entries_cloned (e ∷ es) [] same = absurd same
entries_cloned (e ∷ es) (f ∷ fs) same = λ i. member (same.0.0 i) (same.0.1 i) (entries_cloned es fs same.1 i)

-- A test of values as a test of their models.
pub any_view : (p : Data → Bool) (vs : List Value) → list_any (λ v. p (view v)) vs ≡ list_any p (map view vs)
any_view p [] = refl
any_view p (v ∷ vs) = ap (λ b. p (view v) || b) (any_view p vs)

-- Values that are built one by one.
pub made_next : (made : List Data → List Data) (piece old new : List Data) (vs : List Value) (i : ℕ) (x : Value) (whole : List Data)
    → i < length vs → x ≡ get_or vs i x
    → made (view x ∷ map view (drop (i + 1) vs)) ≡ piece ++ made (map view (drop (i + 1) vs))
    → old ++ made (map view (drop i vs)) ≡ whole → new ≡ old ++ piece → new ++ made (map view (drop (i + 1) vs)) ≡ whole
made_next made piece old new vs i x whole within is first so_far grown =
    let here : map view (drop i vs) ≡ view x ∷ map view (drop (i + 1) vs) =
    ap (map view) (drop_more vs i x within ∙ ap (λ (y : Value). y ∷ drop (i + 1) vs) (sym is)) in
    ap (λ (ds : List Data). ds ++ made (map view (drop (i + 1) vs))) grown
    ∙ append_assoc old piece (made (map view (drop (i + 1) vs)))
    ∙ ap (λ (ds : List Data). old ++ ds) (sym first ∙ ap made (sym here))
    ∙ so_far

pub made_all : (made : List Data → List Data) (old : List Data) (vs : List Value) (i : ℕ) (whole : List Data) → length vs ≤ i → made [] ≡ []
    → old ++ made (map view (drop i vs)) ≡ whole → old ≡ whole
made_all made old vs i whole past nothing so_far =
    sym (append-nil old) ∙ ap (λ (ds : List Data). old ++ ds) (sym (ap (λ (ws : List Value). made (map view ws)) (drop_all i vs past) ∙ nothing)) ∙ so_far

-- The number of elements that fail a test is at most that of all elements, and equal to it if none satisfies the test.
fewer_by : (b : Bool) (d : Data) (left ds : List Data) → length left ≤ length ds → length (cond (not b) (d ∷ left) left) ≤ length (d ∷ ds)
fewer_by true d left ds fewer = omega (arith, fewer)
fewer_by false d left ds fewer = omega (arith, fewer)

fewer : (test : Data → Bool) (ds : List Data) → length (filter (λ d. not (test d)) ds) ≤ length ds
fewer test [] = omega arith
fewer test (d ∷ ds) = fewer_by (test d) d (filter (λ d. not (test d)) ds) ds (fewer test ds)

none_by : (b rest : Bool) (d : Data) (left ds : List Data) → length left ≤ length ds → (length left ≡ length ds → rest ≡ false)
    → length (cond (not b) (d ∷ left) left) ≡ length (d ∷ ds) → (b || rest) ≡ false
none_by true rest d left ds fewer later same = absurd (omega (arith, fewer, same))
none_by false rest d left ds fewer later same = later (omega (arith, same))

none_passes : (test : Data → Bool) (ds : List Data) → length (filter (λ d. not (test d)) ds) ≡ length ds → list_any test ds ≡ false
none_passes test [] same = refl
none_passes test (d ∷ ds) same =
    none_by (test d) (list_any test ds) d (filter (λ d. not (test d)) ds) ds (fewer test ds) (none_passes test ds) same

all_by : (b rest : Bool) (d : Data) (left ds : List Data) → (rest ≡ false → left ≡ ds) → (b || rest) ≡ false → cond (not b) (d ∷ left) left ≡ d ∷ ds
all_by true rest d left ds later none = cc
all_by false rest d left ds later none = ap (λ (es : List Data). d ∷ es) (later none)

all_left : (test : Data → Bool) (ds : List Data) → list_any test ds ≡ false → filter (λ d. not (test d)) ds ≡ ds
all_left test [] none = refl
all_left test (d ∷ ds) none = all_by (test d) (list_any test ds) d (filter (λ d. not (test d)) ds) ds (all_left test ds) none

-- Values without those that satisfy a test.
pub others_absent : (test : Data → Bool) (old new : List Value) → map view new ≡ filter (λ d. not (test d)) (map view old) → length new ≡ length old
    → others test (map view old) ≡ Err Absent
others_absent test old new is same =
    rw (none_passes test (map view old) (sym (ap (λ (ds : List Data). length ds) is) ∙ length-map new view ∙ same ∙ sym (length-map old view))) refl

pub others_left : (test : Data → Bool) (old new : List Value) → map view new ≡ filter (λ d. not (test d)) (map view old) → (length new ≡ length old → ⊥)
    → others test (map view old) ≡ Ok (map view new)
others_left test old new is apart = split_bool (list_any test (map view old))
    (λ some. rw some (ap (λ (ds : List Data). Ok ds) (sym is)))
    (λ none. absurd (apart (sym (length-map new view) ∙ ap (λ (ds : List Data). length ds) (is ∙ all_left test (map view old) none) ∙ length-map old view)))

-- Strings as values.
pub texts_next : (old new : List Data) (texts : List (String Global)) (i : ℕ) (t : String Global) (whole : List Data) → i < length texts
    → t ≡ get_or texts i t → old ++ map string (map string_bytes (drop i texts)) ≡ whole → new ≡ old ++ string (string_bytes t) ∷ []
    → new ++ map string (map string_bytes (drop (i + 1) texts)) ≡ whole
texts_next old new texts i t whole within is so_far grown =
    let rest = map string (map string_bytes (drop (i + 1) texts)) in
    let here : map string (map string_bytes (drop i texts)) ≡ string (string_bytes t) ∷ rest =
    ap (λ (ts : List (String Global)). map string (map string_bytes ts)) (drop_more texts i t within ∙ ap (λ (s : String Global). s ∷ drop (i + 1) texts) (sym is)) in
    ap (λ (ds : List Data). ds ++ rest) grown ∙ append_assoc old (string (string_bytes t) ∷ []) rest ∙ ap (λ (ds : List Data). old ++ ds) (sym here) ∙ so_far

pub texts_all : (old : List Data) (texts : List (String Global)) (i : ℕ) (whole : List Data) → length texts ≤ i
    → old ++ map string (map string_bytes (drop i texts)) ≡ whole → old ≡ whole
texts_all old texts i whole past so_far =
    sym (append-nil old) ∙ ap (λ (ds : List Data). old ++ ds) (sym (ap (λ (ts : List (String Global)). map string (map string_bytes ts)) (drop_all i texts past))) ∙ so_far

pub table_cloned : {E : Type 0} (m : BTreeMap (String Global) Value) (Q : E → Type 0) (r : Result (BTreeMap (String Global) Value) E)
    → MatchResult r (λ n. AllZip (λ (p q : Entry). (string_bytes q.0 ≡ string_bytes p.0) × (view q.1 ≡ view p.1)) m.entries n.entries) Q
    → IfOk r (λ n. table_view n ≡ table_view m)
table_cloned m Q (Ok n) cloned = entries_cloned m.entries n.entries cloned
table_cloned m Q (Err e) cloned = tt
