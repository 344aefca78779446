-- The fields of a text that is split where a field may begin.
use Rattle.std.proofs.Common.{◌≡◌, ◌⊎◌, inl, inr, ℕ, true, ◌<◌, List, [], ◌∷◌, ◌++◌, length, take, drop, get_or, refl, sym, ap, ◌∙◌, arith, append-nil, append_assoc}
use Rattle.std.specs.Prelude.{codes}
use Rattle.std.specs.List.{filter, slice_split, onto_first}
use Rattle.std.proofs.lemmas.List.{take-append-drop}
use Rattle.std.proofs.lemmas.List.Elements.{filter-append}
use Rattle.std.proofs.lemmas.List.Splits.{slice_split-cons_yes, slice_split-cons_no, length-slice_split}
use Rattle.text_core.proofs.StepsLaws.{bytes_same, split_bool}
use Rattle.ofp_read.specs.Grammar.{is_separator, has_bytes, fields, ends_with_separator}
use Rattle.ofp_read.specs.inner.Cut.{begins_action}

-- 1. The pieces of a text, between its separators.

-- There is a first piece.
pub some_piece : (text : List ℕ) → (first : List ℕ) × (others : List (List ℕ)) × (slice_split is_separator text ≡ first ∷ others)
some_piece text = by_pieces (slice_split is_separator text) (omega (arith, length-slice_split is_separator text))
  where
    by_pieces : (pieces : List (List ℕ)) → 0 < length pieces → (first : List ℕ) × (others : List (List ℕ)) × (pieces ≡ first ∷ others)
    by_pieces [] some = absurd (omega (arith, some))
    by_pieces (piece ∷ pieces) some = (piece, pieces, refl)

onto_both : (b : ℕ) (pieces others : List (List ℕ)) → 0 < length pieces → onto_first b (pieces ++ others) ≡ onto_first b pieces ++ others
onto_both b [] others some = absurd (omega (arith, some))
onto_both b (piece ∷ pieces) others some = refl

split_both : (front : List ℕ) (s : ℕ) (rest : List ℕ) → is_separator s ≡ true
    → slice_split is_separator (front ++ s ∷ rest) ≡ slice_split is_separator front ++ slice_split is_separator rest
split_both [] s rest is = slice_split-cons_yes is_separator s rest is
split_both (b ∷ bs) s rest is = split_bool (is_separator b)
    (λ ends. slice_split-cons_yes is_separator b (bs ++ s ∷ rest) ends ∙ ap (λ pieces. [] ∷ pieces) (split_both bs s rest is)
    ∙ ap (λ pieces. pieces ++ slice_split is_separator rest) (sym (slice_split-cons_yes is_separator b bs ends)))
    (λ within. slice_split-cons_no is_separator b (bs ++ s ∷ rest) within ∙ ap (onto_first b) (split_both bs s rest is)
    ∙ onto_both b (slice_split is_separator bs) (slice_split is_separator rest) (omega (arith, length-slice_split is_separator bs))
    ∙ ap (λ pieces. pieces ++ slice_split is_separator rest) (sym (slice_split-cons_no is_separator b bs within)))

pub fields_both : (front : List ℕ) (s : ℕ) (rest : List ℕ) → is_separator s ≡ true → fields (front ++ s ∷ rest) ≡ fields front ++ fields rest
fields_both front s rest is =
    ap (filter has_bytes) (split_both front s rest is) ∙ filter-append has_bytes (slice_split is_separator front) (slice_split is_separator rest)

pub fields_ended : (front : List ℕ) (s : ℕ) → is_separator s ≡ true → fields (front ++ s ∷ []) ≡ fields front
fields_ended front s is = fields_both front s [] is ∙ append-nil (fields front)

-- 2. A text after which a field may begin.

last_separates : (b : ℕ) (bs : List ℕ) → ends_with_separator (b ∷ bs) ≡ true
    → (front : List ℕ) × (s : ℕ) × (b ∷ bs ≡ front ++ s ∷ []) × (is_separator s ≡ true)
last_separates b [] apart = ([], b, refl, apart)
last_separates b (c ∷ cs) apart = let last = last_separates c cs apart in (b ∷ last.0, last.1, ap (λ xs. b ∷ xs) last.2, last.3)

pub separator_last : (front : List ℕ) (s : ℕ) → is_separator s ≡ true → ends_with_separator (front ++ s ∷ []) ≡ true
separator_last [] s is = is
separator_last (b ∷ []) s is = is
separator_last (b ∷ c ∷ cs) s is = separator_last (c ∷ cs) s is

-- Its fields, and those of the rest.
pub fields_apart : (front rest : List ℕ) → ends_with_separator front ≡ true → fields (front ++ rest) ≡ fields front ++ fields rest
fields_apart [] rest apart = refl
fields_apart (b ∷ bs) rest apart =
    let last = last_separates b bs apart in
    ap (λ xs. fields (xs ++ rest)) last.2 ∙ ap fields (append_assoc last.0 (last.1 ∷ []) rest) ∙ fields_both last.0 last.1 rest last.3
    ∙ ap (λ fs. fs ++ fields rest) (sym (ap fields last.2 ∙ fields_ended last.0 last.1 last.3))

-- 3. A text that begins like an action: so does its first field.

pub action_begins : (text : List ℕ) → begins_action text ≡ true → text ≡ codes "actions=" ++ drop 8 text
action_begins text begins =
    sym (take-append-drop 8 text) ∙ ap (λ front. front ++ drop 8 text) (bytes_same (take 8 text) (codes "actions=") begins)

pub action_first : (text : List ℕ) → begins_action text ≡ true
    → (action : List ℕ) × (others : List (List ℕ)) × (fields text ≡ action ∷ others) × (begins_action action ≡ true)
action_first text begins =
    let piece = some_piece (drop 8 text) in (
      codes "actions=" ++ piece.0,
      filter has_bytes piece.1,
      ap fields (action_begins text begins) ∙ ap (λ pieces. filter has_bytes (by_bytes pieces)) piece.2,
      refl,
    )
  where
    by_bytes : List (List ℕ) → List (List ℕ)
    by_bytes pieces =
        onto_first 97 (onto_first 99 (onto_first 116 (onto_first 105 (onto_first 111 (onto_first 110 (onto_first 115 (onto_first 61 pieces)))))))

-- 4. The rest begins like an action: it is the same wherever the text is split after the same fields.

-- One of two prefixes of a list is a prefix of the other.
pub prefixes : {A : Type 0} (front rest other more : List A) → front ++ rest ≡ other ++ more
    → ((between : List A) × (other ≡ front ++ between) × (rest ≡ between ++ more))
    ⊎ ((between : List A) × (front ≡ other ++ between) × (more ≡ between ++ rest))
prefixes [] rest other more same = inl (other, refl, same)
prefixes (a ∷ front) rest [] more same = inr (a ∷ front, refl, sym same)
prefixes {A} (a ∷ front) rest (b ∷ other) more same =
    let first : a ≡ b = cc in
    let others : front ++ rest ≡ other ++ more = cc in
    elim (prefixes front rest other more others) [
      | inl longer ↦ inl (longer.0, (λ i. sym first i ∷ longer.1 i), longer.2)
      | inr shorter ↦ inr (shorter.0, (λ i. first i ∷ shorter.1 i), shorter.2)
    ]

nothing_more : (fs gs : List (List ℕ)) → fs ++ gs ≡ fs → gs ≡ []
nothing_more [] gs same = same
nothing_more (f ∷ fs) gs same = let others : fs ++ gs ≡ fs = cc in nothing_more fs gs others

no_fields : (between more : List ℕ) → begins_action (between ++ more) ≡ true → fields between ≡ [] → between ≡ []
no_fields [] more begins none = refl
no_fields (b ∷ bs) more begins none =
    let starts : take 8 (b ∷ (bs ++ more)) ≡ codes "actions=" = bytes_same (take 8 (b ∷ (bs ++ more))) (codes "actions=") begins in
    let first : b ≡ 97 = ap (λ xs. get_or xs 0 0) starts in
    let piece = some_piece bs in
    let some : fields (b ∷ bs) ≡ (b ∷ piece.0) ∷ filter has_bytes piece.1 = ap (filter has_bytes)
    (slice_split-cons_no is_separator b bs (ap is_separator first) ∙ ap (onto_first b) piece.2) in
    let clash = sym none ∙ some in cc

nothing_between : (front between rest more : List ℕ) → ends_with_separator front ≡ true → fields (front ++ between) ≡ fields front
    → begins_action rest ≡ true → rest ≡ between ++ more → rest ≡ more
nothing_between front between rest more apart same begins is =
    let none = nothing_more (fields front) (fields between) (sym (fields_apart front between apart) ∙ same) in
    is ∙ ap (λ xs. xs ++ more) (no_fields between more (ap begins_action (sym is) ∙ begins) none)

pub same_rest : (front rest other more : List ℕ) → front ++ rest ≡ other ++ more → ends_with_separator front ≡ true → ends_with_separator other ≡ true
    → fields front ≡ fields other → begins_action rest ≡ true → begins_action more ≡ true → rest ≡ more
same_rest front rest other more whole apart also same begins too = elim (prefixes front rest other more whole) [
  | inl longer ↦ nothing_between front longer.0 rest more apart (ap fields (sym longer.1) ∙ sym same) begins longer.2
  | inr shorter ↦ sym (nothing_between other shorter.0 more rest also (ap fields (sym shorter.1) ∙ same) too shorter.2)
]
