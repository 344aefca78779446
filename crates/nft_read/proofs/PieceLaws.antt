-- The pieces of a list between commas.
use Rattle.std.proofs.Common.{◌≡◌, ◌∙◌, ◌++◌, append_assoc, ℕ, Bool, true, false, cond, List, [], ◌∷◌, Option, Some, None, refl, sym, ap}
use Rattle.std.specs.Prelude.{nat_eq}
use Rattle.std.specs.Option.{option_map}
use Rattle.text_core.specs.inner.Pieces.{split_once}
use Rattle.text_core.proofs.PiecesLaws.{lacks, lacks_parts, split_once_front, split_once_joined}
use Rattle.nft_rules.specs.declared.table.Element.{Element}
use Rattle.nft_read.specs.inner.LineSteps.{element_of, elements_of, pieces, with_more}

pub pieces_ended : (l bs : List ℕ) → lacks 44 l ≡ true → pieces (l ++ 44 ∷ bs) ≡ l ∷ pieces bs
pieces_ended [] bs h = refl
pieces_ended (b ∷ l) bs h =
    let parts = lacks_parts 44 b l h in
    rw (parts.0, pieces_ended l bs parts.1) refl

pub pieces_whole : (l : List ℕ) → lacks 44 l ≡ true → pieces l ≡ l ∷ []
pieces_whole [] h = refl
pieces_whole (b ∷ l) h =
    let parts = lacks_parts 44 b l h in
    rw (parts.0, pieces_whole l parts.1) refl

-- ---- By splitting at the first comma

pub pieces_cut : (bs l rest : List ℕ) → split_once 44 bs ≡ Some (l, rest) → pieces bs ≡ l ∷ pieces rest
pieces_cut bs l rest cut = ap pieces (split_once_joined 44 bs l rest cut) ∙ pieces_ended l rest (split_once_front 44 bs l rest cut)

none_parts : (t : Bool) (p : List ℕ × List ℕ) (f : List ℕ × List ℕ → List ℕ × List ℕ) (r : Option (List ℕ × List ℕ)) → cond t (Some p) (option_map f r) ≡ None → (t ≡ false) × (r ≡ None)
none_parts true p f r h = cc
none_parts false p f None h = (refl, refl)
none_parts false p f (Some q) h = cc

none_lacks : (mark : ℕ) (bs : List ℕ) → split_once mark bs ≡ None → lacks mark bs ≡ true
none_lacks mark [] h = refl
none_lacks mark (b ∷ bs) h =
    let parts = none_parts (nat_eq b mark) ([], bs) (λ parts. (b ∷ parts.0, parts.1)) (split_once mark bs) h in
    rw (parts.0, none_lacks mark bs parts.1) refl

pub pieces_uncut : (bs : List ℕ) → split_once 44 bs ≡ None → pieces bs ≡ bs ∷ []
pieces_uncut bs none = pieces_whole bs (none_lacks 44 bs none)

-- ---- Elements, one after the other

more_next : (done : List Element) (e : Element) (es : Option (List Element))
    → option_map (λ xs. (done ++ e ∷ []) ++ xs) es ≡ option_map (λ xs. done ++ xs) (with_more (Some e) es)
more_next done e None = refl
more_next done e (Some es) = ap (λ xs. Some xs) (append_assoc done (e ∷ []) es)

pub more_none : (es : Option (List Element)) → with_more None es ≡ None
more_none None = refl
more_none (Some es) = refl

pub none_before : (o : Option (List Element)) → option_map (λ (es : List Element). [] ++ es) o ≡ o
none_before None = refl
none_before (Some es) = refl

-- One more element is parsed.
pub next_parsed : (done : List Element) (e : Element) (names : List (List ℕ)) (text piece more : List ℕ)
    → split_once 44 text ≡ Some (piece, more) → element_of names piece ≡ Some e
    → option_map (λ xs. (done ++ e ∷ []) ++ xs) (elements_of names (pieces more)) ≡ option_map (λ xs. done ++ xs) (elements_of names (pieces text))
next_parsed done e names text piece more cut is =
    more_next done e (elements_of names (pieces more))
    ∙ ap (λ (o : Option Element). option_map (λ xs. done ++ xs) (with_more o (elements_of names (pieces more)))) (sym is)
    ∙ ap (λ (ps : List (List ℕ)). option_map (λ xs. done ++ xs) (elements_of names ps)) (sym (pieces_cut text piece more cut))

pub last_parsed : (done : List Element) (e : Element) (names : List (List ℕ)) (text : List ℕ)
    → split_once 44 text ≡ None → element_of names text ≡ Some e
    → Some (done ++ e ∷ []) ≡ option_map (λ xs. done ++ xs) (elements_of names (pieces text))
last_parsed done e names text cut is =
    ap (λ (o : Option Element). option_map (λ xs. done ++ xs) (with_more o (Some []))) (sym is)
    ∙ ap (λ (ps : List (List ℕ)). option_map (λ xs. done ++ xs) (elements_of names ps)) (sym (pieces_uncut text cut))

pub next_bad : (done : List Element) (names : List (List ℕ)) (text piece more : List ℕ)
    → split_once 44 text ≡ Some (piece, more) → element_of names piece ≡ None → None ≡ option_map (λ xs. done ++ xs) (elements_of names (pieces text))
next_bad done names text piece more cut is =
    ap (λ (o : Option (List Element)). option_map (λ xs. done ++ xs) o) (sym (more_none (elements_of names (pieces more))))
    ∙ ap (λ (o : Option Element). option_map (λ xs. done ++ xs) (with_more o (elements_of names (pieces more)))) (sym is)
    ∙ ap (λ (ps : List (List ℕ)). option_map (λ xs. done ++ xs) (elements_of names ps)) (sym (pieces_cut text piece more cut))

pub last_bad : (done : List Element) (names : List (List ℕ)) (text : List ℕ)
    → split_once 44 text ≡ None → element_of names text ≡ None → None ≡ option_map (λ xs. done ++ xs) (elements_of names (pieces text))
last_bad done names text cut is =
    ap (λ (o : Option Element). option_map (λ xs. done ++ xs) (with_more o (Some []))) (sym is)
    ∙ ap (λ (ps : List (List ℕ)). option_map (λ xs. done ++ xs) (elements_of names ps)) (sym (pieces_uncut text cut))
