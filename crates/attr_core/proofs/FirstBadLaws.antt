-- If the bad assigns are those that specify nothing, the first that specifies nothing is the first bad one.
use Rattle.std.proofs.Common.{◌≡◌, ◌↔◌, ◌⊎◌, inl, inr, ℕ, zero, suc, Bool, true, false, List, [], ◌∷◌, ◌++◌, append_assoc, append-nil, length, take, slice_get, Option, Some, None, is_some, refl, sym, ap, ◌∙◌, subst, arith}
use Rattle.std.proofs.Math.Seq.{take-append_seam}
use Rattle.std.proofs.lemmas.List.{take-append-le}
use Rattle.std.proofs.lemmas.Option.{slice_get_within}
use Rattle.std.specs.Prelude.{if◌then◌else◌, IsSomeAnd}
use Rattle.attr_core.specs.Assigns.{Given}
use Rattle.attr_core.specs.inner.FirstBad.{IsFirstBad, NoneIsBad, IsFirstBadOrNone}
use Rattle.attr_core.specs.Forms.{bad_from}

-- One more that specifies something.
passed_by : (b : Bool) (n : ℕ) (now later : Option ℕ) → (if b then now else Some n) ≡ None → (now ≡ None → later ≡ None)
    → (if b then later else Some n) ≡ None
passed_by true n now later is more = more is
passed_by false n now later is more = cc

one_said : {A : Type 0} (o : Option A) (n : ℕ) → is_some o ≡ true → (if is_some o then None else Some n) ≡ None
one_said None n some = cc
one_said (Some x) n some = refl

bad_from_more : {A : Type 0} (says : List Given → Given → Option A) (earlier rest : List Given) (a : Given)
    → bad_from says earlier rest ≡ None
    → is_some (says (earlier ++ rest) a) ≡ true → bad_from says earlier (rest ++ a ∷ []) ≡ None
bad_from_more says earlier [] a none said =
    one_said (says earlier a) (length earlier) (ap (λ all. is_some (says all a)) (sym (append-nil earlier)) ∙ said)
bad_from_more says earlier (b ∷ rest) a none said =
    passed_by (is_some (says earlier b)) (length earlier) (bad_from says (earlier ++ b ∷ []) rest) (bad_from says (earlier ++ b ∷ []) (rest ++ a ∷ [])) none
    (λ later. bad_from_more says (earlier ++ b ∷ []) rest a later (ap (λ all. is_some (says all a)) (append_assoc earlier (b ∷ []) rest) ∙ said))

-- One more that is not bad.
got_back : {A : Type 0} (xs : List A) (x y : A) (k : ℕ) → slice_get (xs ++ x ∷ []) k ≡ Some y
    → (slice_get xs k ≡ Some y) ⊎ ((k ≡ length xs) × (x ≡ y))
got_back [] x y zero there = inr (refl, cc)
got_back [] x y (suc k) there = cc
got_back (z ∷ xs) x y zero there = inl there
got_back (z ∷ xs) x y (suc k) there = elim (got_back xs x y k there) [ inl h ↦ inl h | inr h ↦ inr (ap suc h.0, h.1) ]

got_next : {A : Type 0} (xs : List A) (x : A) (ys : List A) → slice_get (xs ++ x ∷ ys) (length xs) ≡ Some x
got_next [] x ys = refl
got_next (z ∷ xs) x ys = got_next xs x ys

kept_good : (IsBad : List Given → Given → Type 0) (earlier : List Given) (a b : Given) (k : ℕ) → NoneIsBad IsBad earlier
    → (IsBad earlier a → ⊥)
    → (slice_get earlier k ≡ Some b) ⊎ ((k ≡ length earlier) × (a ≡ b)) → IsBad (take k (earlier ++ a ∷ [])) b → ⊥
kept_good IsBad earlier a b k none good (inl there) bad =
    none k b there (subst (λ all. IsBad all b) (take-append-le k earlier (a ∷ []) (omega (arith, slice_get_within earlier k b there))) bad)
kept_good IsBad earlier a b k none good (inr (last, same)) bad =
    let before : take k (earlier ++ a ∷ []) ≡ earlier = ap (λ n. take n (earlier ++ a ∷ [])) last ∙ take-append_seam earlier (a ∷ []) in
    good (subst (λ c. IsBad earlier c) (sym same) (subst (λ all. IsBad all b) before bad))

none_more : (IsBad : List Given → Given → Type 0) (earlier : List Given) (a : Given) → NoneIsBad IsBad earlier → (IsBad earlier a → ⊥)
    → NoneIsBad IsBad (earlier ++ a ∷ [])
none_more IsBad earlier a none good k b there bad = kept_good IsBad earlier a b k none good (got_back earlier a b k there) bad

-- The current one.
first_here : (IsBad : List Given → Given → Type 0) (earlier : List Given) (a : Given) (rest : List Given) → NoneIsBad IsBad earlier
    → IsBad earlier a
    → IsFirstBad IsBad (earlier ++ a ∷ rest) (length earlier)
first_here IsBad earlier a rest none bad =
    let before : take (length earlier) (earlier ++ a ∷ rest) ≡ earlier = take-append_seam earlier (a ∷ rest) in
    record {
      here = subst (λ o. IsSomeAnd o (λ b. IsBad (take (length earlier) (earlier ++ a ∷ rest)) b)) (sym (got_next earlier a rest))
          (subst (λ all. IsBad all a) (sym before) bad);
      before = subst (λ all. NoneIsBad IsBad all) (sym before) none;
    }

-- The bad assigns are those that specify nothing, if none before them does.
abbrev pub AreSilent : {A : Type 0} → (List Given → Given → Option A) → (List Given → Given → Type 0) → Type 0
AreSilent says IsBad = (earlier : List Given) (a : Given) → bad_from says [] earlier ≡ None → (says earlier a ≡ None) ↔ IsBad earlier a

said_good : {A : Type 0} (o : Option A) (x : A) (Bad : Type 0) → o ≡ Some x → (Bad → o ≡ None) → Bad → ⊥
said_good o x Bad is silent bad = let never : Some x ≡ None = sym is ∙ silent bad in cc

look_at : {A : Type 0} (says : List Given → Given → Option A) (IsBad : List Given → Given → Type 0) (earlier : List Given) (a : Given) (rest : List Given) (o : Option A)
    → AreSilent says IsBad → says earlier a ≡ o → bad_from says [] earlier ≡ None → NoneIsBad IsBad earlier
    → (bad_from says [] (earlier ++ a ∷ []) ≡ None → NoneIsBad IsBad (earlier ++ a ∷ [])
    → IsFirstBadOrNone IsBad ((earlier ++ a ∷ []) ++ rest) (bad_from says (earlier ++ a ∷ []) rest))
    → IsFirstBadOrNone IsBad (earlier ++ a ∷ rest) (if is_some o then bad_from says (earlier ++ a ∷ []) rest else Some (length earlier))
look_at says IsBad earlier a rest None law is none good behind = first_here IsBad earlier a rest good ((law earlier a none).0 is)
look_at says IsBad earlier a rest (Some x) law is none good behind =
    subst (λ all. IsFirstBadOrNone IsBad all (bad_from says (earlier ++ a ∷ []) rest)) (append_assoc earlier (a ∷ []) rest)
    (behind (bad_from_more says [] earlier a none (ap is_some is)) (none_more IsBad earlier a good (said_good (says earlier a) x (IsBad earlier a) is (law earlier a none).1)))

told_from : {A : Type 0} (says : List Given → Given → Option A) (IsBad : List Given → Given → Type 0) (earlier rest : List Given)
    → AreSilent says IsBad
    → bad_from says [] earlier ≡ None → NoneIsBad IsBad earlier → IsFirstBadOrNone IsBad (earlier ++ rest) (bad_from says earlier rest)
told_from says IsBad earlier [] law none good = subst (λ all. NoneIsBad IsBad all) (sym (append-nil earlier)) good
told_from says IsBad earlier (a ∷ rest) law none good =
    look_at says IsBad earlier a rest (says earlier a) law refl none good (λ still more. told_from says IsBad (earlier ++ a ∷ []) rest law still more)

pub first_told : {A : Type 0} (says : List Given → Given → Option A) (IsBad : List Given → Given → Type 0) → AreSilent says IsBad
    → (assigns : List Given)
    → IsFirstBadOrNone IsBad assigns (bad_from says [] assigns)
first_told says IsBad law assigns = told_from says IsBad [] assigns law refl (λ k a there bad. cc)
