-- Lemmas on the places of a description: three conditions have no first place if and only if none of them holds at any place.
use Rattle.std.proofs.Common.{◌≡◌, Bool, true, false, cond, ◌||◌, List, [], ◌∷◌, ◌++◌, Some, None, Option, refl}
use Rattle.std.proofs.lemmas.Bool.{or_parts}
use Rattle.std.specs.Prelude.{find}
use Rattle.std.specs.List.{AllByRecursion}
use Rattle.desc_form.specs.Places.{Location}

-- A test of a place fails at all of them.
abbrev pub Fails : (Location → Bool) → List Location → Type 0
Fails p ss = AllByRecursion (λ s. p s ≡ false) ss

pub fails_apart : (p : Location → Bool) (ss ts : List Location) → Fails p (ss ++ ts) → Fails p ss × Fails p ts
fails_apart p [] ts all = (tt, all)
fails_apart p (s ∷ ss) ts (here, behind) = let (first, second) = fails_apart p ss ts behind in ((here, first), second)

pub fails_joined : (p : Location → Bool) (ss ts : List Location) → Fails p ss → Fails p ts → Fails p (ss ++ ts)
fails_joined p [] ts first second = second
fails_joined p (s ∷ ss) ts (here, behind) second = (here, fails_joined p ss ts behind second)

missed : {A : Type 0} (b : Bool) (x : A) (o : Option A) → cond b (Some x) o ≡ None → (b ≡ false) × (o ≡ None)
missed true x o none = cc
missed false x o none = (refl, none)

pub fails_where_none : (p q r : Location → Bool) (ss : List Location) → find p ss ≡ None → find q ss ≡ None → find r ss ≡ None
    → Fails (λ s. p s || (q s || r s)) ss
fails_where_none p q r [] no_p no_q no_r = tt
fails_where_none p q r (s ∷ ss) no_p no_q no_r =
    let (here_p, behind_p) = missed (p s) s (find p ss) no_p in
    let (here_q, behind_q) = missed (q s) s (find q ss) no_q in
    let (here_r, behind_r) = missed (r s) s (find r ss) no_r in
    (rw (here_p, here_q, here_r) refl, fails_where_none p q r ss behind_p behind_q behind_r)

pub none_where_fails : (p q r : Location → Bool) (ss : List Location) → Fails (λ s. p s || (q s || r s)) ss
    → (find p ss ≡ None) × (find q ss ≡ None) × (find r ss ≡ None)
none_where_fails p q r [] all = (refl, refl, refl)
none_where_fails p q r (s ∷ ss) (here, behind) =
    let (no_p, no_q, no_r) = none_where_fails p q r ss behind in
    let (here_p, others) = or_parts (p s) (q s || r s) here in
    let (here_q, here_r) = or_parts (q s) (r s) others in
    (rw here_p no_p, rw here_q no_q, rw here_r no_r)
