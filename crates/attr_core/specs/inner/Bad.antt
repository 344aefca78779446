-- The first bad assign, if each assign is independent.
use Rattle.std.proofs.Common.{◌≡◌, ℕ, ◌+◌, List, [], ◌∷◌, ◌++◌, length, Bool, true, false, Option, Some, None, is_some, refl, ap, ◌∙◌, arith}
use Rattle.std.proofs.lemmas.List.{length-append}
use Rattle.std.specs.Prelude.{if◌then◌else◌}
use Rattle.attr_core.specs.Assigns.{Given}
use Rattle.attr_core.specs.Forms.{bad_from}

-- The first of these that fails a test, counted from k.
abbrev pub first_failing : (Given → Bool) → ℕ → List Given → Option ℕ
first_failing good k [] = None
first_failing good k (a ∷ rest) = if good a then first_failing good (k + 1) rest else Some k

next_by : (good : Bool) (n k : ℕ) (now later : Option ℕ) → n ≡ k → now ≡ later
    → (if good then now else Some n) ≡ (if good then later else Some k)
next_by true n k now later place same = same
next_by false n k now later place same = ap Some place

pub bad_alone : {A : Type 0} (says : List Given → Given → Option A) → ((earlier : List Given) (a : Given) → says earlier a ≡ says [] a)
    → (k : ℕ) (earlier rest : List Given) → length earlier ≡ k
    → bad_from says earlier rest ≡ first_failing (λ a. is_some (says [] a)) k rest
bad_alone says alone k earlier [] place = refl
bad_alone says alone k earlier (a ∷ rest) place =
    let next : length (earlier ++ a ∷ []) ≡ k + 1 = omega (arith, place, length-append earlier (a ∷ [])) in
    ap (λ o. if is_some o then bad_from says (earlier ++ a ∷ []) rest else Some (length earlier)) (alone earlier a)
    ∙ next_by (is_some (says [] a)) (length earlier) k (bad_from says (earlier ++ a ∷ []) rest) (first_failing (λ b. is_some (says [] b)) (k + 1) rest) place (bad_alone says alone (k + 1) (earlier ++ a ∷ []) rest next)
