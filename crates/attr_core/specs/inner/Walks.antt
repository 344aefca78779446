-- The initial state and the result of an iteration over the assigns of an invariant.
use Rattle.std.proofs.Common.{◌≡◌, ℕ, zero, suc, ◌+◌, ◌∷◌, List, map, Option, Some, None, Result, Ok, Err, refl, ap}
use Rattle.std.specs.List.{range_with_len}
use Rattle.std.specs.Prelude.{replicate}
use Rattle.attr_core.specs.Forms.{Form}

-- The attributes before the first assign.
abbrev pub defaults : (form : Form) → ℕ → List form.template.Attribute
defaults form n = map (form.template.default n) (range_with_len 0 n)

-- The result of an iteration over the assigns.
abbrev pub ended : {S : Type 0} → Option ℕ → S → Result S ℕ
ended None s = Ok s
ended (Some k) s = Err k

-- The same attribute for each host.
same_from : {A : Type 0} (x : A) (start n : ℕ) → replicate n x ≡ map (λ host. x) (range_with_len start n)
same_from x start zero = refl
same_from x start (suc n) = ap (λ xs. x ∷ xs) (same_from x (start + 1) n)

pub same_everywhere : {A : Type 0} (x : A) (n : ℕ) → replicate n x ≡ map (λ host. x) (range_with_len 0 n)
same_everywhere x n = same_from x 0 n
