-- A growing text.
use Rattle.std.proofs.Common.{◌≡◌, ℕ, List, ◌++◌, Result, Ok, Err, ◌∙◌, ap, append_assoc}
use Rattle.std.specs.Prelude.{OnOk}

-- Extended by two parts at once, and then by the rest.
pub grew : {A E : Type 0} (r : Result A E) (a b c x y z : List ℕ) → b ≡ a ++ (x ++ y) → OnOk r (c ≡ b ++ z) → OnOk r (c ≡ a ++ (x ++ (y ++ z)))
grew (Ok v) a b c x y z first then =
    then ∙ ap (λ (text : List ℕ). text ++ z) first ∙ append_assoc a (x ++ y) z ∙ ap (λ (text : List ℕ). a ++ text) (append_assoc x y z)
grew (Err e) a b c x y z first then = tt
