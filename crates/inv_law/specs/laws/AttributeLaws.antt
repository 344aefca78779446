-- A rule on attributes is lawful if its default is secure, for all attributes.
use Rattle.std.proofs.Common.{◌≡◌, ℕ, suc, zero, List, [], ◌∷◌, get_or, set, refl, sym, get_or-set_other}
use Rattle.inv_law.specs.Attributes.{PassesBetween}
use Rattle.inv_law.specs.inner.Resets.{PassesAfterReset, IsSecureDefault, ResetPassesNoMore}
use Rattle.inv_law.specs.declared.strategy.Strategy.{Strategy}
use Rattle.inv_law.specs.declared.strategy.Strategy.TheVariants.{Access, Information}

-- A host has the default after its reset.
pub get_or-set_default : {A : Type 0} (xs : List A) (i : ℕ) (d : A) → get_or (set xs i d) i d ≡ d
get_or-set_default [] i d = refl
get_or-set_default (x ∷ xs) zero d = refl
get_or-set_default (x ∷ xs) (suc i) d = get_or-set_default xs i d

pub ResetPassesNoMore-attributes : {A : Type 0} (strategy : Strategy) (default : A) (Passes : A → A → Type 0)
    → IsSecureDefault strategy default Passes → (n : ℕ) (xs : List A)
    → ResetPassesNoMore n strategy (PassesBetween default Passes xs) (PassesAfterReset default Passes xs)
ResetPassesNoMore-attributes Access default Passes secure n xs f is_flow fails passes =
    let receiver_stays = get_or-set_other xs f.from f.to default default (λ e. is_flow.2 (sym e)) in
    fails (secure _ _ (rw (get_or-set_default xs f.from default, receiver_stays) at passes))
ResetPassesNoMore-attributes Information default Passes secure n xs f is_flow fails passes =
    let sender_stays = get_or-set_other xs f.to f.from default default is_flow.2 in
    fails (secure _ _ (rw (get_or-set_default xs f.to default, sender_stays) at passes))
