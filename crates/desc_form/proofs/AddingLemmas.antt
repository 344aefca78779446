-- Hosts that are added from a list in order.
use Rattle.std.proofs.Common.{◌≡◌, ℕ, suc, ◌<◌, get_or, drop, drop-cons, List, ◌∷◌, ◌++◌, map, length, sym, ap, subst, ◌∙◌}
use Rattle.host_net.specs.Host.{Host}
use Rattle.host_net.specs.inner.Hosts.{IsHosts}

-- The next host is between those added so far and the remaining ones.
pub known_here : {A B : Type 0} (f : B → Host) (g : A → B) (hosts : List Host) (xs : List A) (i : ℕ) (x : A) → i < length xs → x ≡ get_or xs i x
    → hosts ++ map f (map g (drop i xs)) ≡ map f (map g xs) → IsHosts (map f (map g xs)) → IsHosts (hosts ++ f (g x) ∷ map f (map g (drop (suc i) xs)))
known_here f g hosts xs i x within e grown known =
    let next : drop i xs ≡ x ∷ drop (suc i) xs = drop-cons xs i x within ∙ ap (λ y. y ∷ drop (suc i) xs) (sym e) in
    subst IsHosts (sym grown ∙ ap (λ ys. hosts ++ map f (map g ys)) next) known
