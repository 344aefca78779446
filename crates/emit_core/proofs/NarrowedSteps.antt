-- The rules or entries for the restrictions of a flow, one for each.
use Rattle.std.proofs.Common.{◌≡◌, true, false, List, [], ◌∷◌, Option, Some, None, refl, ap, map}
use Rattle.host_net.specs.declared.service.Service.{Service}
use Rattle.host_net.specs.Service.{is_whole, service_matches}

-- A restricted flow has its services as restrictions, and an unrestricted flow has the single restriction `None`.
pub narrowings_some : (ss : List Service) → is_whole ss ≡ false → service_matches ss ≡ map (λ (t : Service). Some t) ss
narrowings_some [] some = cc
narrowings_some (s ∷ ss) some = refl

pub narrowings_none : (ss : List Service) → is_whole ss ≡ true → service_matches ss ≡ None ∷ []
narrowings_none [] none = refl
narrowings_none (s ∷ ss) none = cc

-- The rules for a restricted flow are the rules for each of its services.
each_some : {Y : Type 0} (f : Option Service → Y) (ss : List Service) → map f (map (λ t. Some t) ss) ≡ map (λ s. f (Some s)) ss
each_some f [] = refl
each_some f (s ∷ ss) = ap (λ ys. f (Some s) ∷ ys) (each_some f ss)

pub narrowed_each : {Y : Type 0} (f : Option Service → Y) (ss : List Service) → is_whole ss ≡ false → map f (service_matches ss) ≡ map (λ s. f (Some s)) ss
narrowed_each f [] whole = cc
narrowed_each f (s ∷ ss) whole = each_some f (s ∷ ss)
