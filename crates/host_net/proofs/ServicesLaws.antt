-- Lemmas on services: what adding a service changes, and what it preserves.
use Rattle.std.proofs.Common.{◌≡◌, ◌≢◌, ℕ, ◌≤◌, ◌<◌, true, false, ◌&&◌, List, [], ◌∷◌, ◌++◌, length, length-append, ◌⊎◌, refl, arith}
use Rattle.std.specs.Prelude.{IsTrue, ◌==◌}
use Rattle.std.specs.List.{list_all}
use Rattle.std.proofs.lemmas.Bool.Decides.{nat_tests}
use Rattle.text_core.proofs.ConflictLaws.{list_all-push}
use Rattle.text_core.proofs.StepsLaws.{split_bool}
use Rattle.host_net.specs.declared.service.Service.{Service}
use Rattle.host_net.specs.inner.Service.{is_service}
use Rattle.host_net.specs.Services.{RestrictedFlow, is_between, services_of, service_limit}
use Rattle.host_net.specs.inner.Services.{with_service, AreServices}

-- The flow with the same hosts is found, and others are not.
pub own_ends : (from to : ℕ) → ((from == from) && (to == to)) ≡ true
own_ends from to = grind (arith, nat_tests)

other_ends : (i j from to : ℕ) → (i ≢ from) ⊎ (j ≢ to) → ((i == from) && (j == to)) ≡ false
other_ends i j from to apart = grind (arith, nat_tests)

other_flow : (i j from to : ℕ) (n : RestrictedFlow) → ((i == from) && (j == to)) ≡ false → is_between from to n ≡ true → is_between i j n ≡ false
other_flow i j from to n apart same = grind (arith, nat_tests)

same_ends : (i j from to : ℕ) → ((i == from) && (j == to)) ≡ true → (i ≡ from) × (j ≡ to)
same_ends i j from to same = grind (arith, nat_tests)

-- The added service is the last of its flow.
pub services_of-with_service : (ns : List RestrictedFlow) (from to : ℕ) (s : Service) → services_of (with_service ns from to s) from to ≡ services_of ns from to ++ s ∷ []
services_of-with_service [] from to s = rw (own_ends from to) refl
services_of-with_service (n ∷ ns) from to s =
    split_bool (is_between from to n) (λ same. rw (same, same) refl) (λ other. rw (other, other) (services_of-with_service ns from to s))

-- Other flows are unchanged.
others_kept : (ns : List RestrictedFlow) (from to : ℕ) (s : Service) (i j : ℕ) → ((i == from) && (j == to)) ≡ false
    → services_of (with_service ns from to s) i j ≡ services_of ns i j
others_kept [] from to s i j apart = rw apart refl
others_kept (n ∷ ns) from to s i j apart =
    split_bool (is_between from to n) (λ same. let here = other_flow i j from to n apart same in rw (same, here) refl)
    (λ other. rw (other, others_kept ns from to s i j apart) refl)

pub services_of-others : (ns : List RestrictedFlow) (from to : ℕ) (s : Service) (i j : ℕ) → (i ≢ from) ⊎ (j ≢ to)
    → services_of (with_service ns from to s) i j ≡ services_of ns i j
services_of-others ns from to s i j apart = others_kept ns from to s i j (other_ends i j from to apart)

-- The services of a flow are valid if those of all flows are.
abbrev IsFewValid : List Service → Type 0
IsFewValid ss = (length ss ≤ service_limit) × IsTrue (list_all is_service ss)

few_valid : (ns : List RestrictedFlow) (from to : ℕ) (s : Service) → AreServices ns → length (services_of ns from to) < service_limit → IsTrue (is_service s)
    → (i j : ℕ) → IsFewValid (services_of (with_service ns from to s) i j)
few_valid ns from to s known room valid i j = split_bool ((i == from) && (j == to)) (λ same.
    let ends = same_ends i j from to same in
    rw (ends.0, ends.1, services_of-with_service ns from to s)
    (omega (arith, length-append (services_of ns from to) (s ∷ [])), list_all-push is_service (services_of ns from to) s (known.valid from to) valid))
    (λ other. rw (others_kept ns from to s i j other) (known.few i j, known.valid i j))

pub still_services : (ns : List RestrictedFlow) (from to : ℕ) (s : Service) → AreServices ns → length (services_of ns from to) < service_limit → IsTrue (is_service s)
    → AreServices (with_service ns from to s)
still_services ns from to s known room valid = record {
  few = λ i j. (few_valid ns from to s known room valid i j).0;
  valid = λ i j. (few_valid ns from to s known room valid i j).1;
}
