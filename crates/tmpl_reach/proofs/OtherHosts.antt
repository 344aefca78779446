-- Whether a row of hosts intersects some others, apart from the row's own host.
use Rattle.std.proofs.Common.{◌≡◌, ◌≢◌, ℕ, not, nat_eq, ◌↔◌, sym, ◌∙◌, ap}
use Rattle.std.specs.Prelude.{IsTrue}
use Rattle.std.specs.FinSet as set
use Rattle.std.proofs.lemmas.Bool.{and_from, and_parts, both_ways, eq-eqb, ne_eqb, not-true, not_from_false}
use Rattle.flow_set.specs.HostSet.{HostNumbers}
use Rattle.flow_set.specs.inner.Calls.{AreApart}
use Rattle.flow_set.specs.laws.HostSetLaws.{contains-remove}

-- The row without its host is disjoint from the others if and only if none of them is in it, apart from the host.
pub apart_but : (row rest hosts : HostNumbers) (host : ℕ) (Stands : ℕ → Type 0) → ((j : ℕ) → IsTrue (set.contains row j) ↔ Stands j)
    → rest ≡ set.remove row host
    → AreApart rest hosts ↔ ((j : ℕ) → host ≢ j → IsTrue (set.contains hosts j) → Stands j → ⊥)
apart_but row rest hosts host Stands tells is = (
  λ apart j other listed stands.
      apart j (ap (λ (s : HostNumbers). set.contains s j) is ∙ contains-remove row host j ∙ and_from _ _ (not_from_false _ (ne_eqb j host (λ same. other (sym same)))) ((tells j).1 stands)) listed,
  λ none j in_rest listed.
      let parts =
      and_parts (not (nat_eq j host)) (set.contains row j)
      (sym (contains-remove row host j) ∙ sym (ap (λ (s : HostNumbers). set.contains s j) is) ∙ in_rest) in
      none j (λ same. both_ways _ (not-true _ parts.0) (eq-eqb j host (sym same))) listed ((tells j).0 parts.1),
)
