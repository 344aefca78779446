use Rattle.std.proofs.Common.{◌≡◌, ℕ, List, [], ◌∷◌, map, refl, ap}
use Rattle.std.proofs.lemmas.List.Elements.{All-map}
use Rattle.ipt_rules.specs.declared.marks.Place.{Place}
use Rattle.decide_core.specs.inner.Marked.{entry_at}
use Rattle.decide_core.proofs.dead.dead_entry_places.Goals as goal

numbers : (entries : List ℕ) → map (λ (place : Place). place.rule) (map entry_at entries) ≡ entries
numbers [] = refl
numbers (n ∷ entries) = ap (λ (l : List ℕ). n ∷ l) (numbers entries)

pub returns-clause-chain : goal.returns-clause-chain
returns-clause-chain c =
    rw c.in_ok-places.ensures (All-map (λ (place : Place). place.chain ≡ 0) entry_at c.deref.result.now (λ k d within. refl))

pub returns-clause-dead : goal.returns-clause-dead
returns-clause-dead c = rw (c.in_ok-places.ensures, numbers c.deref.result.now, c.deref.ensures.value) c.in_ok-entries.ensures
