-- Laws of dead rules: the dead rules of a rule set are determined.
use Rattle.std.proofs.Common.{◌≡◌, ℕ, ◌<◌, suc, List, [], ◌∷◌, map, refl, sym, ◌∙◌, arith}
use Rattle.std.specs.List.{All}
use Rattle.std.proofs.lemmas.List.Kept.{AllPairs-from_increasing}
use Rattle.ipt_rules.specs.declared.marks.Place.{Place}
use Rattle.rules_space.specs.Rules.{Chains, Entries, AnyRules}
use Rattle.pass_core.specs.Dead.{is_listed}
use Rattle.decide_core.specs.DeadPlaces.{AreDeadPlaces}
use Rattle.flows_json.proofs.FlowExampleLaws.{both_bools, places_are_one}
use Rattle.range_json.proofs.OrderLaws.{one_order}

-- Places of one chain are equal if their rules are.
one_chain : (ps qs : List Place) → All (λ p. p.chain ≡ 0) ps → All (λ p. p.chain ≡ 0) qs → map (λ p. p.rule) ps ≡ map (λ p. p.rule) qs → ps ≡ qs
one_chain [] [] one other same = refl
one_chain [] (q ∷ qs) one other same = cc same
one_chain (p ∷ ps) [] one other same = cc same
one_chain (p ∷ ps) (q ∷ qs) one other same =
    let chains : p.chain ≡ q.chain = one 0 p (omega arith) ∙ sym (other 0 q (omega arith)) in
    let rules : p.rule ≡ q.rule = cc same in
    let later : map (λ x. x.rule) ps ≡ map (λ x. x.rule) qs = cc same in
    let rest = one_chain ps qs (λ k d low. one (suc k) d (omega (arith, low))) (λ k d low. other (suc k) d (omega (arith, low))) later in
    λ i. record { chain = chains i; rule = rules i } ∷ rest i

not_back : (x y : ℕ) → x < y → y < x → ⊥
not_back x y low high = omega (arith, low, high)

pub dead_are_one : (rules : AnyRules) (ps qs : List Place) → AreDeadPlaces rules ps → AreDeadPlaces rules qs → ps ≡ qs
dead_are_one (Chains chains) ps qs one other =
    places_are_one ps qs one.ascending other.ascending
    (λ x. both_bools (is_listed ps x) (is_listed qs x) (λ there. (other.exact x).1 ((one.exact x).0 there)) (λ there. (one.exact x).1 ((other.exact x).0 there)))
dead_are_one (Entries entries) ps qs one other =
    one_chain ps qs one.0 other.0
    (one_order (λ x y. x < y) not_back (map (λ p. p.rule) ps) (map (λ p. p.rule) qs) (AllPairs-from_increasing (map (λ p. p.rule) ps) one.1.ascending)
    (AllPairs-from_increasing (map (λ p. p.rule) qs) other.1.ascending) (λ k there. (other.1.exact k).1 ((one.1.exact k).0 there))
    (λ k there. (one.1.exact k).1 ((other.1.exact k).0 there)))
