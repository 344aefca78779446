-- Chains that have an order have no cycle: jumps go to lower and lower positions.
use Rattle.std.proofs.Common.{◌≡◌, ℕ, ◌∙◌, sym, ap, subst, List, [], ◌∷◌, Option, Some, length, arith, inl, inr}
use Rattle.std.specs.Prelude.{Contains}
use Rattle.std.proofs.lemmas.Bool.{cases_lt}
use Rattle.std.proofs.lemmas.Option.{same_Some, slice_get_past}
use Rattle.ipt_rules.specs.declared.rule.Rule.{Rule}
use Rattle.ipt_rules.specs.Chain.{Chain, rules_of}
use Rattle.ipt_rules.specs.inner.ChainTable.{rules_in}
use Rattle.ipt_rules.specs.Loops.{jumps_of, jumps_from, LeadsAlong, IsAcyclic}
use Rattle.ipt_rules.specs.inner.Ranks.{place_of, IsBefore, IsOrder, IsTopologicalOrder}

leads_lower : (next : ℕ → List ℕ) (count : ℕ) (order : List ℕ) (places : List (Option ℕ)) → IsOrder next count order places
    → (xs : List ℕ) (c i x d : ℕ) → place_of places c ≡ Some i → LeadsAlong next c (x ∷ xs) d → IsBefore places d i
leads_lower next count order places is [] c i x d at along =
    subst (λ (n : ℕ). IsBefore places n i) along.1 (is.back i c x (is.there c i at) along.0)
leads_lower next count order places is (y ∷ ys) c i x d at along =
    let here : IsBefore places x i = is.back i c x (is.there c i at) along.0 in
    let later : IsBefore places d here.place = leads_lower next count order places is ys x here.place y d here.placed along.1 in
    record { place = later.place; placed = later.placed; before = omega (arith, later.before, here.before) }

pub no_loop_in_order : (chains : List Chain) (order : List ℕ) (places : List (Option ℕ))
    → IsTopologicalOrder (jumps_from chains) (length chains) order places → IsAcyclic chains
no_loop_in_order chains order places is c back = elim (cases_lt c (length chains)) [
  | inl low ↦
      let own : IsBefore places c (length order) = is.every c low in
      let again : IsBefore places c own.place =
      leads_lower (jumps_from chains) (length chains) order places is.ordered back.1 c own.place back.0 c own.placed back.2 in
      let same : again.place ≡ own.place = same_Some again.place own.place (sym again.placed ∙ own.placed) in
      omega (arith, again.before, same)
  | inr past ↦
      let none : rules_of chains c ≡ [] = ap rules_in (slice_get_past chains c past) in
      let found : Contains [] back.0 = subst (λ (rs : List Rule). Contains (jumps_of rs) back.0) none back.2.0 in
      omega (arith, found.1)
]
