use Rattle.std.proofs.Common.{◌≡◌, ℕ, ◌+◌, ◌<◌, List, [], ◌∷◌, ◌++◌, map, take, length, get_or, sym, ap, ◌∙◌}
use Rattle.std.proofs.lemmas.List.{map-append, take_more}
use Rattle.std.proofs.lemmas.List.Elements.{All-push, All-same}
use Rattle.pass_core.specs.declared.area.Area.{Area}
use Rattle.pass_core.specs.inner.Asking.{IsAsked, part_or}
use Rattle.pass_core.proofs.asked_area.ask_areas.Goals as goal

one_more : {A : Type 0} (area : A → Area) (old new : List A) (next : A) (areas : List Area) (i : ℕ) (d : Area) → i < length areas → new ≡ old ++ next ∷ []
    → map area old ≡ take i areas → area next ≡ get_or areas i d → map area new ≡ take (i + 1) areas
one_more area old new next areas i d within items before same =
    ap (map area) items ∙ map-append area old (next ∷ []) ∙ (λ j. before j ++ same j ∷ []) ∙ sym (take_more areas i d within)

pub loop-area-preserved : goal.loop-area-preserved
loop-area-preserved g c = record {
  areas =
      one_more (λ a. a.area) c.loop-area.asked.items c.push.new.self.items c.in_ok-next.next c.args.areas.now c.loop-area.area-index _ c.loop-area-test.true
      c.in_ok-push.ensures.items c.loop-area.invariant.areas c.in_ok-next.ensures.area;
  asked =
      All-same (λ a. IsAsked (g.Q.Question.holds_of c.args.question.now) a.area (g.Q.Question.holds_of (part_or c.args.question.now a.part))) c.push.new.self.items
      (c.loop-area.asked.items ++ c.in_ok-next.next ∷ []) c.in_ok-push.ensures.items
      (All-push (λ a. IsAsked (g.Q.Question.holds_of c.args.question.now) a.area (g.Q.Question.holds_of (part_or c.args.question.now a.part)))
      c.loop-area.asked.items c.in_ok-next.next c.loop-area.invariant.asked c.in_ok-next.ensures.asked);
}
