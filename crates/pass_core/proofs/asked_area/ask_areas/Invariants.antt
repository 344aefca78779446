use Rattle.std.proofs.Common.{◌≡◌, map, take}
use Rattle.std.specs.List.{All}
use Rattle.pass_core.specs.inner.Asking.{IsAsked, part_or}
use Rattle.pass_core.proofs.asked_area.ask_areas.Given as goal

abbrev pub invariant-loop-area : goal.invariant-loop-area
invariant-loop-area g l = record {
  areas : map (λ a. a.area) l.asked.items ≡ take l.area-index l.areas;
  asked : All (λ a. IsAsked (g.Q.Question.holds_of l.question) a.area (g.Q.Question.holds_of (part_or l.question a.part))) l.asked.items;
}
