use Rattle.std.proofs.Common.{◌≡◌, ◌<◌, drop, map}
use Rattle.pass_core.specs.inner.Surveying.{HasFound, IsUnderWay}
use Rattle.pass_core.proofs.survey.survey_areas.Given as goal

abbrev pub invariant-loop-area : goal.invariant-loop-area
invariant-loop-area g l = record {
  first : l.survey.first ≡ l.fn.first;
  way : IsUnderWay (g.Q.Question.holds_of l.question) (map (λ a. a.area) l.areas) (map (λ a. a.area) (drop l.area-index l.areas)) l.survey;
  found : 0 < l.area-index → HasFound l.survey;
}
