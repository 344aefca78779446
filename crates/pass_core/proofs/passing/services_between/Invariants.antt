use Rattle.std.proofs.Common.{◌-◌}
use Rattle.header_space.specs.Owners.{GoesBetween}
use Rattle.pass_core.specs.Services.{service_count}
use Rattle.pass_core.specs.inner.Numbers.{number_before}
use Rattle.pass_core.specs.inner.Sweeping.{IsSwept}
use Rattle.pass_core.proofs.passing.services_between.Given as goal

abbrev pub invariant-loop-next : goal.invariant-loop-next
invariant-loop-next g l = IsSwept (g.Q.Question.holds_of l.question) (GoesBetween l.from l.to) l.ranges.items (number_before l.next)

abbrev pub decreases-loop-next : goal.decreases-loop-next
decreases-loop-next g l = service_count - number_before l.next
