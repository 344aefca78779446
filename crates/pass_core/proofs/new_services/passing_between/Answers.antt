use Rattle.std.proofs.Common.{subst}
use Rattle.std.specs.Prelude.{IfOk}
use Rattle.header_space.specs.Owners.{GoesBetween}
use Rattle.rules_space.specs.Rules.{AnyRules}
use Rattle.pass_core.specs.NewPackets.{LetsPass}
use Rattle.pass_core.specs.Passing.{ArePassing}
use Rattle.pass_core.proofs.new_services.passing_between.Goals as goal

pub returns : goal.returns
returns c =
    subst
    (λ (r : AnyRules). IfOk c.services-2.result (λ ranges. ArePassing (LetsPass r) (GoesBetween c.args.from.now c.args.to.now) ranges.items))
    c.whole.ensures c.services-2.ensures
