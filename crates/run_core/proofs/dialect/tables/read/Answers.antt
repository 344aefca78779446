use Rattle.std.proofs.Common.{ap}
use Rattle.rules_space.specs.Rules.{Chains}
use Rattle.run_core.proofs.dialect.tables.read.Goals as goal

pub returns-in-Ok : goal.returns-in-Ok
returns-in-Ok c = let read = c.in-Ok.ensures in (read.0, ap Chains read.1, read.3)
