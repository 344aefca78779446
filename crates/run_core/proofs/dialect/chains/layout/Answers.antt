use Rattle.std.proofs.Common.{refl}
use Rattle.run_core.proofs.dialect.chains.layout.Goals as goal

pub returns-in-Ok : goal.returns-in-Ok
returns-in-Ok c = (c.in-Ok.ensures.few, (c.in-Ok.chains, c.in-Ok.ensures.layout, refl))
