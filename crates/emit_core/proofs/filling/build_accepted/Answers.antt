use Rattle.std.proofs.Common.{ℕ, List, Option, Some, None}
use Rattle.ipt_rules.specs.Chain.{Chain}
use Rattle.ipt_rules.specs.Loops.{IsAcyclic}
use Rattle.ipt_rules.specs.inner.Ranked.{IsRanked}
use Rattle.emit_core.proofs.filling.build_accepted.Goals as goal

-- If there is no cycle, an order is found.
no_loop_found : (chains : List Chain) (found : Option ℕ) → IsAcyclic chains → IsRanked chains found → IsRanked chains None
no_loop_found chains None acyclic ranked = ranked
no_loop_found chains (Some c) acyclic loop = absurd (acyclic c loop.back)

pub new-requires-clause-ranked : goal.new-requires-clause-ranked
new-requires-clause-ranked c = no_loop_found c.args.chains c.in_ok-_none._none c.requires.acyclic c.in_ok-_none.ensures
