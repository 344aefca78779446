use Rattle.std.proofs.Common.{length}
use Rattle.ofp_read.proofs.LineLaws.{IsBehind}
use Rattle.ofp_read.proofs.line.read_flow.Given as goal

abbrev pub invariant-loop-rest : goal.invariant-loop-rest
invariant-loop-rest l = IsBehind l.line l.rest l.given

abbrev pub decreases-loop-rest : goal.decreases-loop-rest
decreases-loop-rest l = length l.rest
