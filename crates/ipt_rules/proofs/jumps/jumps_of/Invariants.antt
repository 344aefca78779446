use Rattle.std.proofs.Common.{◌≡◌, take}
use Rattle.ipt_rules.specs.Loops.{jumps_of}
use Rattle.ipt_rules.proofs.jumps.jumps_of.Given as goal

abbrev pub invariant-loop-rule : goal.invariant-loop-rule
invariant-loop-rule l = l.jumps.items ≡ jumps_of (take l.rule-index l.rules)
