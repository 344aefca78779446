use Rattle.std.proofs.Common.{◌≡◌, false, drop}
use Rattle.ipt_read.specs.inner.ValueSteps.{quoted}
use Rattle.ipt_read.proofs.table.quoted.Given as goal

abbrev pub invariant-loop-i : goal.invariant-loop-i
invariant-loop-i l = quoted l.taken (drop l.i l.text) ≡ quoted false l.text
