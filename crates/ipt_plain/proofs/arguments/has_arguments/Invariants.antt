use Rattle.std.proofs.Common.{◌≡◌, drop}
use Rattle.ipt_plain.specs.declared.arguments.Place.TheVariants.{Between}
use Rattle.ipt_plain.specs.inner.LineSteps.{has_arguments}
use Rattle.ipt_plain.proofs.arguments.has_arguments.Given as goal

abbrev pub invariant-loop-byte : goal.invariant-loop-byte
invariant-loop-byte l = has_arguments l.place (drop l.byte-index l.line) ≡ has_arguments Between l.line
