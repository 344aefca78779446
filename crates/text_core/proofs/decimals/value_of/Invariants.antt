use Rattle.std.proofs.Common.{◌≡◌, ◌≤◌, drop}
use Rattle.text_core.specs.inner.DecimalSteps.{bounded_value}
use Rattle.text_core.proofs.decimals.value_of.Given as goal

abbrev pub invariant-loop-byte : goal.invariant-loop-byte
invariant-loop-byte l = record {
  bounded : l.value ≤ l.most;
  whole : bounded_value l.most l.value (drop l.byte-index l.digits) ≡ bounded_value l.most 0 l.digits;
}
