use Rattle.std.proofs.Common.{◌≡◌, drop}
use Rattle.std.specs.Prelude.{find}
use Rattle.tmpl_table.specs.KindTable.{passes_with}
use Rattle.tmpl_table.proofs.pairs.first_pair.Given as goal

abbrev pub invariant-loop-pair : goal.invariant-loop-pair
invariant-loop-pair l =
    find (passes_with l.strategy l.denied l.kind) (drop l.pair-index l.denied) ≡ find (passes_with l.strategy l.denied l.kind) l.denied
