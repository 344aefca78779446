use Rattle.std.proofs.Common.{◌≡◌, ◌+◌, map, drop}
use Rattle.desc_core.specs.UseConditions.{duplicate_assign_of}
use Rattle.text_core.specs.FirstMatch.{first_found, numbered_from}
use Rattle.desc_form.specs.inner.RawView.{invariant_view}
use Rattle.desc_core.proofs.names.duplicate_assign.Given as goal

abbrev pub invariant-loop-index : goal.invariant-loop-index
invariant-loop-index l = record {
  same : first_found duplicate_assign_of (numbered_from (l.index + 1) (map invariant_view (drop l.index l.invariants))) ≡ first_found duplicate_assign_of (numbered_from 1 (map invariant_view l.invariants));
}
