use Rattle.std.proofs.Common.{◌≡◌, ◌+◌, map, drop}
use Rattle.text_core.specs.FirstMatch.{Numbered, first_found, numbered_from}
use Rattle.desc_form.specs.RawDescription.{RawInvariant}
use Rattle.desc_form.specs.inner.RawView.{invariant_view}
use Rattle.desc_form.specs.HostConditions.{bad_name}
use Rattle.desc_form.specs.Mentions.{assign_names_of}
use Rattle.desc_form.proofs.names.bad_assign_name.Given as goal

abbrev pub invariant-loop-index : goal.invariant-loop-index
invariant-loop-index l = record {
  same :
      first_found (λ (i : Numbered RawInvariant). bad_name (assign_names_of i)) (numbered_from (l.index + 1) (map invariant_view (drop l.index l.invariants)))
      ≡ first_found (λ (i : Numbered RawInvariant). bad_name (assign_names_of i)) (numbered_from 1 (map invariant_view l.invariants));
}
