use Rattle.std.proofs.Common.{◌≡◌, ◌+◌, ◌++◌, map, drop}
use Rattle.std.specs.List.{flat_map}
use Rattle.text_core.specs.FirstMatch.{numbered_from}
use Rattle.desc_form.specs.inner.RawView.{invariant_view}
use Rattle.desc_form.specs.inner.NameUseView.{mention_view}
use Rattle.desc_form.specs.Mentions.{assign_names_of}
use Rattle.desc_form.proofs.name_uses.push_assign_names.Given as goal

abbrev pub invariant-loop-index : goal.invariant-loop-index
invariant-loop-index l = record {
  grown : map mention_view l.names.items ++ flat_map assign_names_of (numbered_from (l.index + 1) (map invariant_view (drop l.index l.invariants))) ≡ map mention_view l.fn.names.items ++ flat_map assign_names_of (numbered_from 1 (map invariant_view l.invariants));
}
