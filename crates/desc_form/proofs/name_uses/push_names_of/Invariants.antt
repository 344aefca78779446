use Rattle.std.proofs.Common.{◌≡◌, ◌+◌, ◌++◌, map, drop}
use Rattle.text_core.specs.FirstMatch.{numbered_from}
use Rattle.desc_form.specs.inner.RawView.{assign_view}
use Rattle.desc_form.specs.inner.NameUseView.{assign_name, mention_view}
use Rattle.desc_form.proofs.name_uses.push_names_of.Given as goal

abbrev pub invariant-loop-index : goal.invariant-loop-index
invariant-loop-index l = record {
  grown : map mention_view l.names.items ++ map (assign_name l.number) (numbered_from (l.index + 1) (map assign_view (drop l.index l.assigns))) ≡ map mention_view l.fn.names.items ++ map (assign_name l.number) (numbered_from 1 (map assign_view l.assigns));
}
