use Rattle.std.proofs.Common.{◌≡◌, ◌+◌, ◌++◌, map, drop}
use Rattle.std.specs.Prelude.{flat_map}
use Rattle.text_core.specs.FirstMatch.{numbered_from}
use Rattle.desc_form.specs.HostConditions.{entries_of}
use Rattle.desc_form.specs.inner.RawView.{host_view}
use Rattle.desc_form.specs.inner.EntryView.{entry_view}
use Rattle.desc_form.proofs.entries.all_entries.Given as goal

abbrev pub invariant-loop-index : goal.invariant-loop-index
invariant-loop-index l = record {
  grown : map entry_view l.entries.items ++ flat_map entries_of (numbered_from (l.index + 1) (map host_view (drop l.index l.hosts))) ≡ flat_map entries_of (numbered_from 1 (map host_view l.hosts));
}
