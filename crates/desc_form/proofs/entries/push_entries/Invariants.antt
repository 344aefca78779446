use Rattle.std.proofs.Common.{◌≡◌, ◌+◌, ◌++◌, map, drop, Bor, List, ℕ}
use Rattle.text_core.specs.FirstMatch.{numbered_from}
use Rattle.desc_form.specs.inner.EntryView.{entries_at, entry_at, entry_view}
use Rattle.desc_form.proofs.entries.push_entries.Given as goal

abbrev pub invariant-loop-index : goal.invariant-loop-index
invariant-loop-index l = record {
  grown : map entry_view l.entries.items ++ map (entry_at l.host) (numbered_from (l.index + 1) (map (λ (text : Bor (List ℕ)). text.now) (drop l.index l.texts)))
      ≡ map entry_view l.fn.entries.items ++ entries_at l.host (map (λ (text : Bor (List ℕ)). text.now) l.texts);
}
