use Rattle.std.proofs.Common.{◌≡◌, ◌++◌, List, Ok, drop, map, take}
use Rattle.edit_core.specs.inner.Kept.{table_of}
use Rattle.edit_core.specs.Runs.{AreSummaries, after_edits}
use Rattle.edit_core.specs.declared.summary.Summary.{Summary}
use Rattle.edit_core.specs.inner.EditView.{edit_view}
use Rattle.edit_core.proofs.session.Session.apply_all.Given as goal

-- The remaining edits lead from here to where all edits lead from the start, and their summaries follow those so far.
abbrev pub invariant-loop-edit : goal.invariant-loop-edit
invariant-loop-edit l = record {
  led : after_edits (map edit_view (take l.edit-index l.edits)) (table_of l.fn.self) ≡ Ok (table_of l.self);
  rest : after_edits (map edit_view (drop l.edit-index l.edits)) (table_of l.self) ≡ after_edits (map edit_view l.edits) (table_of l.fn.self);
  told : (ss : List Summary) → AreSummaries (map edit_view (drop l.edit-index l.edits)) (table_of l.self) ss → AreSummaries (map edit_view l.edits) (table_of l.fn.self) (l.told.items ++ ss);
}
