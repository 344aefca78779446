-- The bytes read so far are in `bytes`, before the unread ones, and are within the limit.
use Rattle.std.proofs.Common.{◌≡◌, ◌≤◌, ◌-◌, IsTrue, vec_len}
use Rattle.std.specs.Io.KnownBytes.{prepend_known}
use Rattle.edge_io.specs.Failures.{ShelfCountsOnlyFailures}
use Rattle.edge_io.proofs.take.take_rest.Given as goal

abbrev pub invariant-loop-bytes : goal.invariant-loop-bytes
invariant-loop-bytes g l = record {
  files_unchanged : g.H.Shelf.files l.shelf ≡ g.H.Shelf.files l.fn.shelf;
  opens_unchanged : g.H.Shelf.begins l.shelf ≡ g.H.Shelf.begins l.fn.shelf;
  faults_monotone : g.H.Shelf.faults l.fn.shelf ≤ g.H.Shelf.faults l.shelf;
  no_fault : ShelfCountsOnlyFailures g.H.Shelf → g.H.Shelf.faults l.shelf ≡ g.H.Shelf.faults l.fn.shelf;
  begun : IsTrue (g.H.Shelf.begun l.shelf);
  count : vec_len l.bytes ≡ g.H.Shelf.taken l.shelf;
  within : vec_len l.bytes ≤ l.limit;
  moved : g.H.Shelf.left l.fn.shelf ≡ prepend_known l.bytes.items (g.H.Shelf.left l.shelf);
}

abbrev pub decreases-loop-bytes : goal.decreases-loop-bytes
decreases-loop-bytes g l = l.limit - vec_len l.bytes
