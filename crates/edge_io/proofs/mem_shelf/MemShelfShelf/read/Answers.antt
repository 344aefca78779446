use Rattle.std.proofs.Common.{Some, sym, ap}
use Rattle.edge_io.specs.inner.MemShelf.{Shelved}
use Rattle.edge_io.proofs.Reading.{front_moved}
use Rattle.edge_io.proofs.mem_shelf.MemShelfShelf.read.Goals as goal

-- The unread bytes before are the bytes that were moved, followed by the unread bytes now.
pub returns-clause-moved : goal.returns-clause-moved
returns-clause-moved c =
    ap Some
    (front_moved c.self.inside.stored.items c.deref.result.now c.self.inside.begun c.unwrap-begun.result _ c.bytes_left.result.now _ _
    (sym (ap (λ (shelf : Shelved). shelf.left) c.self.view_is)) c.unwrap-begun.ensures c.bytes_left.ensures.left c.deref.ensures.value c.move_front-count.ensures.moved)
