-- The stored results of operations. Not visible to callers.
use Rattle.std.specs.Prelude.{ℕ, ◌<◌, List, length, slice_index_or}
use Rattle.packet_set.specs.declared.node.Node.{Node}
use Rattle.packet_set.specs.declared.combine.Operation.TheVariants.{Union}
use Rattle.packet_set.specs.declared.diagrams.Entry.{Entry}
use Rattle.packet_set.specs.Nodes.{AreNodes, has}
use Rattle.packet_set.specs.Sets.{IsSet, combined}

-- The result of an entry is right.
pub record IsRight (nodes : List Node) (e : Entry) : Type 0 where
  pub left : e.left < length nodes
  pub right : e.right < length nodes
  pub is : IsSet nodes e.set (λ p. combined e.operation (has nodes e.left p) (has nodes e.right p))

-- An entry whose result holds in all diagrams.
abbrev pub no_entry : Entry
no_entry = record { operation = Union; left = 0; right = 0; set = 0 }

-- The nodes form diagrams, and all stored results are right.
pub record AreKept (nodes : List Node) (memo : List Entry) : Type 0 where
  pub nodes_too : AreNodes nodes
  pub right : (k : ℕ) → k < length memo → IsRight nodes (slice_index_or memo k no_entry)
