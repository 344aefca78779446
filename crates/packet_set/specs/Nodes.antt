-- Decision diagrams: a list of nodes, each of which leads to earlier nodes.
use Rattle.std.specs.Prelude.{ℕ, zero, suc, ◌<◌, ◌≤◌, ◌==◌, nat_le, nat_lt, Bool, if◌then◌else◌, List, length, slice_index_or}
use Rattle.host_net.specs.declared.packet.Packet.{Packet}
use Rattle.packet_set.specs.declared.field.Field.{Field}
use Rattle.packet_set.specs.declared.field.Field.TheVariants.{Proto, Dport, Src, Dst, Sport}
use Rattle.packet_set.specs.declared.node.Node.{Node}

-- The number in a field of a packet.
abbrev pub number_of : Field → Packet → ℕ
number_of Src p = p.src
number_of Dst p = p.dst
number_of Proto p = p.proto
number_of Sport p = p.sport
number_of Dport p = p.dport

-- The place of a field in the order of the fields.
abbrev pub rank_of : Field → ℕ
rank_of Proto = 0
rank_of Dport = 1
rank_of Src = 2
rank_of Dst = 3
rank_of Sport = 4

-- The node at the numbers of the empty set and of the set of all packets, which need none. It has no meaning.
abbrev pub no_node : Node
no_node = record { field = Proto; last = 0; low = 0; high = 0 }

-- The node of the set.
abbrev pub node_at : List Node → ℕ → Node
node_at nodes set = slice_index_or nodes set no_node

-- The set to which a node leads a packet.
abbrev pub next_of : Node → Packet → ℕ
next_of node p = if nat_le (number_of node.field p) node.last then node.low else node.high

-- Set 0 is empty, and set 1 has every packet. Another set has a packet if the set to which its node leads the packet has it. The first
-- number bounds the number of nodes that are followed.
unfoldable pub has_by : ℕ → List Node → ℕ → Packet → Bool
has_by zero nodes set p = set == 1
has_by (suc n) nodes set p = if nat_lt set 2 then set == 1 else has_by n nodes (next_of (node_at nodes set) p) p

-- The set has the packet. Its number bounds the nodes that are followed, because each node leads to a lower number.
abbrev pub has : List Node → ℕ → Packet → Bool
has nodes set p = has_by set nodes set p

-- The maximum number of nodes.
abbrev pub node_limit : ℕ
node_limit = 1048576

-- There are sets 0 and 1, and the node of each other set leads to sets with lower numbers.
pub record AreNodes (nodes : List Node) : Type 0 where
  pub some : 2 ≤ length nodes
  pub low : (set : ℕ) → 2 ≤ set → set < length nodes → (node_at nodes set).low < set
  pub high : (set : ℕ) → 2 ≤ set → set < length nodes → (node_at nodes set).high < set
