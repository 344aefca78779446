-- The branches of sets at a test. Not visible to callers.
use Rattle.std.specs.Prelude.{◌≡◌, ℕ, ◌<◌, ◌≤◌, List}
use Rattle.host_net.specs.declared.packet.Packet.{Packet}
use Rattle.packet_set.specs.declared.node.Node.{Node}
use Rattle.packet_set.specs.declared.combine.Branches.{Branches}
use Rattle.packet_set.specs.declared.combine.Test.{Test}
use Rattle.packet_set.specs.Nodes.{has, node_at, number_of}

-- The node of the set has this test.
pub record HasTest (nodes : List Node) (set : ℕ) (test : Test) : Type 0 where
  pub some : 2 ≤ set
  pub field : (node_at nodes set).field ≡ test.field
  pub last : (node_at nodes set).last ≡ test.last

-- The low branch equals the set on the packets for which the test holds, the high branch on the other packets. Neither has a higher number.
pub record IsBranched (nodes : List Node) (set : ℕ) (test : Test) (b : Branches) : Type 0 where
  pub low_most : b.low ≤ set
  pub high_most : b.high ≤ set
  pub low : (p : Packet) → number_of test.field p ≤ test.last → has nodes b.low p ≡ has nodes set p
  pub high : (p : Packet) → test.last < number_of test.field p → has nodes b.high p ≡ has nodes set p

-- Both branches have lower numbers than the set.
pub record IsLess (set : ℕ) (b : Branches) : Type 0 where
  pub low : b.low < set
  pub high : b.high < set
