-- Sets of packets: their definition by a test, the result of an operation on two sets, and addresses in ranges.
use Rattle.std.specs.Prelude.{◌≡◌, ℕ, ◌<◌, ◌≤◌, ◌&&◌, ◌||◌, not, Bool, false, List, [], ◌∷◌, length}
use Rattle.host_net.specs.declared.packet.Packet.{Packet}
use Rattle.packet_set.specs.declared.node.Node.{Node}
use Rattle.packet_set.specs.declared.combine.Operation.{Operation}
use Rattle.packet_set.specs.declared.combine.Operation.TheVariants.{Union, Intersection, Difference}
use Rattle.header_space.specs.declared.address_range.AddressRange.{AddressRange}
use Rattle.header_space.specs.declared.header_match.FieldMatch.{FieldMatch}
use Rattle.header_space.specs.Matching.{lies_in}
use Rattle.packet_set.specs.declared.refusal.SetRefusal.{SetRefusal}
use Rattle.packet_set.specs.declared.refusal.SetRefusal.TheVariants.{TooManyNodes, Memory}
use Rattle.packet_set.specs.Nodes.{has, node_limit}

-- The sets of the old nodes remain, and each has the same packets by the new nodes.
pub record Keeps (old new : List Node) : Type 0 where
  pub longer : length old ≤ length new
  pub same : (set : ℕ) → set < length old → (p : Packet) → has new set p ≡ has old set p

-- The set has exactly the packets that the test selects.
pub record IsSet (nodes : List Node) (set : ℕ) (test : Packet → Bool) : Type 0 where
  pub there : set < length nodes
  pub exact : (p : Packet) → has nodes set p ≡ test p

-- The refusal of a set, by the nodes at that time: nodes are too many only if their number is the limit.
abbrev pub IsRefusedBy : List Node → SetRefusal → Type 0
IsRefusedBy nodes TooManyNodes = node_limit ≤ length nodes
IsRefusedBy nodes Memory = Unit {0}

-- A packet is in the result of an operation, by whether it is in each of the two sets.
abbrev pub combined : Operation → Bool → Bool → Bool
combined Union x y = x || y
combined Intersection x y = x && y
combined Difference x y = x && not y

-- The addresses of the range, as a match.
abbrev pub match_of : AddressRange → FieldMatch
match_of range = record { low = range.first; high = range.last; negated = false }

-- The number lies in one of the ranges.
abbrev pub is_among : List AddressRange → ℕ → Bool
is_among [] n = false
is_among (range ∷ ranges) n = lies_in (match_of range) n || is_among ranges n
