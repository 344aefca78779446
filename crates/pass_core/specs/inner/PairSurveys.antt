-- Surveys by the sets of a pair that find no packet. Internal: callers use `Passing`.
use Rattle.std.specs.Prelude.{◌≡◌, ℕ, List}
use Rattle.host_net.specs.declared.packet.Packet.{Packet}
use Rattle.host_net.specs.declared.packet.CtState.TheVariants.{New}
use Rattle.header_space.specs.declared.address_range.AddressRange.{AddressRange}
use Rattle.header_space.specs.Owners.{GoesBetween}
use Rattle.ipt_rules.specs.Chain.{Chain}
use Rattle.packet_set.specs.declared.node.Node.{Node}
use Rattle.rules_set.specs.declared.pair.PairSets.{PairSets}
use Rattle.rules_set.specs.Pairs.{ArePairSets}
use Rattle.pass_core.specs.Services.{service_of}

-- If the sets are those of two sets of addresses, the service has no packets between these.
abbrev pub HasNone : List Node → PairSets → ℕ → Type 0
HasNone nodes sets n =
    (chains : List Chain) (from to : List AddressRange) → ArePairSets chains New from to nodes sets → (p : Packet) → GoesBetween from to p → service_of p ≡ n → ⊥

-- Some service has no packets between the sets of addresses.
abbrev pub HasServiceWithout : List Node → PairSets → Type 0
HasServiceWithout nodes sets = (n : ℕ) × HasNone nodes sets n
