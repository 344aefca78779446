-- The chains of a machine: those of a table, and five more.
use Rattle.std.specs.Prelude.{ℕ, List, length, codes}
use Rattle.host_net.specs.Host.{Host}
use Rattle.emit_core.specs.declared.direction.Direction.TheVariants.{Outbound, Inbound}
use Rattle.nft_rules.specs.declared.table.Chain.{Chain}
use Rattle.nft_rules.specs.declared.table.Rule.{Rule}
use Rattle.nft_local.specs.inner.Entries.{AddsChain, AddsSide}

-- The name of the chain that has the rules of the base chain of the table.
abbrev pub flows_name : List ℕ
flows_name = codes "flows_all"

-- A chain with the rules `forward` is added, then the chains of outbound packets, and then those of inbound packets.
pub record IsAssembled (hosts : List Host) (h : ℕ) (old : List Chain) (forward : List Rule) (chains : List Chain) : Type 0 where
  pub one : List Chain
  pub two : List Chain
  pub flows : AddsChain flows_name forward old one
  pub out : AddsSide hosts h Outbound (length old) one two
  pub into : AddsSide hosts h Inbound (length old) two chains
