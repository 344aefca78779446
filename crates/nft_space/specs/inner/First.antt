-- The first verdict of rules on a packet, and rules whose maps ascend.
use Rattle.std.specs.Prelude.{List, [], ◌∷◌, Option, Some, None}
use Rattle.std.specs.List.{AllByRecursion}
use Rattle.host_net.specs.declared.packet.Packet.{Packet}
use Rattle.host_net.specs.declared.packet.CtState.{CtState}
use Rattle.nft_rules.specs.declared.table.Rule.{Rule}
use Rattle.nft_rules.specs.declared.table.Verdict.{Verdict}
use Rattle.nft_rules.specs.declared.table.Rule.TheVariants.{Map, Match}
use Rattle.nft_rules.specs.Loadable.{AscendFrom}
use Rattle.nft_rules.specs.Semantics.{Gives}

-- The verdict of the first rule that has one, or none if no rule has one.
pub data First (state : CtState) (packet : Packet) : List Rule → Option Verdict → Type 0 where
  at_end : First state packet [] None
  later : {rule : Rule} {rules : List Rule} {v : Option Verdict} → Gives state packet rule None → First state packet rules v
      → First state packet (rule ∷ rules) v
  here : {rule : Rule} {rules : List Rule} (v : Verdict) → Gives state packet rule (Some v) → First state packet (rule ∷ rules) (Some v)

-- No rule has a verdict.
abbrev pub NoneGives : CtState → Packet → List Rule → Type 0
NoneGives state packet rules = AllByRecursion (λ rule. Gives state packet rule None) rules

-- The intervals of a map are in ascending order and disjoint.
abbrev pub Ascends : Rule → Type 0
Ascends (Map m) = AscendFrom 0 m.elements.items
Ascends (Match r) = Unit {0}

abbrev pub Ascend : List Rule → Type 0
Ascend rules = AllByRecursion Ascends rules
