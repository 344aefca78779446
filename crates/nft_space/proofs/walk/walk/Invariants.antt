use Rattle.std.proofs.Common.{◌≤◌, Bool, length}
use Rattle.host_net.specs.declared.packet.Packet.{Packet}
use Rattle.header_space.specs.Boxes.{IsIn, Narrows}
use Rattle.nft_rules.specs.Loadable.{AreRules}
use Rattle.nft_rules.specs.Semantics.{Decides}
use Rattle.nft_space.proofs.walk.walk.Given as goal

abbrev pub invariant-loop-verdict : goal.invariant-loop-verdict
invariant-loop-verdict l = record {
  narrows : Narrows l.fn.within l.within;
  few : l.below ≤ length l.table.chains.items;
  are : AreRules l.below l.rules;
  leads : (p : Packet) → IsIn l.within p → (passes : Bool) → Decides l.table.chains.items l.state p l.rules passes
      → Decides l.table.chains.items l.state p l.table.forward.items passes;
}

abbrev pub decreases-loop-verdict : goal.decreases-loop-verdict
decreases-loop-verdict l = l.below
