use Rattle.std.proofs.Common.{take}
use Rattle.host_net.specs.declared.packet.Packet.{Packet}
use Rattle.header_space.specs.Boxes.{IsIn, Narrows}
use Rattle.nft_space.specs.inner.First.{NoneGives}
use Rattle.nft_space.proofs.walk.first_within.Given as goal

abbrev pub invariant-loop-rule : goal.invariant-loop-rule
invariant-loop-rule l = record {
  narrows : Narrows l.fn.within l.within;
  none : (p : Packet) → IsIn l.within p → NoneGives l.state p (take l.rule-index l.rules);
}
