use Rattle.std.proofs.Common.{◌≡◌, ◌≤◌, ◌^◌, drop}
use Rattle.nft_space.specs.inner.Checks.{ascend_from}
use Rattle.nft_space.proofs.check.ascend.Given as goal

abbrev pub invariant-loop-element : goal.invariant-loop-element
invariant-loop-element l = record {
  small : l.from ≤ 2 ^ 32;
  left : ascend_from l.from (drop l.element-index l.elements) ≡ ascend_from 0 l.elements;
}
