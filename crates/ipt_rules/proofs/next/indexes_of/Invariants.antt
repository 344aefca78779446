use Rattle.std.proofs.Common.{◌≡◌, ℕ, length, Some, slice_get}
use Rattle.host_net.specs.declared.tuple_space.TupleSpaceIndex.{TupleSpaceIndex}
use Rattle.host_net.specs.inner.CoverView.{IsIndexOf}
use Rattle.ipt_rules.specs.Chain.{rules_of}
use Rattle.ipt_rules.specs.inner.Next.{all_ends}
use Rattle.ipt_rules.proofs.next.indexes_of.Given as goal

abbrev pub invariant-loop-chain : goal.invariant-loop-chain
invariant-loop-chain l = record {
  counted : length l.indexes.items ≡ l.chain-index;
  each : (c : ℕ) (index : TupleSpaceIndex) → slice_get l.indexes.items c ≡ Some index → IsIndexOf (all_ends (rules_of l.chains c)) index;
}
