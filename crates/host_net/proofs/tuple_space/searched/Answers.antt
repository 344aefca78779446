use Rattle.std.proofs.Common.{arith, rules, ltb}
use Rattle.std.proofs.lemmas.Bool.Decides.{nat_tests}
use Rattle.std.proofs.lemmas.List.Sorted.{IsPartitionPoint-from_clause, IsPartitionedBy-ltb}
use Rattle.host_net.specs.inner.CoverView.{rank}
use Rattle.host_net.proofs.tuple_space.searched.Goals as goal

pub returns-clause-point : goal.returns-clause-point
returns-clause-point c = λ rises.
    let point = IsPartitionPoint-from_clause (λ k. ltb (rank k) c.args.least) _ _ c.partition_point.ensures.partitioned
    (IsPartitionedBy-ltb rank _ c.args.least rises) (λ a r q k. search rules) in (
      λ k d low high. let before = point.0 k d low high in grind (arith, nat_tests),
      λ k d low high. let behind = point.1 k d low high in grind (arith, nat_tests),
    )
