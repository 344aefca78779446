use Rattle.std.proofs.Common.{rules, nat_le, nat_lt}
use Rattle.std.proofs.lemmas.List.Sorted.{IsPartitionPoint-from_clause, IsPartitionedBy-leb}
use Rattle.host_net.proofs.RangesLemmas.{all_before, all_behind, firsts_rise, not_begun}
use Rattle.host_net.specs.declared.ranges.Range.{Range}
use Rattle.host_net.proofs.ranges.begun.Goals as goal

pub returns-clause-before : goal.returns-clause-before
returns-clause-before c =
    let parted = IsPartitionedBy-leb (λ (r : Range). r.first) _ c.args.addr (firsts_rise c.args.ranges.now c.requires) in
    let point = IsPartitionPoint-from_clause (λ (r : Range). nat_le r.first c.args.addr) _ _ c.partition_point.ensures.partitioned
    parted (λ a r q k. search rules) in
    all_before (λ (r : Range). nat_le r.first c.args.addr) c.args.ranges.now c.partition_point.result c.partition_point.ensures.bound
    point.0

pub returns-clause-behind : goal.returns-clause-behind
returns-clause-behind c =
    let parted = IsPartitionedBy-leb (λ (r : Range). r.first) _ c.args.addr (firsts_rise c.args.ranges.now c.requires) in
    let point = IsPartitionPoint-from_clause (λ (r : Range). nat_le r.first c.args.addr) _ _ c.partition_point.ensures.partitioned
    parted (λ a r q k. search rules) in
    all_behind (λ (r : Range). nat_le r.first c.args.addr) (λ (r : Range). nat_lt c.args.addr r.first)
    (λ r fails. not_begun c.args.addr r.first fails) c.args.ranges.now c.partition_point.result point.1
