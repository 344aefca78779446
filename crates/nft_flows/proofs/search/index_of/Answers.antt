use Rattle.std.proofs.Common.{rules}
use Rattle.std.proofs.lemmas.List.Sorted.{IsPartitionPoint-from_clause}
use Rattle.ipt_rules.specs.declared.marks.Place.{Place}
use Rattle.nft_flows.specs.inner.Search.{comes_before}
use Rattle.nft_flows.proofs.SearchLaws.{parted}
use Rattle.nft_flows.proofs.search.index_of.Goals as goal

pub returns : goal.returns
returns c =
    IsPartitionPoint-from_clause (λ (x : Place). comes_before x c.args.rule) _ _ c.partition_point.ensures.partitioned
    (parted c.args.rule c.args.rules.now c.requires) (λ a r q k. search rules)
