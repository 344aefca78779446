use Rattle.std.proofs.Common.{◌≡◌, ◌<◌, ◌≤◌, ℕ, true, false, rules, nat_lt, slice_get, subst, arith}
use Rattle.std.proofs.lemmas.Bool.Decides.{nat_tests}
use Rattle.std.proofs.lemmas.List.Sorted.{IsPartitionPoint-from_clause, IsPartitionedBy-ltb}
use Rattle.std.specs.List.Sorted.{IsPartitionPoint}
use Rattle.std.proofs.lemmas.Option.{get_or_from_slice_get, slice_get_within}
use Rattle.nft_rules.specs.declared.table.Element.{Element}
use Rattle.nft_space.proofs.IntervalLaws.{lasts_rise, for_some}
use Rattle.nft_space.proofs.interval.ended.Goals as goal

point : (c : goal.After-partition_point) → IsPartitionPoint (λ (e : Element). nat_lt e.range.last c.args.address ≡ true)
    (λ (e : Element). nat_lt e.range.last c.args.address ≡ false) c.args.elements.now c.partition_point.result
point c =
    IsPartitionPoint-from_clause (λ (e : Element). nat_lt e.range.last c.args.address) _ _ c.partition_point.ensures.partitioned
    (IsPartitionedBy-ltb (λ (e : Element). e.range.last) _ c.args.address (lasts_rise 0 c.args.elements.now c.requires)) (λ a r q k. search rules)

ends_before : (last address : ℕ) → nat_lt last address ≡ true → last < address
ends_before last address is = grind (arith, nat_tests)

ends_later : (last address : ℕ) → nat_lt last address ≡ false → address ≤ last
ends_later last address is = grind (arith, nat_tests)

pub returns-clause-before : goal.returns-clause-before
returns-clause-before c = λ k e less is.
    ends_before e.range.last c.args.address
    (subst (λ (x : Element). nat_lt x.range.last c.args.address ≡ true) (get_or_from_slice_get c.args.elements.now k e e is)
    ((point c).0 k e (omega arith) less))

pub returns-clause-next : goal.returns-clause-next
returns-clause-next c =
    for_some (slice_get c.args.elements.now c.partition_point.result) (λ (e : Element). c.args.address ≤ e.range.last)
    (λ e is.
    let within = slice_get_within c.args.elements.now c.partition_point.result e is in
    ends_later e.range.last c.args.address
    (subst (λ (x : Element). nat_lt x.range.last c.args.address ≡ false) (get_or_from_slice_get c.args.elements.now c.partition_point.result e e is)
    ((point c).1 c.partition_point.result e (omega arith) within)))
