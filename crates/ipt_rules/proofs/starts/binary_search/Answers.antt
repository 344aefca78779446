use Rattle.std.proofs.Common.{◌≡◌, ◌+◌, ◌-◌, leb, leb-true, le-leb, arith, rules, inl, inr, true, false, get_or}
use Rattle.std.proofs.lemmas.Bool.{cases_lt}
use Rattle.std.proofs.lemmas.Bool.Decides.{nat_tests}
use Rattle.std.proofs.lemmas.List.Sorted.{IsPartitionPoint-from_clause, IsPartitionedBy-leb}
use Rattle.std.specs.List.Sorted.{IsPartitionPoint}
use Rattle.ipt_rules.proofs.starts.binary_search.Goals as goal

point : (c : goal.After-partition_point) → IsPartitionPoint (λ y. leb y c.args.number ≡ true) (λ y. leb y c.args.number ≡ false) c.args.starts.now c.partition_point.result
point c =
    IsPartitionPoint-from_clause (λ y. leb y c.args.number) _ _ c.partition_point.ensures.partitioned
    (IsPartitionedBy-leb (λ y. y) _ c.args.number c.requires.rising) (λ a r q k. search rules)

-- The first start is at most the number.
pub overflow_sub-result : goal.overflow_sub-result
overflow_sub-result c = elim (cases_lt 0 c.partition_point.result) [
  | inl some ↦ omega (arith, some)
  | inr none ↦
      let behind : leb (get_or c.args.starts.now 0 0) c.args.number ≡ false = (point c).1 0 0 (omega (arith, none)) c.requires.some in
      absurd (cc (behind, le-leb _ c.args.number c.requires.first))
]

pub returns-clause-begun : goal.returns-clause-begun
returns-clause-begun c =
    leb-true _ c.args.number ((point c).0 (c.partition_point.result - 1) 0 (omega arith) (omega (arith, overflow_sub-result c)))

pub returns-clause-last : goal.returns-clause-last
returns-clause-last c = λ later.
    let some = overflow_sub-result c in
    let behind : leb (get_or c.args.starts.now (c.partition_point.result - 1 + 1) 0) c.args.number ≡ false =
    (point c).1 (c.partition_point.result - 1 + 1) 0 (omega (arith, some)) later in
    grind (arith, nat_tests, behind)
