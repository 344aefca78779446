use Rattle.std.proofs.Common.{List, length, sym, subst, ap, ◌∙◌, arith}
use Rattle.ipt_rules.specs.Chain.{Chain}
use Rattle.ipt_rules.specs.ChainTable.{rule_count}
use Rattle.ipt_rules.specs.inner.Slicing.{AreSlices, chains_stay}
use Rattle.ipt_rules.proofs.SliceLaws.{same_verdicts, slice_ranking, slices_fewer, slices_long}
use Rattle.ipt_rules.proofs.slice.closed_slice.Goals as goal

pub invariant_of-result : goal.invariant_of-result
invariant_of-result c =
    let marks = c.as_slice-marks.result.now in
    let are = c.in_ok-kept.ensures in
    let long = slices_long c.args.within.now marks 0 c.args.chains.now c.in_ok-kept.kept.items are in
    let fewer = slices_fewer c.args.within.now marks 0 c.args.chains.now c.in_ok-kept.kept.items are in
    record {
      few_chains = let few = c.requires.few_chains in omega (arith, long, few);
      forward = let there = c.requires.forward in omega (arith, long, there);
      few_rules = let few = c.requires.few_rules in omega (arith, fewer, few);
      topological_order = slice_ranking c.args.within.now marks c.args.chains.now c.in_ok-kept.kept.items are c.requires.topological_order;
    }

pub returns : goal.returns
returns c =
    let marks = c.as_slice-marks.result.now in
    let are = c.in_ok-kept.ensures in
    same_verdicts c.args.within.now marks c.args.chains.now c.in_ok-kept.kept.items are
    (ap (λ (xs : List Chain). chains_stay marks xs) (sym c.as_slice-own.ensures.value) ∙ (sym c.chains_stay.ensures ∙ c.if-not-chains_stay.false))
    (sym c.is_known_to_return.ensures ∙ c.if-not-is_known_to_return.false)
    (slice_ranking c.args.within.now marks c.args.chains.now c.in_ok-kept.kept.items are c.requires.topological_order)
