use Rattle.std.proofs.Common.{arith}
use Rattle.header_space.proofs.BoxLaws.{narrows_in, narrows_not, narrows_then}
use Rattle.ofp_rules.specs.declared.entry.Frame.TheVariants.{Ipv4}
use Rattle.ofp_rules.proofs.DeciderLaws.{decider_found, found_next}
use Rattle.ofp_rules.proofs.deciders.found_within.Goals as goal

pub loop-at-init : goal.loop-at-init
loop-at-init c = record {
  narrows = narrows_not c.args.within.now c.requires.is_box;
  found = λ p inside j f low there on. omega (arith, low);
}

pub loop-at-preserved : goal.loop-at-preserved
loop-at-preserved c = record {
  narrows = narrows_then c.args.within.now c.loop-at.within c.found_with-found.new.within c.loop-at.invariant.narrows c.found_with-found.ensures.part;
  found = λ p inside.
      found_next c.args.entries.now (Ipv4 p) c.loop-at.at c.index-entries-at.result c.loop-at.found c.found_with-found.result c.loop-at-test.true c.index-entries-at.is
      (c.found_with-found.ensures.found p inside)
      (c.loop-at.invariant.found p (narrows_in c.loop-at.within c.found_with-found.new.within p c.found_with-found.ensures.part inside));
}

pub returns-clause-decider : goal.returns-clause-decider
returns-clause-decider c = λ p inside.
    decider_found c.args.entries.now (Ipv4 p) c.loop-at.at c.loop-at.found c.loop-at-test.false (c.loop-at.invariant.found p inside)
