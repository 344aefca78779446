use Rattle.std.proofs.Common.{List, subst}
use Rattle.std.specs.Option.{option_copied}
use Rattle.std.proofs.lemmas.List.{take_all}
use Rattle.header_space.proofs.BoxLaws.{narrows_in, narrows_then}
use Rattle.ofp_rules.specs.declared.entry.Entry.{Entry}
use Rattle.ofp_rules.specs.declared.entry.Frame.TheVariants.{Ipv4}
use Rattle.ofp_rules.specs.inner.Highest.{IsFound}
use Rattle.ofp_rules.proofs.NextLemmas.{found_next}
use Rattle.ofp_rules.proofs.box_table.highest_within.Goals as goal

pub loop-at-preserved : goal.loop-at-preserved
loop-at-preserved c = record {
  narrows = narrows_then c.args.within.now c.loop-at.within c.higher_within-found.new.within c.loop-at.invariant.narrows c.higher_within-found.ensures.part;
  found = λ p inside.
      found_next (Ipv4 p) c.args.entries.now (option_copied c.loop-at.found) (option_copied c.higher_within-found.result) c.loop-at.at c.index-entries-at.result
      c.loop-at-test.true c.index-entries-at.is (c.higher_within-found.ensures.found p inside)
      (c.loop-at.invariant.found p (narrows_in c.loop-at.within c.higher_within-found.new.within p c.higher_within-found.ensures.part inside));
}

pub returns-clause-found : goal.returns-clause-found
returns-clause-found c = λ p inside.
    subst (λ (es : List Entry). IsFound es (Ipv4 p) (option_copied c.loop-at.found)) (take_all c.loop-at.at c.args.entries.now c.loop-at-test.false)
    (c.loop-at.invariant.found p inside)
