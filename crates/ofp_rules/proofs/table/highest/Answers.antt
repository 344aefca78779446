use Rattle.std.proofs.Common.{List, subst, length, arith}
use Rattle.std.proofs.lemmas.List.{take_all}
use Rattle.std.specs.Option.{option_copied}
use Rattle.ofp_rules.specs.declared.entry.Entry.{Entry}
use Rattle.ofp_rules.specs.inner.Highest.{IsFound}
use Rattle.ofp_rules.proofs.NextLemmas.{at_small, found_next, found_passed}
use Rattle.ofp_rules.proofs.table.highest.Goals as goal

pub offset_bounds-entries-at : goal.offset_bounds-entries-at
offset_bounds-entries-at c =
    let next = c.in-Some.ensures c.args.entries.now c.requires in
    let small = at_small c.args.entries.now c.args.index.now c.requires c.in-Some.at next.within in
    omega (arith, small)

pub bounds-entries-at : goal.bounds-entries-at
bounds-entries-at c = (c.in-Some.ensures c.args.entries.now c.requires).within

pub overflow_add-from : goal.overflow_add-from
overflow_add-from c =
    let next = c.in-Some.ensures c.args.entries.now c.requires in
    let small = at_small c.args.entries.now c.args.index.now c.requires c.in-Some.at next.within in
    omega (arith, small)

pub loop-at-smaller : goal.loop-at-smaller
loop-at-smaller c =
    let next = c.in-Some.ensures c.args.entries.now c.requires in
    let later = next.later in
    let within = next.within in
    omega (arith, later, within)

pub loop-at-preserved : goal.loop-at-preserved
loop-at-preserved c =
    let entries = c.args.entries.now in
    let next = c.in-Some.ensures entries c.requires in
    let within = next.within in
    let so_far = found_passed c.args.frame.now entries (option_copied c.loop-at.found) c.loop-at.from c.in-Some.at next.later (omega (arith, within)) next.passed c.loop-at.invariant.found in
    record {
      within = omega (arith, within);
      found = found_next c.args.frame.now entries (option_copied c.loop-at.found) (option_copied c.higher-found.result) c.in-Some.at c.index-entries-at.result
          within c.index-entries-at.is c.higher-found.ensures so_far;
    }

pub returns : goal.returns
returns c =
    let entries = c.args.entries.now in
    let none = c.in_default.ensures entries c.requires in
    subst (λ (es : List Entry). IsFound es c.args.frame.now (option_copied c.loop-at.found)) (take_all (length entries) entries (omega arith))
    (found_passed c.args.frame.now entries (option_copied c.loop-at.found) c.loop-at.from (length entries) c.loop-at.invariant.within (omega arith) none c.loop-at.invariant.found)
