use Rattle.std.proofs.Common.{arith}
use Rattle.std.proofs.lemmas.Option.{slice_get_within}
use Rattle.ofp_rules.proofs.EntryLemmas.{not_here}
use Rattle.ofp_rules.proofs.table.first_against.Goals as goal

pub loop-first-preserved : goal.loop-first-preserved
loop-first-preserved c = λ j e below there clash.
    not_here c.args.earlier.now c.loop-first.first c.index-earlier-first.result c.args.entry.now (omega arith) c.index-earlier-first.is
    (λ h. let on = c.if-contradicts.ensures.1 h in let off = c.if-contradicts.false in cc) j e c.loop-first.invariant below there clash

pub returns-clause-nowhere : goal.returns-clause-nowhere
returns-clause-nowhere c = λ j e there clash.
    let within = slice_get_within c.args.earlier.now j e there in
    c.loop-first.invariant j e (omega arith) there clash
