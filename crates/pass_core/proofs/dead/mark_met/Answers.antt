use Rattle.std.proofs.Common.{◌≡◌, ◌∙◌, arith, length, sym}
use Rattle.std.proofs.lemmas.Bool.Decides.{nat_tests}
use Rattle.pass_core.proofs.DeadLemmas.{none_unmarked}
use Rattle.pass_core.proofs.dead.mark_met.Goals as goal

pub returns-then-is_empty-clause-known : goal.returns-then-is_empty-clause-known
returns-then-is_empty-clause-known c = λ p inside.
    let empty = sym c.is_empty.ensures ∙ c.if-is_empty.true in
    let long = c.in_ok-left.left.ok.0 in
    let none : length c.in_ok-left.left.items ≡ 0 = grind (arith, nat_tests, empty, long) in
    none_unmarked c.mark_by_samples.new.met c.in_ok-left.left.items (rw (c.rules.ensures, c.marks.ensures) at c.in_ok-left.ensures) none p
