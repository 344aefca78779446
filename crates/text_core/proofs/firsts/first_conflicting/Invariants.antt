use Rattle.std.proofs.Common.{◌≡◌, ◌+◌, Bool, drop, find}
use Rattle.text_core.specs.FirstMatch.{Numbered, numbered_from}
use Rattle.text_core.specs.inner.FirstsView.{Tests}
use Rattle.text_core.proofs.firsts.first_conflicting.Given as goal

abbrev pub invariant-loop-index : goal.invariant-loop-index
invariant-loop-index g l =
    (test : g.row.T.Denot → g.row.T.Denot → Bool) → Tests g.F.Fn l.conflicts test
    → find (λ (y : Numbered g.row.T.Denot). test l.item y.what) (numbered_from (l.index + 1) (drop l.index l.before)) ≡ find (λ y. test l.item y.what) (numbered_from 1 l.before)
