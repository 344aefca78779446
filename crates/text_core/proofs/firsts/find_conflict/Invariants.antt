use Rattle.std.proofs.Common.{◌≡◌, ◌+◌, Bool, take, drop}
use Rattle.text_core.specs.FirstMatch.{Numbered, first_conflict, first_conflict_after, numbered, numbered_from}
use Rattle.text_core.specs.inner.FirstsView.{Tests}
use Rattle.text_core.proofs.firsts.find_conflict.Given as goal

abbrev pub invariant-loop-index : goal.invariant-loop-index
invariant-loop-index g l =
    (test : g.row.T.Denot → g.row.T.Denot → Bool) → Tests g.F.Fn l.conflicts test
    → first_conflict_after (λ (x y : Numbered g.row.T.Denot). test x.what y.what) (numbered (take l.index l.items)) (numbered_from (l.index + 1) (drop l.index l.items))
    ≡ first_conflict (λ (x y : Numbered g.row.T.Denot). test x.what y.what) (numbered l.items)
