use Rattle.text_core.specs.FirstMatch.{Numbered, numbered}
use Rattle.text_core.proofs.FirstPairLaws.{IfSome-first_conflict, none_paired}
use Rattle.text_core.specs.inner.FirstsView.{pair_seen}
use Rattle.text_core.proofs.firsts.first_conflict.Goals as goal

pub returns-clause-first : goal.returns-clause-first
returns-clause-first g c = λ test is.
    IfSome-first_conflict pair_seen (λ (x y : Numbered g.row.T.Denot). test x.what y.what) (numbered c.args.items.now) c.find_conflict.result (c.find_conflict.ensures test is)

pub returns-clause-none : goal.returns-clause-none
returns-clause-none g c = λ test is none. none_paired pair_seen test c.args.items.now c.find_conflict.result (c.find_conflict.ensures test is) none
