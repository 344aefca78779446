use Rattle.std.proofs.Common.{option_map, sym, ap, ◌∙◌}
use Rattle.text_core.specs.inner.FirstsView.{numbered_seen}
use Rattle.text_core.proofs.FirstsLemmas.{pair_here, pair_passed, no_pair_left}
use Rattle.text_core.specs.FirstMatch.{Numbered}
use Rattle.text_core.proofs.firsts.find_conflict.Goals as goal

pub returns-in-Some : goal.returns-in-Some
returns-in-Some g c = λ test is.
    sym (pair_here test c.args.items.now c.loop-index.index c.index-items-index.result (numbered_seen c.in-Some.earlier) c.loop-index-test.true c.index-items-index.is
    (sym (c.first_conflicting.ensures test is) ∙ ap (option_map numbered_seen) c.in-Some.is))
    ∙ c.loop-index.invariant test is

pub loop-index-preserved : goal.loop-index-preserved
loop-index-preserved g c = λ test is.
    pair_passed test c.args.items.now c.loop-index.index c.index-items-index.result c.loop-index-test.true c.index-items-index.is
    (sym (c.first_conflicting.ensures test is) ∙ ap (option_map numbered_seen) c.in_default.is)
    ∙ c.loop-index.invariant test is

pub returns : goal.returns
returns g c = λ test is.
    sym (no_pair_left (λ (x y : Numbered g.row.T.Denot). test x.what y.what) c.args.items.now c.loop-index.index c.loop-index-test.false) ∙ c.loop-index.invariant test is
