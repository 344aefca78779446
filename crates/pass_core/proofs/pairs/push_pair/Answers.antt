use Rattle.std.proofs.Common.{◌∙◌, refl, sym, true≢false}
use Rattle.header_space.specs.Owners.{GoesBetween}
use Rattle.pass_core.specs.Pairs.{IsListedFor}
use Rattle.pass_core.proofs.PairLemmas.{added_nothing, entry_of, into_pair, none_of_pair}
use Rattle.pass_core.proofs.pairs.push_pair.Goals as goal

pub returns-then-not-passes : goal.returns-then-not-passes
returns-then-not-passes g c =
    let Holds = g.Q.Question.holds_of c.args.question.now in
    let from = c.args.from.now in
    let to = c.args.to.now in
    let test = rw c.deref.ensures.value at c.in_ok-passes.ensures in
    added_nothing (IsListedFor Holds (GoesBetween from.ranges.items to.ranges.items) from.owner to.owner) c.args.list.now.items
    (none_of_pair Holds from.ranges.items c.args.sources.now to.ranges.items c.requires.sources
    (λ pass. true≢false (sym (test.1 pass) ∙ c.if-not-passes.true)))

pub returns : goal.returns
returns g c =
    let Holds = g.Q.Question.holds_of c.args.question.now in
    let from = c.args.from.now in
    let to = c.args.to.now in
    let test = rw c.deref.ensures.value at c.in_ok-passes.ensures in
    let passing = rw (c.deref-2.ensures.value, c.deref-3.ensures.value) at c.in_ok-ranges.ensures in (
      _,
      c.in_ok-push.ensures.items,
      entry_of Holds from.ranges.items to.ranges.items from.owner to.owner _
          (into_pair Holds from.ranges.items c.args.sources.now to.ranges.items c.requires.sources (test.0 c.if-not-passes.false)) refl refl passing,
    )
