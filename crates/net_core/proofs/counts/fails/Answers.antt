use Rattle.std.proofs.Common.{ap}
use Rattle.std.specs.Prelude.{not}
use Rattle.std.proofs.lemmas.Bool.{not-false}
use Rattle.net_core.proofs.FailingLaws.{none_fails}
use Rattle.net_core.proofs.counts.fails.Goals as goal

pub returns : goal.returns
returns c n all set alone is =
    let holds = none_fails n c.args._invariant.now all c.args.failing.now.flows set alone is in
    (λ none. holds.0 (c.is_empty.ensures.0 (not-false _ none)), λ all_hold. ap not (c.is_empty.ensures.1 (holds.1 all_hold)))
