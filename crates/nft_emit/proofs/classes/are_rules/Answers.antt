use Rattle.std.proofs.Common.{arith}
use Rattle.std.proofs.lemmas.Option.{slice_get_within}
use Rattle.nft_emit.proofs.BuildLaws.{same_rules}
use Rattle.nft_emit.proofs.classes.are_rules.Goals as goal

pub returns : goal.returns
returns c = λ yes. same_rules c.args.rules.now c.args.wanted.now c.loop-i.invariant.long
    (λ j r at. c.loop-i.invariant.same j r (omega (arith, slice_get_within c.args.wanted.now j r at, c.loop-i-test.false)) at)
