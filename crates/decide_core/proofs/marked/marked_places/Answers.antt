use Rattle.std.proofs.Common.{◌∙◌, sym, arith}
use Rattle.decide_core.specs.inner.Classifying.{rules_by}
use Rattle.decide_core.proofs.MarkedLemmas.{all_marked}
use Rattle.decide_core.proofs.marked.marked_places.Goals as goal

pub push_marked-requires-clause-count : goal.push_marked-requires-clause-count
push_marked-requires-clause-count c = c.requires c.loop-chain.chain ∙ sym c.count_in.ensures

pub returns : goal.returns
returns c =
    all_marked c.args.marks.now (rules_by c.args.classifier.now) c.requires c.loop-chain.chain c.loop-chain.places.items
    (omega (arith, c.chains-chain-end.ensures, c.loop-chain-test.false)) c.loop-chain.invariant
