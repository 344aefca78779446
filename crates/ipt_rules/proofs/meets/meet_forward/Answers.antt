use Rattle.std.proofs.Common.{inl, inr}
use Rattle.ipt_rules.specs.Matching.{matches}
use Rattle.ipt_rules.proofs.DeadRuleLaws.{same_verdicts}
use Rattle.ipt_rules.proofs.MeetsLaws.{decider_verdict, one_decider}
use Rattle.ipt_rules.proofs.WalkLemmas.{each_gives_one}
use Rattle.ipt_rules.proofs.meets.meet_forward.Goals as goal

pub returns-clause-marked : goal.returns-clause-marked
returns-clause-marked c = λ p inside place. (
  λ on. (c.decider.ensures.only p inside).only place on,
  λ h. elim h [ inl before ↦ (c.decider.ensures.only p inside).kept place before | inr met ↦ (c.decider.ensures.all p inside).met place met ],
)

pub returns-clause-decider : goal.returns-clause-decider
returns-clause-decider c = λ p inside. (c.decider.ensures.all p inside).decides

pub returns-clause-only : goal.returns-clause-only
returns-clause-only c = λ p inside other is.
    one_decider (matches p c.args.state) c.args.chains.now 1 other c.decider.result is (c.decider.ensures.all p inside).decides

pub returns-clause-verdict : goal.returns-clause-verdict
returns-clause-verdict c = λ p inside.
    decider_verdict c.args.chains.now 1 p c.args.state c.decider.result (each_gives_one c.args.chains.now c.requires.topological_order) (c.decider.ensures.all p inside).decides

pub returns-clause-unmarked : goal.returns-clause-unmarked
returns-clause-unmarked c = λ p inside places unmarked.
    same_verdicts places c.args.chains.now p c.args.state (each_gives_one c.args.chains.now c.requires.topological_order)
    (λ place at met. let on = (c.decider.ensures.all p inside).met place met in let off = unmarked place at in cc)
