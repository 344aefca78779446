use Rattle.std.proofs.Common.{Option, sym, ap, subst, ◌∙◌}
use Rattle.host_net.specs.declared.packet.Verdict.{Verdict}
use Rattle.ipt_rules.specs.Chain.{policy_of}
use Rattle.ipt_rules.specs.Semantics.{HasVerdictIn, policy_verdict, verdict_by}
use Rattle.ipt_rules.proofs.MeetsLaws.{decider_verdict}
use Rattle.ipt_rules.proofs.WalkLemmas.{each_gives_one}
use Rattle.ipt_rules.proofs.walk.verdict_in.Goals as goal

pub returns-in-Some-clause-verdict : goal.returns-in-Some-clause-verdict
returns-in-Some-clause-verdict g c = λ p inside.
    subst (λ (o : Option Verdict). HasVerdictIn c.args.chains.now c.args.number p c.args.state (verdict_by (policy_of c.args.chains.now c.args.number) o)) (sym c.in-Some.ensures)
    (decider_verdict c.args.chains.now c.args.number p c.args.state c.decider-place.result (each_gives_one c.args.chains.now c.requires.topological_order) (c.decider-place.ensures.all p inside).decides)

pub returns-in-None-clause-verdict : goal.returns-in-None-clause-verdict
returns-in-None-clause-verdict g c = λ p inside.
    subst (λ (v : Verdict). HasVerdictIn c.args.chains.now c.args.number p c.args.state v) (sym (c.policy_verdict.ensures ∙ ap policy_verdict c.policy_of.ensures))
    (subst (λ (o : Option Verdict). HasVerdictIn c.args.chains.now c.args.number p c.args.state (verdict_by (policy_of c.args.chains.now c.args.number) o)) (sym c.in-None.ensures)
    (decider_verdict c.args.chains.now c.args.number p c.args.state c.decider-place.result (each_gives_one c.args.chains.now c.requires.topological_order) (c.decider-place.ensures.all p inside).decides))
