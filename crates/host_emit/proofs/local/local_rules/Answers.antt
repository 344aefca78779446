use Rattle.std.proofs.Common.{◌∙◌, sym, ap, subst}
use Rattle.std.proofs.lemmas.Result.{IfOk-weaker}
use Rattle.ipt_rules.specs.inner.Build.{refusal_of}
use Rattle.ipt_rules.specs.Loops.{IsAcyclic}
use Rattle.host_emit.specs.HostEnforcement.{EnforcesAtHost, PassesOn}
use Rattle.host_emit.proofs.GuardingLaws.{layout_guards}
use Rattle.host_emit.proofs.LocalEventsLaws.{layouts_expected}
use Rattle.host_emit.proofs.LocalLayoutLaws.{local_accepted, local_no_loop}
use Rattle.host_emit.proofs.local.local_rules.Goals as goal

pub build_accepted-requires-clause-accepted : goal.build_accepted-requires-clause-accepted
build_accepted-requires-clause-accepted c =
    ap refusal_of c.in_ok-chains.ensures.layout
    ∙ local_accepted c.args.policy.now c.args.host c.in_ok-chains.ensures.policy.site

pub build_accepted-requires-clause-acyclic : goal.build_accepted-requires-clause-acyclic
build_accepted-requires-clause-acyclic c =
    subst IsAcyclic (sym c.in_ok-chains.ensures.layout) (local_no_loop c.args.policy.now c.args.host c.in_ok-chains.ensures.policy.site)

pub returns-clause-enforces_at_host : goal.returns-clause-enforces_at_host
returns-clause-enforces_at_host c =
    let policy = c.args.policy.now in
    IfOk-weaker c.build_accepted.result _ _
    (λ rules is. subst (λ chains. EnforcesAtHost (PassesOn chains) policy c.args.host) (sym (is ∙ c.in_ok-chains.ensures.layout)) (layout_guards policy c.args.host c.in_ok-chains.ensures.policy.site.hosts))
    c.build_accepted.ensures

pub returns-clause-passes : goal.returns-clause-passes
returns-clause-passes c =
    IfOk-weaker c.build_accepted.result _ _
    (λ rules is. layouts_expected c.args.policy.now c.in_ok-chains.ensures.policy.site.hosts c.in_ok-chains.ensures.policy.within)
    c.build_accepted.ensures
