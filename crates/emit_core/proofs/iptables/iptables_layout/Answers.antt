use Rattle.std.proofs.Common.{◌∙◌, sym, ap, subst, arith}
use Rattle.pkt_core.specs.Filter.{Enforces, ForwardsAsExpected}
use Rattle.ipt_rules.specs.inner.Build.{refusal_of}
use Rattle.ipt_rules.specs.Loops.{IsAcyclic}
use Rattle.ipt_rules.specs.Semantics.{PassesChains}
use Rattle.emit_core.proofs.ForwardingLaws.{layout_enforces, layout_expected}
use Rattle.emit_core.proofs.LayoutLaws.{layout_accepted, layout_no_loop}
use Rattle.emit_core.proofs.iptables.iptables_layout.Goals as goal

pub build_accepted-requires-clause-accepted : goal.build_accepted-requires-clause-accepted
build_accepted-requires-clause-accepted c =
    let hosts = c.in-Ok.ensures.policy.site.hosts in
    let few = c.if-count-gt-RULE_LIMIT.false in
    ap refusal_of (c.in-Ok.ensures.counted.kept few)
    ∙ layout_accepted c.args.policy.now c.in-Ok.ensures.policy.site.services (omega (arith, hosts.few)) (omega (arith, few, c.in-Ok.ensures.counted.counted))

pub build_accepted-requires-clause-acyclic : goal.build_accepted-requires-clause-acyclic
build_accepted-requires-clause-acyclic c =
    subst IsAcyclic (sym (c.in-Ok.ensures.counted.kept c.if-count-gt-RULE_LIMIT.false))
    (layout_no_loop c.args.policy.now c.in-Ok.ensures.policy.site.services)

pub returns-in-Ok-build_accepted-clause-enforces : goal.returns-in-Ok-build_accepted-clause-enforces
returns-in-Ok-build_accepted-clause-enforces c =
    let policy = c.args.policy.now in
    subst (λ chains. Enforces (PassesChains chains) policy) (sym (c.in-Ok-build_accepted.ensures ∙ c.in-Ok.ensures.counted.kept c.if-count-gt-RULE_LIMIT.false))
    (layout_enforces policy c.in-Ok.ensures.policy.site.hosts)

pub returns-in-Ok-build_accepted-clause-expected : goal.returns-in-Ok-build_accepted-clause-expected
returns-in-Ok-build_accepted-clause-expected c =
    let policy = c.args.policy.now in
    subst (λ chains. ForwardsAsExpected (PassesChains chains) policy) (sym (c.in-Ok-build_accepted.ensures ∙ c.in-Ok.ensures.counted.kept c.if-count-gt-RULE_LIMIT.false))
    (layout_expected policy c.in-Ok.ensures.policy.site.hosts c.in-Ok.ensures.policy.within)
