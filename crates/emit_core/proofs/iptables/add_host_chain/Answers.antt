use Rattle.std.proofs.Common.{◌∙◌, ap, arith, length}
use Rattle.std.specs.List.{list_all}
use Rattle.ipt_rules.specs.inner.RuleParts.{is_rule}
use Rattle.emit_core.specs.declared.direction.Direction.TheVariants.{Outbound}
use Rattle.emit_core.proofs.FewRulesLaws.{few_host_rules}
use Rattle.emit_core.proofs.LayoutLaws.{length-chains_up_to}
use Rattle.emit_core.proofs.LayoutRulesLaws.{host_rules_are}
use Rattle.emit_core.proofs.CountLemmas.{chain_kept, next_fits, too_many_kept}
use Rattle.emit_core.proofs.FillingLemmas.{unused}
use Rattle.emit_core.proofs.iptables.add_host_chain.Goals as goal

pub overflow_cast-made : goal.overflow_cast-made
overflow_cast-made c =
    let all = c.len.ensures ∙ c.in_ok-rules.rules.ok.0 ∙ ap length c.in_ok-rules.ensures in
    omega (arith, all, few_host_rules Outbound c.args.policy.now c.args.host c.requires.site)

pub overflow_add-made : goal.overflow_add-made
overflow_add-made c =
    let all = c.len.ensures ∙ c.in_ok-rules.rules.ok.0 ∙ ap length c.in_ok-rules.ensures in
    omega (
      arith,
      next_fits c.args.policy.now c.args.host c.args.made.now.count c.len.result
          c.requires.site c.requires.there c.requires.before.counted all,
    )

pub add_chain-requires-clause-unused : goal.add_chain-requires-clause-unused
add_chain-requires-clause-unused c =
    let hosts = c.requires.site.hosts in
    let few = hosts.few in
    unused c.args.policy.now c.args.host c.args.made.now.chains
    (c.requires.before.kept (omega (arith, c.if-made-gt-RULE_LIMIT.false))) (omega (arith, few, c.requires.there))

pub add_chain-requires-clause-few_chains : goal.add_chain-requires-clause-few_chains
add_chain-requires-clause-few_chains c =
    let hosts = c.requires.site.hosts in
    let few = hosts.few in
    omega (
      arith,
      few,
      c.requires.there,
      ap length (c.requires.before.kept (omega (arith, c.if-made-gt-RULE_LIMIT.false))),
      length-chains_up_to c.args.policy.now c.args.host,
    )

pub add_chain-requires-clause-parts : goal.add_chain-requires-clause-parts
add_chain-requires-clause-parts c =
    ap (list_all is_rule) (c.deref.ensures.value ∙ c.in_ok-rules.ensures)
    ∙ host_rules_are Outbound c.args.policy.now c.args.host c.requires.site.services

pub returns-then-made-gt-RULE_LIMIT : goal.returns-then-made-gt-RULE_LIMIT
returns-then-made-gt-RULE_LIMIT c =
    let all = c.len.ensures ∙ c.in_ok-rules.rules.ok.0 ∙ ap length c.in_ok-rules.ensures in
    too_many_kept c.args.policy.now c.args.host c.args.made.now.chains
    c.args.made.now.count c.len.result c.requires.before all c.if-made-gt-RULE_LIMIT.true

pub returns : goal.returns
returns c =
    let all = c.len.ensures ∙ c.in_ok-rules.rules.ok.0 ∙ ap length c.in_ok-rules.ensures in
    chain_kept c.args.policy.now c.args.host c.args.made.now.chains c.add_chain.new.chains
    c.args.made.now.count c.len.result c.deref.result.now c.requires.before all c.if-made-gt-RULE_LIMIT.false (c.deref.ensures.value ∙ c.in_ok-rules.ensures)
    c.in_ok-add_chain.ensures
