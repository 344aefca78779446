use Rattle.std.proofs.Common.{◌∙◌, List, arith, ap, length}
use Rattle.ipt_rules.specs.declared.rule.Policy.TheVariants.{Drop as Dropping}
use Rattle.std.specs.List.{list_all}
use Rattle.ipt_rules.specs.Chain.{Chain, with_policy}
use Rattle.ipt_rules.specs.inner.RuleParts.{is_rule}
use Rattle.emit_core.proofs.LayoutRulesLaws.{forward_rules_are}
use Rattle.emit_core.proofs.LayoutLaws.{few_forward_rules}
use Rattle.emit_core.proofs.FillingLemmas.{no_rules_yet, forward_filled}
use Rattle.emit_core.proofs.iptables.entry_layout.Goals as goal

pub fill-requires-clause-there : goal.fill-requires-clause-there
fill-requires-clause-there c = omega (arith, (no_rules_yet c.set_policy.new.self (c.set_policy.ensures ∙ ap (λ (x : List Chain). with_policy x 1 Dropping) c.in_ok-chains.ensures)).0)

pub fill-requires-clause-room : goal.fill-requires-clause-room
fill-requires-clause-room c =
    let hosts = c.count-count.ensures.hosts in
    let prefixes = hosts.few_prefixes in
    omega (
      arith,
      (no_rules_yet c.set_policy.new.self (c.set_policy.ensures ∙ ap (λ (x : List Chain). with_policy x 1 Dropping) c.in_ok-chains.ensures)).1,
      ap length (c.deref.ensures.value ∙ c.in_ok-rules.ensures),
      few_forward_rules c.args.hosts.now,
    )

pub fill-requires-clause-parts : goal.fill-requires-clause-parts
fill-requires-clause-parts c =
    ap (list_all is_rule) (c.deref.ensures.value ∙ c.in_ok-rules.ensures) ∙ forward_rules_are c.args.hosts.now

pub overflow_cast-result : goal.overflow_cast-result
overflow_cast-result c =
    let hosts = c.count-count.ensures.hosts in
    let prefixes = hosts.few_prefixes in
    omega (arith, ap length c.in_ok-rules.ensures, few_forward_rules c.args.hosts.now)

pub returns-clause-chains : goal.returns-clause-chains
returns-clause-chains c =
    c.in_ok-fill.ensures.added
    ∙ forward_filled c.args.hosts.now c.set_policy.new.self c.deref.result.now
    (c.set_policy.ensures ∙ ap (λ (x : List Chain). with_policy x 1 Dropping) c.in_ok-chains.ensures)
    (c.deref.ensures.value ∙ c.in_ok-rules.ensures)
