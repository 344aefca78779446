use Rattle.std.proofs.Common.{◌∙◌, sym, ap, subst}
use Rattle.emit_core.specs.declared.direction.Direction.TheVariants.{Outbound, Inbound}
use Rattle.host_emit.specs.inner.LocalFilling.{AreChainRules}
use Rattle.host_emit.specs.LocalLayout.{entry_rules}
use Rattle.host_emit.proofs.LocalLayoutLaws.{prefixes_read}
use Rattle.host_emit.proofs.LocalWritableLaws.{entries_few, users_few}
use Rattle.host_emit.proofs.local.local_chains.Goals as goal

pub filled-requires-clause-input : goal.filled-requires-clause-input
filled-requires-clause-input c =
    let read = prefixes_read c.args.policy.now.site.hosts c.args.host c.prefixes.result.now c.prefixes.ensures in
    subst AreChainRules (sym (c.deref.ensures.value ∙ c.in_ok-input.ensures ∙ ap (entry_rules Inbound) read))
    (entries_few Inbound c.args.policy.now.site c.args.host c.count-count.ensures.policy.site)

pub filled-requires-clause-output : goal.filled-requires-clause-output
filled-requires-clause-output c =
    let read = prefixes_read c.args.policy.now.site.hosts c.args.host c.prefixes-2.result.now c.prefixes-2.ensures in
    subst AreChainRules (sym (c.deref-2.ensures.value ∙ c.in_ok-output.ensures ∙ ap (entry_rules Outbound) read))
    (entries_few Outbound c.args.policy.now.site c.args.host c.count-count.ensures.policy.site)

pub filled-requires-clause-incoming : goal.filled-requires-clause-incoming
filled-requires-clause-incoming c =
    subst AreChainRules (sym (c.deref-3.ensures.value ∙ c.in_ok-incoming.ensures))
    (users_few Inbound c.args.policy.now c.args.host c.count-count.ensures.policy.site)

pub filled-requires-clause-outgoing : goal.filled-requires-clause-outgoing
filled-requires-clause-outgoing c =
    subst AreChainRules (sym (c.deref-4.ensures.value ∙ c.in_ok-outgoing.ensures))
    (users_few Outbound c.args.policy.now c.args.host c.count-count.ensures.policy.site)
