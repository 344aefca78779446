use Rattle.std.proofs.Common.{arith}
use Rattle.emit_core.specs.inner.EmitRefusals.{HasNoChains}
use Rattle.emit_core.specs.inner.UnnarrowedLayout.{without_services}
use Rattle.emit_core.proofs.UnnarrowedSizeLaws.{few_rules-unnarrowed}
use Rattle.emit_core.specs.declared.refusal.NoChains.TheVariants.{TooManyRules}
use Rattle.sample_core.proofs.run.rules_of.Goals as goal

pub unreachable-requires : goal.unreachable-requires
unreachable-requires c =
    let policy = c.args.policy.now in
    let many : HasNoChains (without_services policy) (TooManyRules c.in-Err-TooManyRules.field-0-0) =
    rw (c.requires.whole, c.in-Err-TooManyRules.field-0-is) at c.in-Err-TooManyRules.ensures.refused in
    omega (arith, many.0, few_rules-unnarrowed policy c.count-count.ensures.policy.site.hosts)
