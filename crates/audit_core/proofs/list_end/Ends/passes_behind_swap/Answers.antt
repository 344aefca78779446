use Rattle.std.proofs.Common.{subst}
use Rattle.host_net.specs.declared.packet.CtState.{CtState}
use Rattle.header_space.proofs.BoxLaws.{narrows_in}
use Rattle.rules_space.specs.Rules.{filter_of}
use Rattle.audit_core.proofs.list_end.Ends.passes_behind_swap.Goals as goal

pub returns-clause-alike : goal.returns-clause-alike
returns-clause-alike c = λ p inside. (
  c.swap_passes-passed.result,
  c.swap_passes-passed.ensures.passes p
      (narrows_in c.swap_passes-passed.new.within c.passes_within.new.within p c.passes_within.ensures.part inside),
  subst (λ (s : CtState). filter_of c.args.self.now.part.rules s p c.passes_within.result) c.state_after.ensures (c.passes_within.ensures.passes p inside),
)
