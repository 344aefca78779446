use Rattle.std.proofs.Common.{arith, sym, ◌∙◌}
use Rattle.emit_core.proofs.OwnerLaws.{rest_below}
use Rattle.emit_core.proofs.forward.forward_rules.Goals as goal

pub chain_of-requires : goal.chain_of-requires
chain_of-requires c = omega (arith, rest_below c.args.hosts.now c.in-Some.rest (sym c.rest.ensures ∙ c.in-Some.is))
