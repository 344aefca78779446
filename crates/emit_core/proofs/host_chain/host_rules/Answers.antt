use Rattle.emit_core.proofs.OwnerLaws.{rest_below}
use Rattle.std.proofs.Common.{◌∙◌, sym}
use Rattle.emit_core.proofs.host_chain.host_rules.Goals as goal

pub invariant_of-chain : goal.invariant_of-chain
invariant_of-chain c = record {
  host_within = c.requires;
  is_rest = c.rest.ensures;
  rest_within = λ r found. rest_below c.args.policy.now.site.hosts r (sym c.rest.ensures ∙ found);
}
