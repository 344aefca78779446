use Rattle.attr_core.proofs.MayHaveLaws.{domains_may_have, kinds_may_have, noreach_may_have, partners_may_have}
use Rattle.attr_core.proofs.TaintedMayHaveLaws.{tainting_may_have}
use Rattle.attr_core.proofs.may_have.accepts_exactly_allowed_attributes.Goals as goal

pub returns : goal.returns
returns c = record {
  tainting = tainting_may_have;
  partners = partners_may_have;
  domains = domains_may_have;
  no_reach = noreach_may_have;
  table = kinds_may_have;
}
