use Rattle.audit_core.specs.laws.FindingLaws.{equal_exactly}
use Rattle.audit_core.proofs.SoughtLaws.{found_by_sought}
use Rattle.audit_core.proofs.comparison.compare_policy.Goals as goal

pub returns-clause-found : goal.returns-clause-found
returns-clause-found c = found_by_sought _ c.whole.ensures.gives c.whole.ensures.policy.within c.whole.result c.in_ok-finding.finding c.whole.ensures.sides c.in_ok-finding.ensures

pub returns-clause-exact : goal.returns-clause-exact
returns-clause-exact c = equal_exactly _ c.in_ok-finding.finding (returns-clause-found c)
