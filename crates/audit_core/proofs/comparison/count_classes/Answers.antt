use Rattle.rules_space.specs.RulesView.{rules_of}
use Rattle.audit_core.specs.Sides.{sides_of}
use Rattle.audit_core.proofs.AuditLemmas.{count_is}
use Rattle.audit_core.proofs.comparison.count_classes.Goals as goal

pub returns : goal.returns
returns c =
    let policy = c.args.policy.now in
    count_is (sides_of policy (rules_of c.args.text.now)) c.in_ok-found.found c.classes.result c.in_ok-found.ensures c.classes.ensures
