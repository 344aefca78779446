use Rattle.std.proofs.Common.{◌≡◌, ◌↔◌, subst}
use Rattle.std.specs.Prelude.{IfOk}
use Rattle.pkt_core.specs.FlowPolicy.{FlowPolicy}
use Rattle.audit_core.specs.declared.finding.Finding.TheVariants.{Equal}
use Rattle.audit_core.specs.Findings.{DifferSomewhere}
use Rattle.rules_space.specs.RulesView.{rules_of}
use Rattle.audit_core.specs.Sides.{sides_of}
use Rattle.audit_core.proofs.comparison.audit.Goals as goal

pub returns-clause-exact : goal.returns-clause-exact
returns-clause-exact c =
    subst (λ (policy : FlowPolicy). IfOk c.audit_policy.result (λ finding. (finding ≡ Equal) ↔
    (DifferSomewhere (sides_of policy (rules_of c.args.text.now)) → ⊥))) c.new-policy.ensures c.audit_policy.ensures.exact
