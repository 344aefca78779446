use Rattle.std.proofs.Common.{sym, subst}
use Rattle.flow_set.specs.Flow.{IsFlow}
use Rattle.flow_set.specs.FlowSet.{has}
use Rattle.net_core.proofs.AskedLemmas.{absent_so, denied_so}
use Rattle.net_core.proofs.UnpermittedLaws.{policy_denied, policy_unpermitted}
use Rattle.net_core.specs.inner.Asking.{asking_where}
use Rattle.net_core.specs.inner.EdgePolicies.{IsAdmitted}
use Rattle.net_core.specs.inner.Policed.{policy_in}
use Rattle.net_core.specs.Policies.{IsPolicyOf}
use Rattle.net_core.proofs.network_with_policy.keeps_policy_unchanged.Goals as goal

pub has-requires : goal.has-requires
has-requires c = subst (λ n. IsFlow n c.args.flow) (sym c.requires.evaluation.is_policy.permitted_size) c.requires.flow

pub returns-then-asked : goal.returns-then-asked
returns-then-asked c = λ denied.
    let d = c.args.description.now in
    let policy = policy_in c.args.evaluation.now in
    subst (λ b. IsPolicyOf (asking_where b d c.args.flow) policy) (sym c.if-asked.true)
    (policy_denied d policy c.args.flow c.requires.evaluation.network c.requires.flow
    (denied_so c.is_admitted.result (IsAdmitted d c.args.flow) denied c.is_admitted.ensures.1) c.requires.evaluation.is_policy)

pub returns-else-asked : goal.returns-else-asked
returns-else-asked c = λ denied.
    let d = c.args.description.now in
    let policy = policy_in c.args.evaluation.now in
    subst (λ b. IsPolicyOf (asking_where b d c.args.flow) policy) (sym c.if-asked.false)
    (policy_unpermitted d policy c.args.flow c.requires.evaluation.network
    (absent_so c.has.result (has policy.permitted.flows c.args.flow) c.has.ensures denied) c.requires.evaluation.is_policy)
