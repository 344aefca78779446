use Rattle.std.proofs.Common.{sym, subst}
use Rattle.flow_set.specs.Flow.{IsFlow}
use Rattle.flow_set.specs.FlowSet.{SetOfFlows}
use Rattle.flow_set.specs.inner.FlowSetView.{without_flow}
use Rattle.net_core.specs.Policies.{IsPolicyOf}
use Rattle.net_core.specs.inner.Asking.{not_asking_for}
use Rattle.net_core.proofs.EdgePolicyLaws.{policy_less}
use Rattle.net_core.proofs.steps.remove_flow.Goals as goal

pub remove-requires : goal.remove-requires
remove-requires c = subst (λ n. IsFlow n c.args.flow) (sym c.requires.policy.permitted_size) c.requires.flow

pub remove-requires-2 : goal.remove-requires-2
remove-requires-2 c = subst (λ n. IsFlow n c.args.flow) (sym c.requires.policy.stateful_size) c.requires.flow

pub returns : goal.returns
returns c =
    subst (λ (s : SetOfFlows). IsPolicyOf (not_asking_for c.args.description.now c.args.flow) (record { permitted = c.remove.new.self; stateful = s })) (sym c.remove-2.ensures.set)
    (subst (λ (p : SetOfFlows). IsPolicyOf (not_asking_for c.args.description.now c.args.flow) (record { permitted = p; stateful = record c.args.stateful.now { flows = without_flow c.args.stateful.now.flows c.args.flow } })) (sym c.remove.ensures.set)
    (policy_less c.args.description.now (record { permitted = c.args.permitted.now; stateful = c.args.stateful.now }) c.args.flow c.requires.network c.requires.alone c.requires.flow c.requires.policy))
