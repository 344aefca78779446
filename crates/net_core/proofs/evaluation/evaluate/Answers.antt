use Rattle.std.proofs.Common.{sym, subst}
use Rattle.net_core.specs.Policies.{IsPolicyOf}
use Rattle.net_core.proofs.evaluation.evaluate.Goals as goal

pub returns : goal.returns
returns c = record {
  network = c.requires;
  is_policy =
      subst (IsPolicyOf c.args.description.now)
      (λ i. record { permitted = sym c.into_sets-permitted.ensures.permitted i; stateful = sym c.into_sets-permitted.ensures.stateful i })
      c.in_ok-policy_of.ensures.policy;
  failed = c.in_ok-failed.ensures;
  failing = c.in_ok-failing.ensures;
}
