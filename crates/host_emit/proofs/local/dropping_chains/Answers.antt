use Rattle.std.proofs.Common.{◌∙◌, List, ap}
use Rattle.ipt_rules.specs.Chain.{Chain, with_policy}
use Rattle.ipt_rules.specs.declared.rule.Policy.TheVariants.{Drop as Dropping}
use Rattle.host_emit.proofs.LocalLayoutLaws.{all_dropping}
use Rattle.host_emit.proofs.local.dropping_chains.Goals as goal

pub returns : goal.returns
returns c =
    c.set_policy-3.ensures
    ∙ ap (λ (x : List Chain). with_policy x 2 Dropping) c.set_policy-2.ensures
    ∙ ap (λ (x : List Chain). with_policy (with_policy x 1 Dropping) 2 Dropping) c.set_policy.ensures
    ∙ ap (λ (x : List Chain). with_policy (with_policy (with_policy x 0 Dropping) 1 Dropping) 2 Dropping) c.in_ok-chains.ensures
    ∙ all_dropping
