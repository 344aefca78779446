use Rattle.std.proofs.Common.{List, ◌∙◌, subst}
use Rattle.std.specs.Prelude.{IfOk}
use Rattle.ipt_rules.specs.Chain.{Chain}
use Rattle.ipt_rules.specs.inner.Ranked.{IsRanked}
use Rattle.ipt_rules.proofs.chains.Chains.first_loop.Goals as goal

pub returns : goal.returns
returns c =
    subst (λ (chains : List Chain). IfOk c.find_cycle.result (IsRanked chains)) (c.deref.ensures.value ∙ c.self.view_is) c.find_cycle.ensures
