use Rattle.std.proofs.Common.{subst}
use Rattle.std.specs.Prelude.{IfOk}
use Rattle.rules_space.specs.Rules.{AnyRules}
use Rattle.pass_core.specs.NewPackets.{LetsPass}
use Rattle.pass_core.specs.Pairs.{AreListed}
use Rattle.pass_core.proofs.new_services.services_of_owned.Goals as goal

pub returns-in-Ipt : goal.returns-in-Ipt
returns-in-Ipt c =
    subst (λ (r : AnyRules). IfOk c.new_services_by_pairs.result (λ list. AreListed (LetsPass r) c.args.owned.now list.items))
    c.whole-question.ensures c.new_services_by_pairs.ensures

pub returns : goal.returns
returns c =
    subst (λ (r : AnyRules). IfOk c.services_by_pairs.result (λ list. AreListed (LetsPass r) c.args.owned.now list.items))
    c.whole-question.ensures c.services_by_pairs.ensures
