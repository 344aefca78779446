use Rattle.std.proofs.Common.{◌≡◌, List, length, sym, ◌∙◌, subst}
use Rattle.std.specs.Prelude.{All}
use Rattle.inv_any.specs.Templates.{meaning_of}
use Rattle.inv_any.specs.declared.any_inv.AnyInv.{AnyInv}
use Rattle.net_core.proofs.PolicyLaws.{none_stateful}
use Rattle.net_core.proofs.policy.stateful_of.Goals as goal

pub refine_by_steps-requires-clause-sizes : goal.refine_by_steps-requires-clause-sizes
refine_by_steps-requires-clause-sizes c k d within =
    let hosts = length c.args.description.now.hosts in
    let sizes : All (λ inv. (meaning_of inv).size ≡ hosts) c.invariants.result.now =
    subst (λ (invs : List AnyInv). All (λ inv. (meaning_of inv).size ≡ hosts) invs)
    (sym c.invariants.ensures.value) c.invariants.ensures.sizes in
    sizes k d within ∙ sym c.requires.size

pub returns-else-answers-clause-stateful : goal.returns-else-answers-clause-stateful
returns-else-answers-clause-stateful c =
    none_stateful c.args.description.now c.args.permitted.now.flows c.size.result c.empty.result (sym c.answers.ensures ∙ c.if-answers.false) c.requires.meets c.empty.ensures
