use Rattle.std.proofs.Common.{◌≡◌, ◌∙◌, Some, sym, subst}
use Rattle.std.specs.Prelude.{IfOk, IfSome}
use Rattle.header_space.specs.Owners.{GoesBetween}
use Rattle.rules_space.specs.Rules.{AnyRules, chains_of, filter_of}
use Rattle.rules_space.specs.Verdicts.{GivesOne}
use Rattle.pass_core.specs.NewPackets.{LetsPass}
use Rattle.pass_core.specs.Passing.{ArePassing}
use Rattle.pass_core.proofs.NewServicesLaws.{chains_are}
use Rattle.pass_core.proofs.passes_new.PassesNew.services_within.Goals as goal

pub services_of_chains-requires-clause-one : goal.services_of_chains-requires-clause-one
services_of_chains-requires-clause-one c =
    let is : chains_of c.self.inside.rules ≡ Some c.in-Some.chains = sym c.as_chains.ensures ∙ c.in-Some.is in
    subst (λ (r : AnyRules). GivesOne (filter_of r)) (chains_are c.self.inside.rules c.in-Some.chains is) c.gives_one.ensures

pub returns-in-Some : goal.returns-in-Some
returns-in-Some c =
    let is : chains_of c.self.inside.rules ≡ Some c.in-Some.chains = sym c.as_chains.ensures ∙ c.in-Some.is in
    subst
    (λ (r : AnyRules). IfOk c.services_of_chains.result (λ found. IfSome found (λ ranges. ArePassing (LetsPass r) (GoesBetween c.args.from.now c.args.to.now) ranges.items)))
    (sym (chains_are c.self.inside.rules c.in-Some.chains is) ∙ c.self.view_is) c.services_of_chains.ensures
