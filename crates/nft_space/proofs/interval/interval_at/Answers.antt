use Rattle.std.proofs.Common.{◌∙◌, ◌<◌, Option, arith, sym, subst}
use Rattle.std.specs.Prelude.{IfSome}
use Rattle.std.proofs.lemmas.Bool.Decides.{nat_tests}
use Rattle.nft_rules.specs.declared.table.Element.{Element}
use Rattle.nft_space.proofs.IntervalLaws.{leads_there, nowhere_between}
use Rattle.nft_space.proofs.interval.interval_at.Goals as goal

pub returns-in-Some-clause-leads : goal.returns-in-Some-clause-leads
returns-in-Some-clause-leads c = λ a lies.
    leads_there c.args.elements.now c.ended.result c.in-Some.element a (sym c.element_at.ensures ∙ c.in-Some.is) lies

pub returns-in-Some-2-clause-leads : goal.returns-in-Some-2-clause-leads
returns-in-Some-2-clause-leads c = λ a lies.
    let later : c.args.address < c.in-Some.element.range.first = grind (arith, nat_tests, c.if-element-address.false) in
    nowhere_between 0 c.args.elements.now c.ended.result c.args.address a c.requires c.ended.ensures.before lies.0
    (subst (λ (o : Option Element). IfSome o (λ e. a < e.range.first)) (sym (sym c.element_at.ensures ∙ c.in-Some.is)) (omega (arith, lies.1, later)))

pub returns-in-None-clause-leads : goal.returns-in-None-clause-leads
returns-in-None-clause-leads c = λ a lies.
    nowhere_between 0 c.args.elements.now c.ended.result c.args.address a c.requires c.ended.ensures.before lies.0
    (subst (λ (o : Option Element). IfSome o (λ e. a < e.range.first)) (sym (sym c.element_at.ensures ∙ c.in-None.is)) tt)
