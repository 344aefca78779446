use Rattle.std.proofs.Common.{List, ◌∷◌, [], ◌++◌, true≢false, sym, ap, ◌∙◌}
use Rattle.pass_core.specs.declared.passing_range.PassingRange.{PassingRange}
use Rattle.pass_core.specs.inner.Joining.{extends, follows}
use Rattle.pass_core.proofs.passing_range.join.Goals as goal

pub returns-then-goes_on : goal.returns-then-goes_on
returns-then-goes_on c =
    extends c.pop.new.self.items c.in-Some.last c.in-Some.ensures.items (c.goes_on.ensures.0 c.if-goes_on.true) c.in_ok-push-2.ensures.items

pub returns : goal.returns
returns c =
    follows c.pop.new.self.items c.in-Some.last c.in-Some.ensures.items (λ goes. true≢false (sym (c.goes_on.ensures.1 goes) ∙ c.if-goes_on.false))
    (c.in_ok-push-4.ensures.items ∙ ap (λ (xs : List PassingRange). xs ++ c.args.range ∷ []) c.in_ok-push-3.ensures.items)
