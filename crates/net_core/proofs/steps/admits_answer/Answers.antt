use Rattle.std.proofs.Common.{sym, ◌∙◌}
use Rattle.net_core.proofs.AdmittedLemmas.{asked_where_strict, not_asked}
use Rattle.net_core.proofs.steps.admits_answer.Goals as goal

pub returns-then-is_strict : goal.returns-then-is_strict
returns-then-is_strict c = asked_where_strict _ c.admits.result _ (sym c.is_strict.ensures ∙ c.if-is_strict.true) c.admits.ensures

pub returns-else-is_strict : goal.returns-else-is_strict
returns-else-is_strict c = not_asked _ _ (sym c.is_strict.ensures ∙ c.if-is_strict.false)
