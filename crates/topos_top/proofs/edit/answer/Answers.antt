use Rattle.std.proofs.Common.{◌∙◌, ℕ, List, ap, map}
use Rattle.edit_core.specs.inner.Kept.{table_of}
use Rattle.edit_core.specs.inner.EditView.{edit_view}
use Rattle.run_core.specs.Reply.{error}
use Rattle.run_core.specs.declared.status.Status.TheVariants.{BadText}
use Rattle.topos_top.proofs.EditLaws.{ends_refused}
use Rattle.topos_top.proofs.edit.answer.Goals as goal

pub returns-in-Err-Refused : goal.returns-in-Err-Refused
returns-in-Err-Refused c =
    ends_refused (table_of c.args.session.now) (map edit_view c.args.edits.now) _ c.in-Err-Refused.line c.in-Err-Refused.why
    (rw c.in-Err-Refused.field-0-is at c.in-Err-Refused.ensures.refused) (c.error.ensures ∙ ap (λ (text : List ℕ). error BadText text) (rw c.in-Err-Refused.field-0-is at c.refused_edit.ensures))
