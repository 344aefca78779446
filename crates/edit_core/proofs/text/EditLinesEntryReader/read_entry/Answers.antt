use Rattle.std.proofs.Common.{◌≡◌, ℕ, List, Ok, Err, refl, sym, subst, rules, tests}
use Rattle.text_core.specs.ListFormat.{IsBad}
use Rattle.text_core.specs.inner.TextAnswers.{HasReason}
use Rattle.text_core.specs.declared.faults.LineFault.{LineFault}
use Rattle.text_core.specs.declared.faults.LineFault.TheVariants.{Bad, Memory}
use Rattle.text_core.specs.declared.faults.ListWhy.{ListWhy}
use Rattle.edit_core.proofs.ChangeLaws.{change_told}
use Rattle.edit_core.proofs.EditFaultLaws.{refused_is_bad}
use Rattle.edit_core.specs.Edit.{Change, Edit}
use Rattle.edit_core.specs.EditsText.{edits_text}
use Rattle.edit_core.specs.inner.ChangeSteps.{change_of}
use Rattle.edit_core.specs.inner.EditView.{change_view}
use Rattle.edit_core.specs.inner.EditsAnswers.{Says}
use Rattle.edit_core.proofs.text.EditLinesEntryReader.read_entry.Goals as goal

-- A line that is parsed encodes its edit.
told : (n : ℕ) (line : List ℕ) (e : Edit) (c : Change) → e ≡ record { line = n; change = c } → change_of line ≡ Ok c → edits_text.Tells n line e
told n line e c made read = subst (λ (x : Edit). edits_text.Tells n line x) (sym made) (refl, change_told line c read)

-- A line that encodes no edit is rejected for that reason.
unread : (n : ℕ) (before : List Edit) (line : List ℕ) (fault : LineFault ListWhy) → Says (change_of line) (Err fault)
    → HasReason (IsBad edits_text n before line) fault
unread n before line (Bad why) said = refused_is_bad n before line why said
unread n before line Memory said = tt

pub returns-clause-ok : goal.returns-clause-ok
returns-clause-ok c = told c.args.number c.args.line.now _ (change_view c.in_ok-change.change) c.on_line.ensures c.in_ok-change.ensures

pub returns-in_err-change-clause-err : goal.returns-in_err-change-clause-err
returns-in_err-change-clause-err c =
    let same : c.from_residual.result ≡ Err c.in_err-change.field-0.0 = search (rules, tests) in
    rw same (λ before. unread c.args.number before c.args.line.now c.in_err-change.field-0.0 c.in_err-change.ensures)
