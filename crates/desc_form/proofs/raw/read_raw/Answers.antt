use Rattle.std.proofs.Common.{◌≡◌, None, IfOk, Ok, Err, Result, sym, ◌∙◌}
use Rattle.std.specs.declared.alloc.AllocError.{AllocError}
use Rattle.toml.specs.Data.{Members}
use Rattle.toml.specs.View.{table_view}
use Rattle.desc_form.specs.declared.raw.RawDescription.{RawDescription}
use Rattle.text_core.specs.FirstMatch.{first_of}
use Rattle.desc_form.specs.FormConditions.{form_conditions}
use Rattle.desc_form.specs.inner.RawView.{raw_view}
use Rattle.desc_form.specs.RawDescription as meant
use Rattle.desc_form.specs.RawDescription.{written}
use Rattle.desc_form.specs.inner.RawForm.{IsRawOf}
use Rattle.desc_form.proofs.RawDescriptionLaws.{written_stands}
use Rattle.desc_form.proofs.RawUniqueLaws.{written_is}
use Rattle.desc_form.proofs.raw.read_raw.Goals as goal

whole : (ms : Members)
    (r : Result RawDescription AllocError) → IfOk r (λ read. raw_view read ≡ written ms) → first_of (form_conditions ms) ≡ None
    → IfOk r (λ read. IsRawOf ms (raw_view read))
whole ms (Ok read) same formed = rw same (written_stands ms formed)
whole ms (Err e) same formed = same

pub returns-clause-whole : goal.returns-clause-whole
returns-clause-whole c = whole (table_view c.args.document.now) _ c.written_in.ensures

one : (ms : Members) (r : Result RawDescription AllocError) → IfOk r (λ read. raw_view read ≡ written ms) →
    (said : meant.RawDescription) → IsRawOf ms said
    → IfOk r (λ read. raw_view read ≡ said)
one ms (Ok read) same said is = same ∙ sym (written_is ms said is)
one ms (Err e) same said is = same

pub returns-clause-one : goal.returns-clause-one
returns-clause-one c = one (table_view c.args.document.now) _ c.written_in.ensures
