use Rattle.std.proofs.Common.{refl}
use Rattle.topos_top.specs.FileFormats.{edits}
use Rattle.run_core.proofs.Taking.{refused_whole}
use Rattle.topos_top.proofs.reading.read_edits.Goals as goal

pub returns-in-Err-Refused : goal.returns-in-Err-Refused
returns-in-Err-Refused g c =
    let fault = rw (c.deref.ensures.value, c.in-Err-Refused.field-0-is) at c.in-Err-Refused.ensures.refused in
    refused_whole edits _ _ _ _ c.in_ok-bytes.ensures
    (record { line = _; refuses = record { number = _; why = _; fault = fault; told = refl }; replied = rw c.list_reason.ensures at c.bad_text.ensures })
