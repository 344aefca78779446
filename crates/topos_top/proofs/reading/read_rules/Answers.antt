use Rattle.topos_top.specs.FileFormats.{rules}
use Rattle.run_core.proofs.Taking.{refused_whole}
use Rattle.topos_top.proofs.reading.read_rules.Goals as goal

pub returns-in-Ok : goal.returns-in-Ok
returns-in-Ok g c =
    let read = rw c.deref.ensures.value at c.in-Ok.ensures in
    record { said = read.0; told = read.1; read = (c.in_ok-bytes.bytes.items, c.in_ok-bytes.ensures, read.2) }

pub returns-in-Err-Refused : goal.returns-in-Err-Refused
returns-in-Err-Refused g c =
    let refuses = rw (c.deref.ensures.value, c.in-Err-Refused.field-0-is) at c.in-Err-Refused.ensures in
    refused_whole (rules c.args.dialect) _ _ _ _ c.in_ok-bytes.ensures (record { line = _; refuses = refuses; replied = c.bad_text.ensures })
