use Rattle.std.proofs.Common.{ap, codes}
use Rattle.run_core.specs.Tables.{NoText}
use Rattle.run_core.specs.TextFault.{fault_line}
use Rattle.run_core.proofs.dialect.tables.read_with_chains.Goals as goal

pub returns-in-Err-Refused : goal.returns-in-Err-Refused
returns-in-Err-Refused c =
    let line = c.in-Err-Refused.line in
    let cause = rw c.in-Err-Refused.field-0-is at c.in-Err-Refused.ensures.refused in
    let reason = rw c.in-Err-Refused.why-is at c.name.ensures in
    rw c.in-Err-Refused.line-is (NoText line c.in-Err-Refused.why cause (ap (fault_line (codes "rules") line) reason))
