use Rattle.std.proofs.Common.{subst}
use Rattle.ofp_rules.proofs.AddingLaws.{contradicts_none}
use Rattle.ofp_rules.specs.inner.Build.{IsTable}
use Rattle.ofp_read.proofs.whole.with_entry.Goals as goal

pub returns-in-Ok-clause-clear : goal.returns-in-Ok-clause-clear
returns-in-Ok-clause-clear c =
    let table = subst IsTable c.in-Ok.ensures.added c.in-Ok.ensures.table in
    contradicts_none c.args.table c.args.entry table.accepted.1
