use Rattle.std.proofs.Common.{inl}
use Rattle.run_core.specs.declared.dialect.Dialect.TheVariants.{Nft}
use Rattle.query_top.specs.PlainRules.{plain_rules}
use Rattle.run_core.proofs.Taking.{refused_whole}
use Rattle.query_top.proofs.plain_rules.read_plain_table.Goals as goal

pub returns-in-Ok : goal.returns-in-Ok
returns-in-Ok g c =
    let read = rw c.deref.ensures.value at c.in-Ok.ensures in
    (read.0, read.1, read.2, (c.in_ok-bytes.bytes.items, c.in_ok-bytes.ensures, (read.3, tt)))

pub returns-in-Err-Refused : goal.returns-in-Err-Refused
returns-in-Err-Refused g c =
    let refuses = rw (c.deref.ensures.value, c.in-Err-Refused.field-0-is) at c.in-Err-Refused.ensures in
    refused_whole (plain_rules Nft) _ _ _ _ c.in_ok-bytes.ensures (record { line = _; refuses = inl refuses; replied = c.bad_text.ensures })
