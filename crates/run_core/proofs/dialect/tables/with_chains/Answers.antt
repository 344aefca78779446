use Rattle.std.proofs.Common.{ap, codes, refl}
use Rattle.nft_chains.specs.Translation.{chains_of}
use Rattle.run_core.specs.Tables.{TooLarge}
use Rattle.run_core.specs.TextFault.{fault_line}
use Rattle.run_core.proofs.TableLaws.{few_if_accepted}
use Rattle.run_core.proofs.dialect.tables.with_chains.Goals as goal

pub returns-in-Ok-Ok : goal.returns-in-Ok-Ok
returns-in-Ok-Ok c =
    let bytes = c.args.bytes.now in
    let table = c.args.table in
    let read = c.requires in
    let chains = rw c.in-Ok-Ok.field-0-is at c.in-Ok-Ok.ensures.chains in
    let accepted = rw c.in-Ok-Ok.field-0-is at c.in-Ok-Ok.ensures.accepted in (
      record { text = bytes; chains = chains_of table },
      chains,
      record { is_table = c.table_ranges.ensures; text = read.is_text; chains = refl },
      record {
        is_text = refl;
        short = read.short;
        few = few_if_accepted (chains_of table) accepted;
        table = table;
        has_rules = record { is_table = c.table_ranges.ensures; text = read.is_text; chains = refl };
      },
    )

pub returns-in-Ok-Err : goal.returns-in-Ok-Err
returns-in-Ok-Err c =
    let refused = rw c.in-Ok-Err.field-0-is at c.in-Ok-Err.ensures.refused in
    TooLarge c.args.table c.in-Ok-Err.refusal c.table_ranges.ensures c.requires.is_text refused (ap (fault_line (codes "rules") 0) c.size_reason.ensures)
