use Rattle.std.proofs.Common.{sym, ◌∙◌}
use Rattle.std.proofs.lemmas.Bool.{false≢true}
use Rattle.desc_core.proofs.Tables.{too_long, well_read, not_toml}
use Rattle.desc_core.proofs.document.read_table.Goals as goal
use Rattle.desc_core.proofs.document.read_table.Goals.{then-is_memory, else-is_memory}

pub returns-then-bytes-gt-BYTE_LIMIT : goal.returns-then-bytes-gt-BYTE_LIMIT
returns-then-bytes-gt-BYTE_LIMIT c = rw c.of_document.ensures (too_long c.args.bytes.now c.if-bytes-gt-BYTE_LIMIT.true)

pub returns-in-Ok : goal.returns-in-Ok
returns-in-Ok c = well_read c.args.bytes.now _ c.if-bytes-gt-BYTE_LIMIT.false c.in-Ok.ensures.ok.0 c.in-Ok.ensures.ok.1

pub returns-after-is_memory : goal.returns-after-is_memory
returns-after-is_memory c =
    elim c.if-is_memory.branch [
      | then-is_memory w ↦ rw w.result-is tt
      | else-is_memory w ↦
          rw (w.result-is, w.of_document-else-is_memory.ensures) (not_toml c.args.bytes.now c.if-bytes-gt-BYTE_LIMIT.false
          (c.in-Err.ensures.refused (λ memory. false≢true (sym w.if-is_memory.false ∙ c.is_memory.ensures.1 memory))))
    ]
