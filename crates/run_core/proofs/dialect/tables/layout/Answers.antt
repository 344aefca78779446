use Rattle.std.proofs.Common.{◌∙◌, ap, refl, subst, sym}
use Rattle.nft_chains.specs.Translation.{chains_of}
use Rattle.nft_rules.specs.Semantics.{PassesTable}
use Rattle.nft_rules.specs.declared.table.Table.{Table}
use Rattle.nft_text.specs.Text.{table_text}
use Rattle.pkt_core.specs.Filter.{Enforces}
use Rattle.run_core.proofs.dialect.tables.layout.Goals as goal

pub text_of-requires : goal.text_of-requires
text_of-requires c = rw c.table-2.ensures.value c.table-2.ensures.loadable.named

pub returns : goal.returns
returns c =
    let table = c.of-table.result in
    let enforces = subst (λ (t : Table). Enforces (PassesTable t) c.args.policy.now) (sym c.of-table.ensures) c.in_ok-nft_layout.ensures.enforces in (
      tt,
      (
        record { text = table_text table; chains = chains_of table },
        record { table = table; has_rules = record { is_table = c.table_ranges.ensures; text = refl; chains = refl }; enforces = enforces },
        c.in_ok-text.ensures ∙ ap table_text c.table-2.ensures.value,
      ),
    )
