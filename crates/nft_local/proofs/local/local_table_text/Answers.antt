use Rattle.std.proofs.Common.{sym, subst}
use Rattle.nft_rules.specs.declared.table.Table.{Table}
use Rattle.nft_rules.specs.Loadable.{AreNamed}
use Rattle.nft_local.proofs.local.local_table_text.Goals as goal

pub machine_text_of-requires-clause-named : goal.machine_text_of-requires-clause-named
machine_text_of-requires-clause-named c =
    subst (λ (t : Table). AreNamed t.chains.items) (sym c.table.ensures.value) c.in_ok-machine.ensures.machine.loadable.named
