use Rattle.std.proofs.Common.{sym, subst}
use Rattle.nft_rules.specs.declared.table.Table.{Table}
use Rattle.nft_rules.specs.Loadable.{AreNamed}
use Rattle.nft_read.proofs.whole.with_text.Goals as goal

pub is_text_of-requires : goal.is_text_of-requires
is_text_of-requires c = subst (λ (t : Table). AreNamed t.chains.items) (sym c.table-2.ensures.value) c.table-2.ensures.loadable.named
