use Rattle.std.proofs.Common.{subst}
use Rattle.nft_rules.specs.declared.table.Table.{Table}
use Rattle.nft_rules.specs.Loadable.{IsLoadable}
use Rattle.nft_space.proofs.OneLaws.{passes_one}
use Rattle.nft_space.proofs.loadable_table.LoadableTable.table.Goals as goal

pub returns-clause-one : goal.returns-clause-one
returns-clause-one c = λ state p packet. passes_one c.args.self.now state p (subst (λ (t : Table). IsLoadable t) c.self.view_is c.self.invariant)
