use Rattle.std.proofs.Common.{◌≡◌, ◌∙◌, sym, true, false}
use Rattle.nft_space.proofs.CheckLaws.{loadable_decided}
use Rattle.nft_space.proofs.loadable_table.LoadableTable.checked.Goals as goal

pub of-requires : goal.of-requires
of-requires c = (loadable_decided c.args.table).0 (sym c.in_ok-is_loadable.ensures ∙ c.if-branch.true)

pub returns-else-branch-clause-none : goal.returns-else-branch-clause-none
returns-else-branch-clause-none c = λ loadable.
    let yes : true ≡ false = sym ((loadable_decided c.args.table).1 loadable) ∙ sym c.in_ok-is_loadable.ensures ∙ c.if-branch.false in
    cc
