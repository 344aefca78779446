use Rattle.std.proofs.Common.{subst}
use Rattle.edit_core.proofs.InPlaceLemmas.{described_after, done_after}
use Rattle.edit_core.specs.inner.InPlace.{IsOfFlow}
use Rattle.edit_core.specs.inner.EditView.{change_view}
use Rattle.net_core.specs.Network.{Network}
use Rattle.toml.specs.View.{table_view}
use Rattle.edit_core.proofs.in_place.edit_in_place.Goals as goal

pub returns-then-edit_table-clause-described : goal.returns-then-edit_table-clause-described
returns-then-edit_table-clause-described c =
    let old = table_view c.args.table.now in
    let change = change_view c.args.change.now in
    let right = subst (λ (d : Network). IsOfFlow old d change c.in_ok-flow.flow) c.description.ensures (c.in_ok-flow.ensures.right old) in
    described_after change old (table_view c.edit_table.new.table) c.args.network.now.network c.edit_table.new.network.network c.in_ok-flow.flow
    c.requires.described right (c.edit_table.ensures.table c.if-edit_table.true) (c.edit_table.ensures.network c.if-edit_table.true)

pub returns-then-edit_table-clause-done : goal.returns-then-edit_table-clause-done
returns-then-edit_table-clause-done c =
    let old = table_view c.args.table.now in
    let change = change_view c.args.change.now in
    let right = subst (λ (d : Network). IsOfFlow old d change c.in_ok-flow.flow) c.description.ensures (c.in_ok-flow.ensures.right old) in
    done_after change old (table_view c.edit_table.new.table) c.args.network.now.network c.edit_table.new.network.network
    c.edit_table.new.network.policy c.summary_of.result c.in_ok-flow.flow c.requires.described right (c.edit_table.ensures.table c.if-edit_table.true)
    (c.edit_table.ensures.network c.if-edit_table.true) c.summary_of.ensures.policy c.summary_of.ensures.tells
