use Rattle.std.proofs.Common.{length}
use Rattle.nft_rules.specs.declared.table.Table.{Table}
use Rattle.nft_emit.proofs.BuildLaws.{built_names}
use Rattle.nft_emit.proofs.TableLaws.{laid_out, table_enforces, table_expected, table_loads}
use Rattle.nft_emit.proofs.emit.nft_layout.Goals as goal

pub returns-clause-loadable : goal.returns-clause-loadable
returns-clause-loadable c =
    let policy = c.args.policy.now in
    let cuts = c.in_ok-cuts.cuts.items in
    let heads = c.in_ok-heads.heads.items in
    let table : Table = record { forward = c.in_ok-forward.forward; chains = c.push_senders.new.chains.list } in
    table_loads policy cuts heads table c.hosts.ensures.policy.site.hosts c.in_ok-heads.ensures.few c.in_ok-heads.ensures.built
    (laid_out policy c.hosts.result.now cuts c.deref.result.now c.deref-2.result.now heads c.deref-3.result.now c.rest.result table c.hosts.ensures.value c.deref.ensures.value c.deref-2.ensures.value c.deref-3.ensures.value c.rest.ensures
    c.in_ok-cuts.ensures c.in_ok-heads.ensures.fits c.in_ok-heads.ensures.whole c.in_ok-forward.ensures)

pub returns-clause-enforces : goal.returns-clause-enforces
returns-clause-enforces c =
    let policy = c.args.policy.now in
    let cuts = c.in_ok-cuts.cuts.items in
    let heads = c.in_ok-heads.heads.items in
    let table : Table = record { forward = c.in_ok-forward.forward; chains = c.push_senders.new.chains.list } in
    table_enforces policy cuts heads table
    (laid_out policy c.hosts.result.now cuts c.deref.result.now c.deref-2.result.now heads c.deref-3.result.now c.rest.result table c.hosts.ensures.value c.deref.ensures.value c.deref-2.ensures.value c.deref-3.ensures.value c.rest.ensures
    c.in_ok-cuts.ensures c.in_ok-heads.ensures.fits c.in_ok-heads.ensures.whole c.in_ok-forward.ensures)

pub returns-clause-expected : goal.returns-clause-expected
returns-clause-expected c =
    let policy = c.args.policy.now in
    let cuts = c.in_ok-cuts.cuts.items in
    let heads = c.in_ok-heads.heads.items in
    let table : Table = record { forward = c.in_ok-forward.forward; chains = c.push_senders.new.chains.list } in
    table_expected policy cuts heads table c.hosts.ensures.policy
    (laid_out policy c.hosts.result.now cuts c.deref.result.now c.deref-2.result.now heads c.deref-3.result.now c.rest.result table c.hosts.ensures.value c.deref.ensures.value c.deref-2.ensures.value c.deref-3.ensures.value c.rest.ensures
    c.in_ok-cuts.ensures c.in_ok-heads.ensures.fits c.in_ok-heads.ensures.whole c.in_ok-forward.ensures)

pub returns-clause-named : goal.returns-clause-named
returns-clause-named c =
    built_names c.args.policy.now.site.hosts (length c.args.policy.now.site.hosts) c.push_senders.new.chains.list.items c.in_ok-heads.ensures.built
