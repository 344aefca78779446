use Rattle.std.proofs.Common.{◌<◌, length, ap, ◌∙◌}
use Rattle.std.specs.FinSet as set
use Rattle.std.proofs.lemmas.List.{get_or_read}
use Rattle.flow_set.specs.HostSet.{HostNumbers}
use Rattle.change_core.proofs.SharingLaws.{added_beyond, added_host}
use Rattle.change_core.proofs.sharing.Sharing.add.Goals as goal

pub returns-in-Some-Some-clause-added : goal.returns-in-Some-Some-clause-added
returns-in-Some-Some-clause-added c =
    let s = c.args.self.now in
    let host = c.in-Some-Some.host in
    let low : host < length s.hosts.items = (c.requires.newer host c.in-Some-Some.is-0).0 in
    added_host s host c.in-Some-Some.other c.insert.new.self c.args.newer c.args.older c.in-Some-Some.is-0 c.in-Some-Some.is-1 low
    (c.insert.ensures
    ∙ ap (λ (r : HostNumbers). set.insert r c.in-Some-Some.other)
    (get_or_read s.hosts.items host c.index_mut-row.result.now low c.index_mut-row.ensures.value set.empty))

pub returns-in-Some-None-clause-added : goal.returns-in-Some-None-clause-added
returns-in-Some-None-clause-added c =
    added_beyond c.args.self.now c.in-Some-None.host c.insert-in-Some-None.new.self c.args.newer c.args.older c.in-Some-None.is-0 c.in-Some-None.is-1
    c.insert-in-Some-None.ensures
