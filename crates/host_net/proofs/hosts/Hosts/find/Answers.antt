use Rattle.std.proofs.Common.{◌≡◌, sym, ◌∙◌}
use Rattle.host_net.specs.inner.HostsView.{hosts_view}
use Rattle.host_net.proofs.HostsLemmas.{key_place, name_given, name_missing, unnamed}
use Rattle.host_net.proofs.hosts.Hosts.find.Goals as goal

pub returns-in-Some : goal.returns-in-Some
returns-in-Some c =
    let same : c.in-Some.name ≡ c.args.name.now = name_given c.args.name.now c.in-Some.name c.new.result c.new.ensures c.in-Some.is in
    rw (← c.self.view_is, ← same, c.number.ensures) (c.get_index_of.ensures.index ∙ key_place c.in-Some.name c.self.inside.known.entries)

pub returns-in-None : goal.returns-in-None
returns-in-None c =
    let bad = name_missing c.args.name.now c.new.result c.new.ensures c.in-None.is in
    rw (← c.self.view_is) (sym (unnamed c.args.name.now (hosts_view c.self.inside.known.entries) 0 bad c.self.invariant.0.named))
