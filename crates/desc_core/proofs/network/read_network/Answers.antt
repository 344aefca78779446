use Rattle.std.proofs.Common.{sym, ◌∙◌}
use Rattle.desc_core.proofs.NetworkLemmas.{hosts_refused, hosts_unrefused}
use Rattle.desc_form.specs.inner.RawView.{raw_view}
use Rattle.desc_core.proofs.network.read_network.Goals as goal

pub returns-in-Some : goal.returns-in-Some
returns-in-Some c = hosts_refused (raw_view c.args.written.now) c.in-Some.refusal (sym c.in_ok-refusal.ensures.first ∙ c.in-Some.is)

pub returns : goal.returns
returns c = rw (hosts_unrefused (raw_view c.args.written.now) (sym c.in_ok-refusal.ensures.first ∙ c.in_default.is)) c.network_of_hosts.ensures
