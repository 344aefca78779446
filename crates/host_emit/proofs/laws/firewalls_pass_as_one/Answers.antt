use Rattle.host_emit.proofs.LocalEventsLaws.{passes_as_forwarded}
use Rattle.host_emit.proofs.laws.firewalls_pass_as_one.Goals as goal

pub returns : goal.returns
returns c = passes_as_forwarded
