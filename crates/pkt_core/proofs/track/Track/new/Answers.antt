use Rattle.std.proofs.Common.{Bool, List, sym, subst}
use Rattle.host_net.specs.declared.packet.Packet.{Packet}
use Rattle.pkt_core.proofs.ConnectionLaws.{tracks_from_nothing}
use Rattle.pkt_core.specs.inner.PolicyRuns.{TracksAsExpected}
use Rattle.pkt_core.specs.inner.ConnectionTable.{kept_in}
use Rattle.pkt_core.proofs.track.Track.new.Goals as goal

pub returns-clause-expected : goal.returns-clause-expected
returns-clause-expected c = subst (λ (entries : List (Packet × Bool)). TracksAsExpected (kept_in entries)) (sym c.new.ensures.empty) tracks_from_nothing
