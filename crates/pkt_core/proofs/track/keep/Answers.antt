use Rattle.std.proofs.Common.{Some}
use Rattle.pkt_core.proofs.PacketOrder.{kept_in-updates}
use Rattle.pkt_core.proofs.track.keep.Goals as goal

pub returns-clause-kept : goal.returns-clause-kept
returns-clause-kept c = kept_in-updates c.args.kept.now.entries c.insert.new.self.entries c.args.packet.now (Some c.args.answered) c.in_ok-insert.ensures.updates.0
