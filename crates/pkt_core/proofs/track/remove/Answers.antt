use Rattle.std.proofs.Common.{None}
use Rattle.pkt_core.proofs.PacketOrder.{kept_in-updates}
use Rattle.pkt_core.proofs.track.remove.Goals as goal

pub returns : goal.returns
returns c = kept_in-updates c.args.kept.now.entries c.remove.new.self.entries c.args.packet.now None c.remove.ensures.updates.0
