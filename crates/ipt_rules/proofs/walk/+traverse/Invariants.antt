use Rattle.std.proofs.Common.{◌≤◌, ◌-◌, length}
use Rattle.host_net.specs.declared.packet.Packet.{Packet}
use Rattle.ipt_rules.specs.Matching.{matches}
use Rattle.ipt_rules.proofs.WalkingLemmas.{Along}
use Rattle.ipt_rules.proofs.walk.+traverse.Given as goal

abbrev pub decreases-traverse : goal.decreases-traverse
decreases-traverse g l = l.depth

abbrev pub decreases-loop-at : goal.decreases-loop-at
decreases-loop-at g l = length l.rules - l.from

abbrev pub invariant-loop-at : goal.invariant-loop-at
invariant-loop-at g l = record {
  within : l.from ≤ length l.rules;
  room : length l.chains ≤ length l.known_to_return;
  part : g.P.Packets.narrows l.fn.packets l.packets;
  same : g.R.Record.is_for l.met l.chains;
  along : (p : Packet) → g.P.Packets.contains l.packets p → Along (matches p l.state) l.chains (g.R.Record.has l.fn.met) (g.R.Record.has l.met) l.known_to_return l.number l.from;
}
