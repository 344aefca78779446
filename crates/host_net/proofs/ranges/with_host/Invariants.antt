use Rattle.std.proofs.Common.{IsTrue, take}
use Rattle.host_net.proofs.RangesLemmas.{IsHeldWith}
use Rattle.host_net.specs.inner.Ranges.{is_ordered}
use Rattle.host_net.proofs.ranges.with_host.Given as goal

abbrev pub invariant-loop-prefix : goal.invariant-loop-prefix
invariant-loop-prefix l = IsTrue (is_ordered l.all.items) × IsHeldWith l.ranges (take l.prefix-index l.at) l.host l.all.items
