use Rattle.std.proofs.Common.{◌≡◌, map}
use Rattle.std.specs.List.{range_with_len}
use Rattle.tmpl_reach.specs.NoReach.{others}
use Rattle.tmpl_reach.proofs.no_reach.NoReach.new.Given as goal

abbrev pub invariant-loop-host : goal.invariant-loop-host
invariant-loop-host l = l.denied.items ≡ map (others l.n) (range_with_len 0 l.host)
