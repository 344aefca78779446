use Rattle.std.proofs.Common.{◌≡◌, [], map, take, drop}
use Rattle.host_net.specs.inner.Refusal.{overlap_from}
use Rattle.host_net.proofs.overlap.overlap.Given as goal

abbrev pub invariant-loop-item : goal.invariant-loop-item
invariant-loop-item l =
    overlap_from (map (λ h. h.prefixes.items) l.hosts) (take l.item l.at) (drop l.item l.at)
    ≡ overlap_from (map (λ h. h.prefixes.items) l.hosts) [] l.at
