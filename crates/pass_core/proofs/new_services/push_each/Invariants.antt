use Rattle.std.proofs.Common.{take}
use Rattle.header_space.specs.Owners.{GoesBetween}
use Rattle.pass_core.specs.NewPackets.{LetsPass}
use Rattle.pass_core.specs.Pairs.{AreListedFor, IsListedFor}
use Rattle.pass_core.specs.inner.Listing.{IsAdded}
use Rattle.pass_core.proofs.new_services.push_each.Given as goal

abbrev pub invariant-loop-to : goal.invariant-loop-to
invariant-loop-to l =
    IsAdded (λ ss. AreListedFor (λ to. IsListedFor (LetsPass l.question) (GoesBetween l.from.ranges.items to.ranges.items) l.from.owner to.owner)
    (take l.to-index l.owned) ss) l.fn.list.items l.list.items
