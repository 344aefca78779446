use Rattle.std.proofs.Common.{take}
use Rattle.header_space.specs.Owners.{GoesBetween}
use Rattle.pass_core.specs.Pairs.{AreListedFor, IsListedFor}
use Rattle.pass_core.specs.inner.Listing.{IsAdded}
use Rattle.change_core.specs.inner.Gaining.{IsGained}
use Rattle.change_core.proofs.candidates.Candidates.push_from.Given as goal

abbrev pub invariant-loop-to : goal.invariant-loop-to
invariant-loop-to l =
    IsAdded (λ ss. AreListedFor (λ to. IsListedFor (IsGained l.self.gained.lost l.self.gained.held)
    (GoesBetween l.from.ranges.items to.ranges.items) l.from.owner to.owner) (take l.to-index l.named) ss) l.fn.list.items l.list.items
