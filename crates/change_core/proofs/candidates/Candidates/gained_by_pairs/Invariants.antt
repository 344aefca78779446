use Rattle.std.proofs.Common.{take}
use Rattle.pass_core.specs.Pairs.{AreListedFor, AreListedFrom}
use Rattle.change_core.specs.inner.Gaining.{IsGained}
use Rattle.change_core.proofs.candidates.Candidates.gained_by_pairs.Given as goal

abbrev pub invariant-loop-from : goal.invariant-loop-from
invariant-loop-from l =
    AreListedFor (λ from. AreListedFrom (IsGained l.self.gained.lost l.self.gained.held) l.named from) (take l.from-index l.named) l.list.items
