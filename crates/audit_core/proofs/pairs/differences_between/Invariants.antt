use Rattle.std.proofs.Common.{take}
use Rattle.std.specs.List.{flat_map}
use Rattle.audit_core.specs.Pairs.{AreListedFor, cases_between}
use Rattle.audit_core.proofs.pairs.differences_between.Given as goal

abbrev pub invariant-loop-from : goal.invariant-loop-from
invariant-loop-from l =
    AreListedFor l.sides (flat_map (λ from. flat_map (λ to. cases_between from.owner to.owner) l.owned) (take l.from-index l.owned)) l.list.items
