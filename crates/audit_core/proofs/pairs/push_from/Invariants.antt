use Rattle.std.proofs.Common.{take}
use Rattle.std.specs.List.{All, flat_map}
use Rattle.header_space.specs.Owners.{IsOwned}
use Rattle.audit_core.specs.inner.Pairs.{AreAdded, IsSender}
use Rattle.audit_core.specs.Pairs.{cases_between}
use Rattle.audit_core.specs.Sides.{Sides}
use Rattle.audit_core.proofs.pairs.push_from.Given as goal

abbrev pub invariant-loop-to : goal.invariant-loop-to
invariant-loop-to l = (sides : Sides) → IsSender sides l.from → All (IsOwned sides.policy.site.hosts) l.owned
    → AreAdded sides (flat_map (λ to. cases_between l.from.owner to.owner) (take l.to-index l.owned)) l.fn.list.items l.list.items
