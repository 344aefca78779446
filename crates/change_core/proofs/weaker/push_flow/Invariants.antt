use Rattle.std.proofs.Common.{◌≡◌, ◌++◌, take}
use Rattle.std.specs.List.{flat_map}
use Rattle.change_core.specs.inner.Listing.{weaker_from}
use Rattle.change_core.specs.inner.Serving.{flows_meet}
use Rattle.change_core.proofs.weaker.push_flow.Given as goal

abbrev pub invariant-loop-sender : goal.invariant-loop-sender
invariant-loop-sender l =
    l.list.items ≡ l.fn.list.items
    ++ flat_map (weaker_from (flows_meet l.services l.past.services.now l.flow) l.past.denied.now.flows l.flow l.to) (take l.sender-index l.from)
