use Rattle.std.proofs.Common.{◌≡◌, ◌++◌, take}
use Rattle.change_core.specs.inner.Listing.{weaker_from}
use Rattle.change_core.specs.inner.Serving.{flows_meet}
use Rattle.change_core.proofs.weaker.push_from.Given as goal

abbrev pub invariant-loop-receiver : goal.invariant-loop-receiver
invariant-loop-receiver l =
    l.list.items ≡ l.fn.list.items
    ++ weaker_from (flows_meet l.services l.past.services.now l.flow) l.past.denied.now.flows l.flow (take l.receiver-index l.to) l.sender
