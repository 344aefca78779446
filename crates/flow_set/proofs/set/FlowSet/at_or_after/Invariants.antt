use Rattle.flow_set.specs.inner.BitRows.{IsAsFar}
use Rattle.flow_set.proofs.set.FlowSet.at_or_after.Given as goal

-- The flows before the requested position are those before this position.
abbrev pub invariant-loop-sender : goal.invariant-loop-sender
invariant-loop-sender l = IsAsFar l.self.flows (record { from = l.from; to = l.to }) (record { from = l.sender; to = l.start })
