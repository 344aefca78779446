use Rattle.host_emit.proofs.LocalLayoutLaws.{incoming_legal, outgoing_legal}
use Rattle.host_emit.proofs.local.empty_chains.Goals as goal

pub unwrap-requires : goal.unwrap-requires
unwrap-requires c = c.new.ensures.legal.1 incoming_legal

pub unwrap-requires-2 : goal.unwrap-requires-2
unwrap-requires-2 c = c.new-2.ensures.legal.1 outgoing_legal
