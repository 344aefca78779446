use Rattle.std.proofs.Common.{◌≡◌, ◌≤◌, ◌*◌, length}
use Rattle.nft_emit.specs.inner.Building.{AreBuilt}
use Rattle.nft_emit.specs.inner.Sending.{AreHeads}
use Rattle.nft_emit.proofs.emit.push_senders.Given as goal

abbrev pub invariant-loop-from : goal.invariant-loop-from
invariant-loop-from l = record {
  few : length l.chains.list.items ≤ l.from * 257;
  built : AreBuilt l.policy.site.hosts l.from l.chains.list.items;
  whole : length l.heads.items ≡ l.from;
  fits : AreHeads l.chains.list.items l.policy l.cuts l.heads.items;
}
