use Rattle.std.proofs.Common.{◌≡◌, ◌≤◌, ◌+◌, ◌*◌, length}
use Rattle.nft_emit.specs.inner.Building.{AreBuilt, Extends}
use Rattle.nft_emit.specs.inner.Sending.{RowFits}
use Rattle.nft_emit.proofs.sender.row_of.Given as goal

abbrev pub invariant-loop-to : goal.invariant-loop-to
invariant-loop-to l = record {
  kept : Extends l.fn.chains.list.items l.chains.list.items;
  few : length l.chains.list.items ≤ l.from * 257 + l.to;
  built : AreBuilt l.policy.site.hosts l.from l.chains.list.items;
  whole : length l.row.items ≡ l.to;
  fits : RowFits l.chains.list.items l.policy l.from l.row.items;
}
