use Rattle.std.proofs.Common.{◌≡◌, ◌⊎◌, ℕ, ◌-◌, ◌<◌, ◌≤◌, ◌^◌}
use Rattle.host_net.specs.Host.{owner_of, rest_of}
use Rattle.nft_emit.specs.inner.Cuts.{AreOwned, IsCut, LieBetween}
use Rattle.nft_emit.proofs.cuts.cuts_of.Given as goal

abbrev pub invariant-loop-cuts : goal.invariant-loop-cuts
invariant-loop-cuts l = record {
  owned : AreOwned l.hosts l.cuts.items;
  small : l.first ≤ 4294967295;
  covered : (a : ℕ) → a < l.first → (owner_of l.hosts a ≡ rest_of l.hosts) ⊎ IsCut l.cuts.items a;
  between : LieBetween 0 l.cuts.items l.first;
}

abbrev pub decreases-loop-cuts : goal.decreases-loop-cuts
decreases-loop-cuts l = 2 ^ 32 - l.first
