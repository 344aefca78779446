use Rattle.std.proofs.Common.{◌≡◌, ℕ, ◌<◌, length}
use Rattle.change_core.specs.inner.Sharing.{AreSharers, row_at}
use Rattle.change_core.proofs.sharing.shared_owners.Given as goal

abbrev pub invariant-loop-host : goal.invariant-loop-host
invariant-loop-host l = record {
  counted : length l.rows.items ≡ l.host;
  shared : (i : ℕ) → i < l.host → AreSharers l.new l.old i (row_at l.rows.items i);
}
