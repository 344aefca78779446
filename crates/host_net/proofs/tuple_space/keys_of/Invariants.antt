use Rattle.std.proofs.Common.{◌≡◌, ◌++◌, drop}
use Rattle.std.specs.Prelude.{Contains}
use Rattle.host_net.specs.declared.tuple_space.Key.{Key}
use Rattle.host_net.specs.inner.CoverView.{IsSmall, keys_from}
use Rattle.host_net.proofs.tuple_space.keys_of.Given as goal

abbrev pub invariant-loop-place : goal.invariant-loop-place
invariant-loop-place l = record {
  same : l.keys.items ++ keys_from l.place (drop l.place l.all) ≡ keys_from 0 l.all;
  small : (k : Key) → Contains l.keys.items k → IsSmall k;
}
