use Rattle.std.proofs.Common.{◌≡◌, ◌<◌, ℕ, List, true, get_or}
use Rattle.host_net.specs.declared.tuple_space.Ends.{Ends}
use Rattle.host_net.specs.declared.tuple_space.Key.{Key}
use Rattle.host_net.specs.inner.CoverView.{AreFirst, has_lengths, keys_from}
use Rattle.host_net.proofs.tuple_space.groups_of.Given as goal

abbrev pub invariant-loop-key : goal.invariant-loop-key
invariant-loop-key l = record {
  listed : (j : ℕ) (e : Key) → j < l.key-index → has_lengths l.groups.items (get_or l.keys j e).lengths ≡ true;
  first : (all : List Ends) → l.keys ≡ keys_from 0 all → AreFirst l.groups.items l.keys;
}
