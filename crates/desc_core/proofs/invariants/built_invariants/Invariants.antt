use Rattle.std.proofs.Common.{◌≡◌, ◌++◌, length, map}
use Rattle.std.specs.List.{All}
use Rattle.std.specs.Vec.Iter.{into_iter_items, into_iter_len}
use Rattle.desc_core.specs.inner.Judgement.{CanBeBuilt, built_of}
use Rattle.desc_core.proofs.invariants.built_invariants.Given as goal

abbrev pub invariant-loop-one : goal.invariant-loop-one
invariant-loop-one l = record {
  sized : into_iter_len l.one-iterator ≡ length (into_iter_items l.one-iterator);
  buildable : All (CanBeBuilt l.hosts) (into_iter_items l.one-iterator);
  grown : l.built.items ++ map (built_of l.hosts) (into_iter_items l.one-iterator) ≡ map (built_of l.hosts) l.fn.judged.items;
}
