use Rattle.std.proofs.Common.{◌≡◌, ◌+◌, ◌++◌, map, drop}
use Rattle.std.specs.List.{All}
use Rattle.desc_core.specs.inner.Judgement.{CanBeBuilt, built_of}
use Rattle.desc_core.specs.inner.KnownView.{known_view}
use Rattle.desc_core.specs.inner.Makeable.{CanBeMade}
use Rattle.desc_core.specs.UseConditions.{bad_at}
use Rattle.desc_core.specs.RawNetwork.{Known, made_of}
use Rattle.text_core.specs.FirstMatch.{Numbered, first_found, numbered_from}
use Rattle.desc_core.proofs.invariants.judged_invariants.Given as goal

abbrev pub invariant-loop-index : goal.invariant-loop-index
invariant-loop-index l = record {
  same :
      first_found (λ (k : Numbered Known). bad_at l.hosts k.number k.what) (numbered_from (l.index + 1) (map known_view (drop l.index l.invariants)))
      ≡ first_found (λ (k : Numbered Known). bad_at l.hosts k.number k.what) (numbered_from 1 (map known_view l.invariants));
  grown : map (built_of l.hosts) l.judged.items ++ map (made_of l.hosts) (map known_view (drop l.index l.invariants)) ≡ map (made_of l.hosts) (map known_view l.invariants);
  buildable : All (λ k. CanBeMade (known_view k).template) l.invariants → All (CanBeBuilt l.hosts) l.judged.items;
}
