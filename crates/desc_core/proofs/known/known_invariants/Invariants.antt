use Rattle.std.proofs.Common.{◌≡◌, ◌<◌, ◌++◌, List, map, drop, length, option_map}
use Rattle.std.specs.Prelude.{All}
use Rattle.attr_core.specs.declared.assign.Assign.{Assign}
use Rattle.desc_core.specs.inner.KnownView.{known_view}
use Rattle.desc_core.specs.RawNetwork.{Known, known_of}
use Rattle.desc_core.specs.declared.known.KnownInvariant.{KnownInvariant}
use Rattle.desc_form.specs.inner.RawView.{invariant_view, template_view}
use Rattle.table_core.specs.Listing.{each}
use Rattle.desc_core.proofs.known.known_invariants.Given as goal

abbrev pub invariant-loop-invariant : goal.invariant-loop-invariant
invariant-loop-invariant l = record {
  hosts : All (λ (k : KnownInvariant). All (λ (a : Assign). a.host < length l.hosts) k.assigns.items) l.known.items;
  grown :
      option_map (λ (rest : List Known). map known_view l.known.items ++ rest) (each (known_of (map template_view l.templates) l.hosts) (map invariant_view (drop l.invariant-index l.written)))
      ≡ each (known_of (map template_view l.templates) l.hosts) (map invariant_view l.written);
}
