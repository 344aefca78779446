use Rattle.std.proofs.Common.{◌≡◌, ◌<◌, ◌++◌, List, map, drop, length, option_map}
use Rattle.std.specs.Prelude.{All}
use Rattle.attr_core.specs.inner.AssignView.{given_of}
use Rattle.attr_core.specs.Assigns.{Given}
use Rattle.attr_core.specs.declared.assign.Assign.{Assign}
use Rattle.desc_core.specs.RawNetwork.{given_by}
use Rattle.desc_form.specs.inner.RawView.{assign_view}
use Rattle.table_core.specs.Listing.{each}
use Rattle.desc_core.proofs.known.assigns_among.Given as goal

abbrev pub invariant-loop-assign : goal.invariant-loop-assign
invariant-loop-assign l = record {
  hosts : All (λ (a : Assign). a.host < length l.hosts) l.assigns.items;
  grown :
      option_map (λ (rest : List Given). map given_of l.assigns.items ++ rest) (each (given_by l.hosts) (map assign_view (drop l.assign-index l.written)))
      ≡ each (given_by l.hosts) (map assign_view l.written);
}
