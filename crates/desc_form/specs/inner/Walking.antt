-- The findings of an iteration over the places: the results of the private functions that iterate. Nothing here is trusted: FoundLaws
-- proves that the findings are the first places.
use Rattle.std.specs.Prelude.{ℕ, ◌+◌, ℤ, Bool, List, [], ◌∷◌, find, Option, None, option_map}
use Rattle.std.specs.Option.{option_or}
use Rattle.toml.specs.Data.{Data, Members}
use Rattle.desc_form.specs.declared.places.Found.{Found}
use Rattle.desc_form.specs.declared.places.Row.{Row}
use Rattle.desc_form.specs.declared.places.Row.TheVariants.{Hosts, Assigns, Flows, Templates}
use Rattle.desc_form.specs.declared.refusal.Place.{Place}
use Rattle.desc_form.specs.declared.refusal.Place.TheVariants.{Host, Assign, FlowAt, Template}
use Rattle.text_core.specs.FirstMatch.{some_if}
use Rattle.desc_form.specs.Keys.{declared_version}
use Rattle.desc_form.specs.Places.{Location, has_unknown_key, has_missing_key, has_wrong_type, invariant_spots, locations}

-- The place with a number in one of the lists.
abbrev pub place_in : Row → ℕ → Place
place_in Hosts k = Host k
place_in (Assigns invariant) k = Assign invariant k
place_in Flows k = FlowAt k
place_in Templates k = Template k

-- No findings, in a document of the given version.
abbrev pub nothing_found : Option ℤ → Found
nothing_found said = record { version = said; unknown = None; missing = None; wrong = None }

-- The findings after one more place.
abbrev pub after : Found → Location → Found
after f s = record {
  version = f.version;
  unknown = option_or f.unknown (some_if (has_unknown_key f.version s.place s.value) s.place);
  missing = option_or f.missing (some_if (has_missing_key f.version s.place s.value) s.place);
  wrong = option_or f.wrong (some_if (has_wrong_type f.version s.place s.value) s.place);
}

-- The findings after further places.
abbrev pub after_all : Found → List Location → Found
after_all f [] = f
after_all f (s ∷ ss) = after_all (after f s) ss

-- The findings after the invariants from number k on, each with its assigns.
abbrev pub after_invariants : Found → ℕ → List Data → Found
after_invariants f k [] = f
after_invariants f k (d ∷ ds) = after_invariants (after_all f (invariant_spots (record { number = k; what = d }))) (k + 1) ds

-- The first place whose value satisfies a condition.
unfoldable pub place_where : (Option ℤ → Place → Data → Bool) → Members → Option Place
place_where holds document = option_map (λ s. s.place) (find (λ s. holds (declared_version document) s.place s.value) (locations document))

-- The first place for each of the three conditions.
abbrev pub first_places : Members → Found
first_places document = record {
  version = declared_version document;
  unknown = place_where has_unknown_key document;
  missing = place_where has_missing_key document;
  wrong = place_where has_wrong_type document;
}
