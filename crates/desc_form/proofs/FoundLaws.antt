-- The findings after all places are the first places for each of the three conditions.
use Rattle.std.proofs.Common.{◌≡◌, ℕ, ℤ, ◌+◌, Bool, true, false, cond, List, [], ◌∷◌, ◌++◌, map, Option, Some, None, option_map, refl, ap, ◌∙◌, sym}
use Rattle.std.specs.Prelude.{find, flat_map, codes}
use Rattle.std.specs.Option.{option_or}
use Rattle.toml.specs.Data.{Data, Members, table}
use Rattle.text_core.specs.FirstMatch.{numbered, numbered_from, some_if}
use Rattle.desc_form.specs.declared.places.Found.{Found}
use Rattle.desc_form.specs.declared.refusal.Place.{Place}
use Rattle.desc_form.specs.declared.refusal.Place.TheVariants.{Document, Host, FlowAt, Template}
use Rattle.desc_form.specs.declared.refusal.Why.{Why}
use Rattle.desc_form.specs.Refusals.{refused}
use Rattle.desc_form.specs.Keys.{declared_version}
use Rattle.desc_form.specs.Places.{Location, first_place, has_missing_key, has_unknown_key, has_wrong_type, invariant_spots, listed, spot_in, locations}
use Rattle.desc_form.specs.inner.Walking.{after, after_all, after_invariants, first_places, nothing_found, place_where}

after_append : (f : Found) (ss ts : List Location) → after_all f (ss ++ ts) ≡ after_all (after_all f ss) ts
after_append f [] ts = refl
after_append f (s ∷ ss) ts = after_append (after f s) ss ts

after_invariants_is : (f : Found) (k : ℕ) (ds : List Data)
    → after_invariants f k ds ≡ after_all f (flat_map invariant_spots (numbered_from k ds))
after_invariants_is f k [] = refl
after_invariants_is f k (d ∷ ds) =
    let here = invariant_spots (record { number = k; what = d }) in
    after_invariants_is (after_all f here) (k + 1) ds
    ∙ sym (after_append f here (flat_map invariant_spots (numbered_from (k + 1) ds)))

-- The place of the first spot whose value satisfies a condition.
abbrev place_of : (Place → Data → Bool) → List Location → Option Place
place_of holds ss = option_map (λ s. s.place) (find (λ s. holds s.place s.value) ss)

abbrev further : Found → List Location → Found
further f ss = record {
  version = f.version;
  unknown = option_or f.unknown (place_of (has_unknown_key f.version) ss);
  missing = option_or f.missing (place_of (has_missing_key f.version) ss);
  wrong = option_or f.wrong (place_of (has_wrong_type f.version) ss);
}

or_none : {A : Type 0} (o : Option A) → o ≡ option_or o None
or_none None = refl
or_none (Some x) = refl

first_by : (o : Option Place) (b : Bool) (s : Location) (rest : Option Location)
    → option_or (option_or o (some_if b s.place)) (option_map (λ (t : Location). t.place) rest)
    ≡ option_or o (option_map (λ (t : Location). t.place) (cond b (Some s) rest))
first_by None true s rest = refl
first_by None false s rest = refl
first_by (Some p) true s rest = refl
first_by (Some p) false s rest = refl

first_more : (holds : Place → Data → Bool) (o : Option Place) (s : Location) (ss : List Location)
    → option_or (option_or o (some_if (holds s.place s.value) s.place)) (place_of holds ss) ≡ option_or o (place_of holds (s ∷ ss))
first_more holds o s ss = first_by o (holds s.place s.value) s (find (λ t. holds t.place t.value) ss)

after_is : (f : Found) (ss : List Location) → after_all f ss ≡ further f ss
after_is f [] = rw (sym (or_none f.unknown), sym (or_none f.missing), sym (or_none f.wrong)) refl
after_is f (s ∷ ss) =
    after_is (after f s) ss
    ∙ rw (
      first_more (has_unknown_key f.version) f.unknown s ss,
      first_more (has_missing_key f.version) f.missing s ss,
      first_more (has_wrong_type f.version) f.wrong s ss,
    ) refl

-- The document, then the hosts, then the invariants, then the flows, then the templates.
pub in_parts : (ms : Members)
    → after_all (after_all (after_invariants (after_all (after (nothing_found (declared_version ms)) (record { place = Document; value = table ms }))
    (map (spot_in Host) (numbered (listed (codes "host") ms)))) 1 (listed (codes "invariant") ms))
    (map (spot_in FlowAt) (numbered (listed (codes "flow") ms)))) (map (spot_in Template) (numbered (listed (codes "template") ms)))
    ≡ first_places ms
unfolding place_where locations
in_parts ms =
    let start = after (nothing_found (declared_version ms)) (record { place = Document; value = table ms }) in
    let hosts = map (spot_in Host) (numbered (listed (codes "host") ms)) in
    let invariants = flat_map invariant_spots (numbered (listed (codes "invariant") ms)) in
    let flows = map (spot_in FlowAt) (numbered (listed (codes "flow") ms)) in
    let templates = map (spot_in Template) (numbered (listed (codes "template") ms)) in
    ap (λ f. after_all (after_all f flows) templates) (after_invariants_is (after_all start hosts) 1 (listed (codes "invariant") ms))
    ∙ sym (
    after_append start hosts (invariants ++ (flows ++ templates))
    ∙ after_append (after_all start hosts) invariants (flows ++ templates)
    ∙ after_append (after_all (after_all start hosts) invariants) flows templates)
    ∙ after_is (nothing_found (declared_version ms)) (locations ms)

-- The refusal of that place.
mapped_twice : {A B C : Type 0} (f : A → B) (g : B → C) (o : Option A) → option_map g (option_map f o) ≡ option_map (λ x. g (f x)) o
mapped_twice f g None = refl
mapped_twice f g (Some x) = refl

pub refused_first : (why : Why) (holds : Option ℤ → Place → Data → Bool) (ms : Members)
    → option_map (refused why) (place_where holds ms) ≡ first_place why holds ms
unfolding place_where first_place
refused_first why holds ms = mapped_twice (λ (s : Location). s.place) (refused why) (find (λ s. holds (declared_version ms) s.place s.value) (locations ms))
