-- If no condition refuses the description, an invariant can be made of each template that an invariant names.
use Rattle.std.proofs.Common.{◌≡◌, ℕ, ◌+◌, Bool, true, false, not, ◌&&◌, ◌==◌, List, [], ◌∷◌, ◌++◌, map, length, Option, Some, None, option_map, inl, inr, refl, ap, ◌∙◌, subst, arith}
use Rattle.std.proofs.lemmas.Bool.{and_from, and_parts, eq-eqb, false≢true, or_cases, or_left, or_right, not_from_false, not_from_true, ltb-true, leb-true}
use Rattle.std.proofs.lemmas.List.Elements.{All-from_recursion}
use Rattle.std.proofs.lemmas.List.Folds.{list_all-map}
use Rattle.std.proofs.lemmas.Option.{option_and_then_some}
use Rattle.std.proofs.lemmas.Slice.Eq.{bytes_eq-Decides}
use Rattle.std.specs.List.{All, AllByRecursion, AllZip, find, list_all, list_any}
use Rattle.std.specs.Option.{option_or}
use Rattle.std.specs.Prelude.{codes, if◌then◌else◌}
use Rattle.std.specs.Str.{bytes_eq}
use Rattle.attr_core.specs.Templates.{template_named}
use Rattle.attr_core.specs.declared.template.Template.{Template}
use Rattle.desc_core.proofs.KnownLaws.{each_zip}
use Rattle.desc_core.proofs.ListingLaws.{all_weaker}
use Rattle.desc_core.specs.Choices.{Choice, OneOfTen, OwnTable, chosen, number_of_kind, declared_table}
use Rattle.desc_core.specs.inner.KnownView.{known_view}
use Rattle.desc_core.specs.inner.Makeable.{CanBeMade, IsMakeable}
use Rattle.desc_core.specs.TemplateConditions.{bad_template, denies, first_bad, has_kinds, has_own_name, has_partner, has_strategy, is_well_formed, not_lawful, template_conditions, uses_kinds}
use Rattle.desc_core.proofs.TemplateFactsLaws.{good_by}
use Rattle.desc_core.proofs.UseFactsLaws.{partners_there}
use Rattle.desc_form.proofs.RowLaws.{in_turn}
use Rattle.desc_core.specs.RawNetwork.{Known, given_by, known_of}
use Rattle.desc_core.specs.declared.known.KnownInvariant.{KnownInvariant}
use Rattle.desc_form.specs.RawDescription.{RawDescription, RawInvariant}
use Rattle.desc_form.specs.RawTemplate.{RawPair, RawTemplate}
use Rattle.host_net.specs.Host.{Host}
use Rattle.inv_law.specs.declared.strategy.Strategy.TheVariants.{Access, Information}
use Rattle.table_core.specs.Listing.{each}
use Rattle.text_core.specs.FirstMatch.{first_of}
use Rattle.text_core.proofs.FirstsLaws.{none_mapped, some_same}
use Rattle.text_core.specs.Name.{is_name}
use Rattle.tmpl_table.specs.KindTable.{is_lawful, lists, passes_with}

-- ---- a pair that is denied by its words is denied by its numbers

abbrev pair_numbers : RawTemplate → RawPair → ℕ × ℕ
pair_numbers t p = (number_of_kind t p.sender, number_of_kind t p.receiver)

same_number : (t : RawTemplate) (a b : List ℕ) → bytes_eq a b ≡ true → (number_of_kind t a == number_of_kind t b) ≡ true
same_number t a b same = eq-eqb (number_of_kind t a) (number_of_kind t b) (ap (number_of_kind t) ((bytes_eq-Decides a b).0 same))

listed_numbers : (t : RawTemplate) (ps : List RawPair) (a b : List ℕ) → list_any (λ p. bytes_eq p.sender a && bytes_eq p.receiver b) ps ≡ true
    → lists (map (pair_numbers t) ps) (number_of_kind t a, number_of_kind t b) ≡ true
listed_numbers t [] a b listed = absurd (false≢true listed)
listed_numbers t (p ∷ ps) a b listed =
    elim (or_cases (bytes_eq p.sender a && bytes_eq p.receiver b) _ listed) [
      | inl same ↦
          let (sender, receiver) = and_parts (bytes_eq p.sender a) (bytes_eq p.receiver b) same in
          or_left _ _ (and_from _ _ (same_number t p.sender a sender) (same_number t p.receiver b receiver))
      | inr later ↦ or_right _ _ (listed_numbers t ps a b later)
    ]

partner_by : (t : RawTemplate) (p : RawPair) (access : Bool)
    → (if access then denies t t.default p.receiver else denies t p.sender t.default) ≡ true
    → not (passes_with (if access then Access else Information) (map (pair_numbers t) t.deny) (number_of_kind t t.default) (pair_numbers t p)) ≡ true
partner_by t p true denied = not_from_false _ (not_from_true _ (listed_numbers t t.deny t.default p.receiver denied))
partner_by t p false denied = not_from_false _ (not_from_true _ (listed_numbers t t.deny p.sender t.default denied))

lawful_table : (t : RawTemplate) → list_all (has_partner t) t.deny ≡ true → is_lawful (declared_table t) ≡ true
lawful_table t all =
    let table = declared_table t in
    let test : ℕ × ℕ → Bool = λ pair. not (passes_with table.strategy table.denied table.default pair) in
    list_all-map test (pair_numbers t) t.deny
    ∙ all_weaker (has_partner t) (λ p. test (pair_numbers t p)) (λ p here. partner_by t p (bytes_eq t.strategy (codes "access")) here) t.deny all

-- ---- each template

makeable : (earlier : List RawTemplate) (t : RawTemplate) → is_well_formed earlier t ≡ true → list_all (has_partner t) t.deny ≡ true → IsMakeable t
makeable earlier t good all =
    let (front, uses) = and_parts (has_own_name earlier t && has_strategy t && has_kinds t) (uses_kinds t) good in
    let (named, kinds) = and_parts (has_own_name earlier t && has_strategy t) (has_kinds t) front in
    let (own, strategy) = and_parts (has_own_name earlier t) (has_strategy t) named in
    let (none, _) = and_parts _ _ own in
    let (name, _) = and_parts (is_name t.name) _ none in
    let (sized, _) = and_parts _ _ kinds in
    let (counted, _) = and_parts _ _ sized in
    let (some, few) = and_parts _ _ counted in
    let more = ltb-true 0 (length t.kinds) some in
    record { named = name; some_kinds = omega (arith, more); few_kinds = leb-true (length t.kinds) 64 few; lawful = lawful_table t all }

each_makeable : (earlier : List RawTemplate) (k : ℕ) (ts : List RawTemplate) → first_bad earlier k ts ≡ None
    → list_all (λ t. list_all (has_partner t) t.deny) ts ≡ true → AllByRecursion IsMakeable ts
each_makeable earlier k [] none all = tt
each_makeable earlier k (t ∷ ts) none all =
    let (good, later) = good_by (is_well_formed earlier t) (first_bad (earlier ++ t ∷ []) (k + 1) ts) k none in
    let (here, behind) = and_parts (list_all (has_partner t) t.deny) _ all in
    (makeable earlier t good here, each_makeable (earlier ++ t ∷ []) (k + 1) ts later behind)

all_makeable : (ts : List RawTemplate) → first_of (template_conditions ts) ≡ None → AllByRecursion IsMakeable ts
all_makeable ts none =
    let (bad, (unlawful, _)) = (in_turn (template_conditions ts)).0 none in
    each_makeable [] 1 ts (none_mapped _ _ bad) ((partners_there ts).0 unlawful)

each_lawful : (ts : List RawTemplate) → AllByRecursion IsMakeable ts → AllByRecursion (λ (t : RawTemplate). is_lawful (declared_table t) ≡ true) ts
each_lawful [] all = tt
each_lawful (t ∷ ts) (here, behind) = (here.lawful, each_lawful ts behind)

-- Each declared table is lawful.
pub all_lawful : (ts : List RawTemplate) → bad_template ts ≡ None → not_lawful ts ≡ None → All (λ (t : RawTemplate). is_lawful (declared_table t) ≡ true) ts
all_lawful ts good lawful =
    All-from_recursion (λ (t : RawTemplate). is_lawful (declared_table t) ≡ true) ts
    (each_lawful ts (all_makeable ts ((in_turn (template_conditions ts)).1 (good, (lawful, tt)))))

-- ---- each template that is named

found_by : (b : Bool) (t : RawTemplate) (o : Option RawTemplate) (u : RawTemplate) → (if b then Some t else o) ≡ Some u → IsMakeable t
    → (o ≡ Some u → IsMakeable u) → IsMakeable u
found_by true t o u found here later = let same : t ≡ u = cc in subst IsMakeable same here
found_by false t o u found here later = later found

found_makeable : (name : List ℕ) (ts : List RawTemplate) (u : RawTemplate) → AllByRecursion IsMakeable ts
    → find (λ t. bytes_eq name t.name) ts ≡ Some u → IsMakeable u
found_makeable name [] u all found = cc
found_makeable name (t ∷ ts) u (here, behind) found =
    found_by (bytes_eq name t.name) t (find (λ v. bytes_eq name v.name) ts) u found here (found_makeable name ts u behind)

chosen_by : (ten : Option Template) (own : Option RawTemplate) (c : Choice) → option_or (option_map OneOfTen ten) (option_map OwnTable own) ≡ Some c
    → ((u : RawTemplate) → own ≡ Some u → IsMakeable u) → CanBeMade c
chosen_by (Some t) own c is makes = let same : OneOfTen t ≡ c = cc in subst CanBeMade same tt
chosen_by None (Some u) c is makes = let same : OwnTable u ≡ c = cc in subst CanBeMade same (makes u refl)
chosen_by None None c is makes = cc

known_can : (ts : List RawTemplate) (hosts : List Host) (i : RawInvariant) (k : Known) → AllByRecursion IsMakeable ts
    → known_of ts hosts i ≡ Some k → CanBeMade k.template
unfolding known_of
known_can ts hosts i k all is =
    option_and_then_some _ (chosen ts i.template) k is (λ template named rest.
    option_and_then_some _ (each (given_by hosts) i.assigns) k rest (λ assigns given last.
    let same : template ≡ k.template = ap (λ (j : Known). j.template) (some_same _ k last) in
    subst CanBeMade same
    (chosen_by (template_named i.template) (find (λ t. bytes_eq i.template t.name) ts) template named (λ u. found_makeable i.template ts u all))))

all_can : (ts : List RawTemplate) (hosts : List Host) (is : List RawInvariant) (ks : List KnownInvariant) → AllByRecursion IsMakeable ts
    → AllZip (λ i k. known_of ts hosts i ≡ Some k) is (map known_view ks) → AllByRecursion (λ (k : KnownInvariant). CanBeMade (known_view k).template) ks
all_can ts hosts [] [] all zipped = tt
all_can ts hosts [] (k ∷ ks) all zipped = absurd zipped
all_can ts hosts (i ∷ is) [] all zipped = tt
all_can ts hosts (i ∷ is) (k ∷ ks) all (here, behind) = (known_can ts hosts i (known_view k) all here, all_can ts hosts is ks all behind)

-- An invariant can be made of each invariant with resolved names.
pub known_makeable : (w : RawDescription) (hosts : List Host) (ks : List KnownInvariant) → first_of (template_conditions w.templates) ≡ None
    → each (known_of w.templates hosts) w.invariants ≡ Some (map known_view ks) → All (λ (k : KnownInvariant). CanBeMade (known_view k).template) ks
known_makeable w hosts ks none known =
    All-from_recursion (λ (k : KnownInvariant). CanBeMade (known_view k).template) ks
    (all_can w.templates hosts w.invariants ks (all_makeable w.templates none) (each_zip (known_of w.templates hosts) w.invariants (map known_view ks) known))
