-- A description has a valid form if and only if it has a raw description, and then the parsed raw description is the one: nothing is
-- skipped.
use Rattle.std.proofs.Common.{◌≡◌, ◌↔◌, ℕ, ℤ, pos, ◌+◌, Bool, true, false, not, ◌&&◌, ◌||◌, List, [], ◌∷◌, ◌++◌, append-nil, map, Option, Some, None, refl, ap, ◌∙◌, sym, subst}
use Rattle.std.proofs.lemmas.Bool.{and_parts, or_parts, not-false}
use Rattle.std.specs.Cmp.{first_so, second_so}
use Rattle.std.specs.Cmp.Derive.{both_true}
use Rattle.std.specs.Prelude.{codes, filter_map, flat_map, MatchOption}
use Rattle.std.specs.List.{AllZip, cons_option, list_all, list_any}
use Rattle.std.specs.Str.{bytes_eq}
use Rattle.std.specs.Option.{option_map_or}
use Rattle.std.specs.Ordering.{int_eq}
use Rattle.toml.specs.Data.{Data, array, table, Members, as_str, as_table, get_member}
use Rattle.desc_form.specs.declared.refusal.Place.{Place}
use Rattle.desc_form.specs.declared.refusal.Place.TheVariants.{Document, Host, Invariant, Assign, FlowAt, Template}
use Rattle.text_core.specs.FirstMatch.{first_of, numbered, numbered_from}
use Rattle.text_core.proofs.FirstsLaws.{neither, none_mapped}
use Rattle.desc_form.proofs.FlowLaws.{fit_where, flow_read, flow_says, said_version, whole_where}
use Rattle.desc_form.specs.FormConditions.{form_conditions}
use Rattle.desc_form.proofs.KeyLaws.{answers_stand, answers_suit, array_needed, array_stands, array_stands_or, array_suits, array_zips, boolean_stands, boolean_suits, integer_stands, integer_suits, absent, nothing_zipped, some_there, text_stands, text_suits, texts_stand_or, texts_suit, there, there_or}
use Rattle.desc_form.specs.Keys.{keys_of, says_second, template_keys, declared_version}
use Rattle.desc_form.proofs.ConflictLaws.{pairs_read, pairs_say}
use Rattle.desc_form.specs.Places.{Location, assigns_of, denies_pairs, first_place, fits_version, has_unknown_key, has_missing_key, has_wrong_type, invariant_spots, listed, spot_in, locations}
use Rattle.desc_form.proofs.SpotsLaws.{Fails, fails_apart, fails_joined, fails_where_none, none_where_fails}
use Rattle.desc_form.specs.RawDescription.{RawDescription, RawAssign, RawHost, RawInvariant, raw_assign, raw_host, raw_invariant, raw_template, written}
use Rattle.desc_form.specs.RawFlow.{RawFlow, raw_flow}
use Rattle.desc_form.specs.RawTemplate.{RawTemplate}
use Rattle.desc_form.specs.inner.RawForm.{IsAssign, IsFlow, IsFormed, IsHost, IsInvariant, IsPair, IsTable, IsTemplate, IsText, IsArray, IsRawOf, document_names, template_names}
use Rattle.table_core.specs.Keys.{Key, all_suit, has_only_keys, lacks_key, suits_in}
use Rattle.table_core.specs.Tables.{boolean_at, has_key, has_only, integer_at, list_at, text_at}

-- One of the three conditions holds at a place.
abbrev bad : Option ℤ → Place → Data → Bool
bad v place d = has_unknown_key v place d || (has_missing_key v place d || has_wrong_type v place d)

-- None of them does at any of some places.
abbrev AreGood : Option ℤ → List Location → Type 0
AreGood v ss = Fails (λ s. bad v s.place s.value) ss

-- A value is a table, and the value parsed from it is valid.
abbrev IsReadIn : {A : Type 0} → (Members → A → Type 0) → (Members → A) → Data → Type 0
IsReadIn Is read d = (ms : Members) × (d ≡ table ms) × Is ms (read ms)

host_stands : (v : Option ℤ) (k : ℕ) (ms : Members) → not (has_only_keys (keys_of v (Host k)) ms) ≡ false → lacks_key (keys_of v (Host k)) ms ≡ false
    → not (all_suit (keys_of v (Host k)) ms) ≡ false → IsHost ms (raw_host ms)
unfolding has_only_keys lacks_key all_suit raw_host listed has_key text_at boolean_at list_at
host_stands v k ms other lacks unsuited =
    let suits = not-false (list_all (suits_in ms) (keys_of v (Host k))) unsuited in
    record {
      only = not-false _ other;
      name = text_stands (get_member (codes "name") ms) (not-false _ (or_parts _ _ lacks).0) (first_so _ _ suits);
      at = texts_stand_or (get_member (codes "at") ms) (first_so _ _ (second_so _ _ suits));
      rest = boolean_stands (get_member (codes "rest") ms) (first_so _ _ (second_so _ _ (second_so _ _ suits)));
    }

host_reads : (v : Option ℤ) (k : ℕ) (d : Data) → bad v (Host k) d ≡ false → IsReadIn IsHost raw_host d
unfolding has_wrong_type
host_reads v k (table ms) good =
    let parts = or_parts _ _ good in
    let rest = or_parts _ _ parts.1 in
    (ms, refl, host_stands v k ms parts.0 rest.0 rest.1)
host_reads v k _ good = cc

assign_stands : (v : Option ℤ) (k m : ℕ) (ms : Members) → lacks_key (keys_of v (Assign k m)) ms ≡ false → not (all_suit (keys_of v (Assign k m)) ms) ≡ false
    → IsAssign ms (raw_assign ms)
unfolding lacks_key all_suit raw_assign has_key text_at
assign_stands v k m ms lacks unsuited =
    let suits = not-false (list_all (suits_in ms) (keys_of v (Assign k m))) unsuited in
    record {
      host = text_stands (get_member (codes "host") ms) (not-false _ (or_parts _ _ lacks).0) (first_so _ _ suits);
      table = refl;
    }

assign_reads : (v : Option ℤ) (k m : ℕ) (d : Data) → bad v (Assign k m) d ≡ false → IsReadIn IsAssign raw_assign d
unfolding has_wrong_type
assign_reads v k m (table ms) good =
    let rest = or_parts _ _ good in
    (ms, refl, assign_stands v k m ms rest.0 rest.1)
assign_reads v k m _ good = cc

zip_first : {A : Type 0} (Is : Members → A → Type 0) (read : Members → A) (d : Data) (ds : List Data) → IsReadIn Is read d
    → AllZip (IsTable Is) ds (map read (filter_map as_table ds)) → AllZip (IsTable Is) (d ∷ ds) (map read (filter_map as_table (d ∷ ds)))
zip_first Is read d ds (ms, is_table, fits) rest =
    subst (λ (e : Data). AllZip (IsTable Is) (e ∷ ds) (map read (filter_map as_table (e ∷ ds)))) (sym is_table) ((ms, refl, fits), rest)

-- If no element of a list is bad, each is parsed.
tables_read : (v : Option ℤ) {A : Type 0} (Is : Members → A → Type 0) (read : Members → A) (place : ℕ → Place)
    → ((k : ℕ) (d : Data) → bad v (place k) d ≡ false → IsReadIn Is read d)
    → (k : ℕ) (ds : List Data) → AreGood v (map (spot_in place) (numbered_from k ds))
    → AllZip (IsTable Is) ds (map read (filter_map as_table ds))
tables_read v Is read place reads k [] good = tt
tables_read v Is read place reads k (d ∷ ds) (here, behind) =
    zip_first Is read d ds (reads k d here) (tables_read v Is read place reads (k + 1) ds behind)

invariant_stands : (v : Option ℤ) (k : ℕ) (ms : Members) → not (has_only_keys (keys_of v (Invariant k)) ms) ≡ false
    → lacks_key (keys_of v (Invariant k)) ms ≡ false → not (all_suit (keys_of v (Invariant k)) ms) ≡ false
    → AreGood v (map (spot_in (Assign k)) (numbered (listed (codes "assign") ms))) → IsInvariant ms (raw_invariant ms)
unfolding has_only_keys lacks_key all_suit raw_invariant listed has_key text_at list_at
invariant_stands v k ms other lacks unsuited good =
    let suits = not-false (list_all (suits_in ms) (keys_of v (Invariant k))) unsuited in
    record {
      only = not-false _ other;
      template = text_stands (get_member (codes "template") ms) (not-false _ (or_parts _ _ lacks).0) (first_so _ _ suits);
      assigns =
          array_stands_or (IsTable IsAssign) (get_member (codes "assign") ms) _ (first_so _ _ (second_so _ _ suits))
          (tables_read v IsAssign raw_assign (Assign k) (assign_reads v k) 1 (listed (codes "assign") ms) good);
    }

invariant_reads : (v : Option ℤ) (k : ℕ) (d : Data) → AreGood v (invariant_spots (record { number = k; what = d }))
    → IsReadIn IsInvariant raw_invariant d
unfolding has_wrong_type assigns_of listed
invariant_reads v k (table ms) (good, assigns) =
    let here = or_parts _ _ good in
    let rest = or_parts _ _ here.1 in
    (ms, refl, invariant_stands v k ms here.0 rest.0 rest.1 assigns)
invariant_reads v k _ (good, assigns) = cc

invariants_read : (v : Option ℤ) (k : ℕ) (ds : List Data) → AreGood v (flat_map invariant_spots (numbered_from k ds))
    → AllZip (IsTable IsInvariant) ds (map raw_invariant (filter_map as_table ds))
invariants_read v k [] good = tt
invariants_read v k (d ∷ ds) good =
    let (here, behind) = fails_apart _ (invariant_spots (record { number = k; what = d })) (flat_map invariant_spots (numbered_from (k + 1) ds)) good in
    zip_first IsInvariant raw_invariant d ds (invariant_reads v k d here) (invariants_read v (k + 1) ds behind)

-- If no element of a list is bad, each is a flow that is valid for the version.
flow_first : (v : Option ℤ) (d : Data) (ds : List Data) (o : Option RawFlow) → raw_flow d ≡ o
    → not (option_map_or (fits_version v) o false) ≡ false
    → AllZip IsFlow ds (filter_map raw_flow ds) × (list_all (fits_version v) (filter_map raw_flow ds) ≡ true)
    → AllZip IsFlow (d ∷ ds) (cons_option o (filter_map raw_flow ds)) × (list_all (fits_version v) (cons_option o (filter_map raw_flow ds)) ≡ true)
flow_first v d ds None read there rest = cc
flow_first v d ds (Some f) read there (zipped, fit) =
    ((flow_read d f read, zipped), both_true (not-false (fits_version v f) there) fit)

flows_read : (v : Option ℤ) (k : ℕ) (ds : List Data) → AreGood v (map (spot_in FlowAt) (numbered_from k ds))
    → AllZip IsFlow ds (filter_map raw_flow ds) × (list_all (fits_version v) (filter_map raw_flow ds) ≡ true)
unfolding has_wrong_type
flows_read v k [] good = (tt, refl)
flows_read v k (d ∷ ds) (good, behind) =
    let here = or_parts _ _ good in
    flow_first v d ds (raw_flow d) refl here.1 (flows_read v (k + 1) ds behind)

template_stands : (v : Option ℤ) (k : ℕ) (ms : Members) → not (has_only_keys (keys_of v (Template k)) ms) ≡ false → lacks_key (keys_of v (Template k)) ms ≡ false
    → not (all_suit (keys_of v (Template k)) ms) ≡ false → denies_pairs ms ≡ true → IsTemplate ms (raw_template ms)
unfolding has_only_keys lacks_key all_suit raw_template listed has_key text_at list_at
template_stands v k ms other lacks unsuited pairs =
    let suits = not-false (list_all (suits_in ms) (keys_of v (Template k))) unsuited in
    let suits_2 = second_so _ _ suits in
    let suits_3 = second_so _ _ suits_2 in
    let suits_4 = second_so _ _ suits_3 in
    let lacks_2 = or_parts _ _ (or_parts _ _ lacks).1 in
    let lacks_3 = or_parts _ _ lacks_2.1 in
    let lacks_4 = or_parts _ _ lacks_3.1 in
    let lacks_5 = or_parts _ _ lacks_4.1 in
    record {
      only = not-false _ other;
      name = text_stands (get_member (codes "name") ms) (not-false _ (or_parts _ _ lacks).0) (first_so _ _ suits);
      strategy = text_stands (get_member (codes "strategy") ms) (not-false _ lacks_2.0) (first_so _ _ suits_2);
      kinds = there (filter_map as_str (listed (codes "kinds") ms) ≡ []) (λ d. IsArray IsText d (filter_map as_str (listed (codes "kinds") ms))) (get_member (codes "kinds") ms) (not-false _ lacks_3.0) (texts_stand_or (get_member (codes "kinds") ms) (first_so _ _ suits_3));
      default = text_stands (get_member (codes "default") ms) (not-false _ lacks_4.0) (first_so _ _ suits_4);
      deny =
          array_stands IsPair (get_member (codes "deny") ms) _ (not-false _ lacks_5.0) (first_so _ _ (second_so _ _ suits_4))
          (pairs_read (listed (codes "deny") ms) pairs);
    }

template_reads : (v : Option ℤ) (k : ℕ) (d : Data) → bad v (Template k) d ≡ false → IsReadIn IsTemplate raw_template d
unfolding has_wrong_type
template_reads v k (table ms) good =
    let parts = or_parts _ _ good in
    let rest = or_parts _ _ parts.1 in
    let wrong = or_parts _ _ rest.1 in
    (ms, refl, template_stands v k ms parts.0 rest.0 wrong.0 (not-false _ wrong.1))
template_reads v k _ good = cc

-- The key for templates is only a key of a document of version 2.
names_by : (b : Bool) → map (λ (key : Key). key.name) (template_keys b) ≡ template_names b
names_by true = refl
names_by false = refl

document_only : (v : Option ℤ) (ms : Members) (n : ℤ) → v ≡ Some n → has_only_keys (keys_of v Document) ms ≡ true
    → has_only (document_names n) ms ≡ true
unfolding has_only_keys
document_only v ms n says only =
    subst (λ (names : List (List ℕ)). has_only (codes "topos" ∷ codes "answers" ∷ codes "host" ∷ codes "invariant" ∷ codes "flow" ∷ names) ms ≡ true)
    (ap (λ (o : Option ℤ). map (λ (key : Key). key.name) (template_keys (says_second o))) says ∙ names_by (int_eq n (pos 2))) only

templates_by : (b : Bool) (names : List (List ℕ)) (ms : Members) (xs : List RawTemplate) → list_any (bytes_eq (codes "template")) names ≡ false
    → has_only (names ++ template_names b) ms ≡ true → list_all (suits_in ms) (template_keys b) ≡ true
    → AllZip (IsTable IsTemplate) (listed (codes "template") ms) xs
    → MatchOption (get_member (codes "template") ms) (xs ≡ []) (λ d. IsArray (IsTable IsTemplate) d xs)
unfolding listed list_at has_key
templates_by true names ms xs out only suits zipped =
    array_stands_or (IsTable IsTemplate) (get_member (codes "template") ms) xs (first_so _ _ suits) zipped
templates_by false names ms xs out only suits zipped =
    let none = absent names (codes "template") ms out (subst (λ (ns : List (List ℕ)). has_only ns ms ≡ true) (append-nil names) only) in
    rw none (nothing_zipped (IsTable IsTemplate) xs (rw none at zipped))

document_stands : (v : Option ℤ) (ms : Members) → declared_version ms ≡ v → AreGood v (locations ms) → IsRawOf ms (written ms)
unfolding locations has_wrong_type has_only_keys lacks_key all_suit written listed has_key text_at integer_at list_at
document_stands v ms said (document, behind) =
    let (hosts, behind_hosts) = fails_apart _ (map (spot_in Host) (numbered (listed (codes "host") ms))) _ behind in
    let (invariants, behind_invariants) = fails_apart _ (flat_map invariant_spots (numbered (listed (codes "invariant") ms))) _ behind_hosts in
    let (flows_good, templates) = fails_apart _ (map (spot_in FlowAt) (numbered (listed (codes "flow") ms))) _ behind_invariants in
    let here = or_parts _ _ document in
    let rest = or_parts _ _ here.1 in
    let lacks = or_parts _ _ rest.0 in
    let lacks_host = or_parts (not (has_key (codes "host") ms)) _ lacks.1 in
    let suits = not-false (list_all (suits_in ms) (keys_of v Document)) rest.1 in
    let suits_2 = second_so _ _ suits in
    let suits_3 = second_so _ _ suits_2 in
    let suits_4 = second_so _ _ suits_3 in
    let version = integer_stands (get_member (codes "topos") ms) (not-false _ lacks.0) (first_so _ _ suits) in
    let suits_5 = second_so _ _ suits_4 in
    let flows = flows_read v 1 (listed (codes "flow") ms) flows_good in
    let says = sym said ∙ said_version (get_member (codes "topos") ms) _ version in
    let only : has_only (document_names (written ms).version) ms ≡ true = document_only v ms (written ms).version says (not-false _ here.0) in
    record {
      only = only;
      version = version;
      answers = answers_stand (get_member (codes "answers") ms) (first_so _ _ suits_2);
      hosts =
          array_stands (IsTable IsHost) (get_member (codes "host") ms) _ (not-false _ lacks_host.0) (first_so _ _ suits_3)
          (tables_read v IsHost raw_host Host (host_reads v) 1 (listed (codes "host") ms) hosts);
      invariants =
          array_stands_or (IsTable IsInvariant) (get_member (codes "invariant") ms) _ (first_so _ _ suits_4)
          (invariants_read v 1 (listed (codes "invariant") ms) invariants);
      given = refl;
      flows =
          array_stands_or IsFlow (get_member (codes "flow") ms) _ (first_so _ _ suits_5) flows.0;
      whole = whole_where _ _ (subst (λ (o : Option ℤ). list_all (fits_version o) (filter_map raw_flow (listed (codes "flow") ms)) ≡ true) says flows.1);
      templates =
          templates_by (int_eq (written ms).version (pos 2)) (codes "topos" ∷ codes "answers" ∷ codes "host" ∷ codes "invariant" ∷ codes "flow" ∷ []) ms _ refl only
          (subst (λ (o : Option ℤ). list_all (suits_in ms) (template_keys (says_second o)) ≡ true) says (second_so _ _ suits_5))
          (tables_read v IsTemplate raw_template Template (template_reads v) 1 (listed (codes "template") ms) templates);
    }

-- A description of a valid form has its raw description, including each element of its arrays.
pub written_stands : (ms : Members) → first_of (form_conditions ms) ≡ None → IsRawOf ms (written ms)
unfolding form_conditions first_place
written_stands ms formed =
    let v = declared_version ms in
    let (unknown, others) = neither _ _ formed in
    let (missing, last) = neither _ _ others in
    let (wrong, _) = neither _ _ last in
    document_stands v ms refl
    (fails_where_none (λ s. has_unknown_key v s.place s.value) (λ s. has_missing_key v s.place s.value) (λ s. has_wrong_type v s.place s.value) (locations ms)
    (none_mapped _ _ unknown) (none_mapped _ _ missing) (none_mapped _ _ wrong))

-- The converse: if there is a raw description, none of the three conditions holds.

-- They do not hold for a table with these keys and values.
none_bad : {only lacks suits : Bool} → only ≡ true → lacks ≡ false → suits ≡ true → (not only || (lacks || not suits)) ≡ false
none_bad only lacks suits = rw (only, lacks, suits) refl

none_bad_pairs : {only lacks suits pairs : Bool} → only ≡ true → lacks ≡ false → suits ≡ true → pairs ≡ true
    → (not only || (lacks || (not suits || not pairs))) ≡ false
none_bad_pairs only lacks suits pairs = rw (only, lacks, suits, pairs) refl

present : {there rest : Bool} → there ≡ true → rest ≡ false → (not there || rest) ≡ false
present there rest = rw (there, rest) refl

host_good : (v : Option ℤ) (k : ℕ) (ms : Members) (h : RawHost) → IsHost ms h → bad v (Host k) (table ms) ≡ false
unfolding has_wrong_type has_only_keys lacks_key all_suit has_key text_at boolean_at list_at
host_good v k ms h stands =
    let name = text_suits (get_member (codes "name") ms) h.name stands.name in
    none_bad stands.only (present name.0 refl)
    (both_true name.1 (both_true (texts_suit (get_member (codes "at") ms) h.at stands.at) (both_true (boolean_suits (get_member (codes "rest") ms) h.rest stands.rest) refl)))

assign_good : (v : Option ℤ) (k m : ℕ) (ms : Members) (a : RawAssign) → IsAssign ms a → bad v (Assign k m) (table ms) ≡ false
unfolding has_wrong_type has_only_keys lacks_key all_suit has_key text_at
assign_good v k m ms a stands =
    let host = text_suits (get_member (codes "host") ms) a.host stands.host in
    none_bad {only = true} refl (present host.0 refl) (both_true host.1 refl)

-- If each element of a list is a valid table, none is bad.
tables_good : (v : Option ℤ) {A : Type 0} (Is : Members → A → Type 0) (place : ℕ → Place)
    → ((k : ℕ) (ms : Members) (x : A) → Is ms x → bad v (place k) (table ms) ≡ false)
    → (k : ℕ) (ds : List Data) (xs : List A) → AllZip (IsTable Is) ds xs → AreGood v (map (spot_in place) (numbered_from k ds))
tables_good v Is place good k [] xs zipped = tt
tables_good v Is place good k (d ∷ ds) [] zipped = absurd zipped
tables_good v Is place good k (d ∷ ds) (x ∷ xs) ((ms, is_table, fits), zipped) = (
  subst (λ (e : Data). bad v (place k) e ≡ false) (sym is_table) (good k ms x fits),
  tables_good v Is place good (k + 1) ds xs zipped,
)

invariant_good : (v : Option ℤ) (k : ℕ) (ms : Members) (i : RawInvariant) → IsInvariant ms i
    → AreGood v (invariant_spots (record { number = k; what = table ms }))
unfolding has_wrong_type has_only_keys lacks_key all_suit assigns_of listed has_key text_at list_at
invariant_good v k ms i stands =
    let template = text_suits (get_member (codes "template") ms) i.template stands.template in
    let assigns = get_member (codes "assign") ms in
    let here : bad v (Invariant k) (table ms) ≡ false =
    none_bad stands.only (present template.0 refl)
    (both_true template.1 (both_true (array_suits (IsTable IsAssign) assigns i.assigns stands.assigns) refl)) in
    (here, tables_good v IsAssign (Assign k) (assign_good v k) 1 (listed (codes "assign") ms) i.assigns (array_zips (IsTable IsAssign) assigns i.assigns stands.assigns))

invariants_good : (v : Option ℤ) (k : ℕ) (ds : List Data) (is : List RawInvariant) → AllZip (IsTable IsInvariant) ds is
    → AreGood v (flat_map invariant_spots (numbered_from k ds))
invariants_good v k [] is zipped = tt
invariants_good v k (d ∷ ds) [] zipped = absurd zipped
invariants_good v k (d ∷ ds) (i ∷ is) ((ms, is_table, fits), zipped) =
    fails_joined _ (invariant_spots (record { number = k; what = d })) (flat_map invariant_spots (numbered_from (k + 1) ds))
    (subst (λ (e : Data). AreGood v (invariant_spots (record { number = k; what = e }))) (sym is_table) (invariant_good v k ms i fits))
    (invariants_good v (k + 1) ds is zipped)

flow_good : (v : Option ℤ) (k : ℕ) (d : Data) (f : RawFlow) → IsFlow d f → fits_version v f ≡ true → bad v (FlowAt k) d ≡ false
unfolding has_wrong_type
flow_good v k d f (ds, is_array, zipped) fits =
    let read = flow_says (array ds) f (ds, refl, zipped) in
    rw (is_array, read, fits) refl

flows_good : (v : Option ℤ) (k : ℕ) (ds : List Data) (fs : List RawFlow) → AllZip IsFlow ds fs → list_all (fits_version v) fs ≡ true
    → AreGood v (map (spot_in FlowAt) (numbered_from k ds))
flows_good v k [] fs zipped fit = tt
flows_good v k (d ∷ ds) [] zipped fit = absurd zipped
flows_good v k (d ∷ ds) (f ∷ fs) (is_flow, zipped) fit =
    let (here, behind) = and_parts (fits_version v f) (list_all (fits_version v) fs) fit in
    (flow_good v k d f is_flow here, flows_good v (k + 1) ds fs zipped behind)

template_good : (v : Option ℤ) (k : ℕ) (ms : Members) (t : RawTemplate) → IsTemplate ms t → bad v (Template k) (table ms) ≡ false
unfolding has_wrong_type has_only_keys lacks_key all_suit listed has_key text_at list_at
template_good v k ms t stands =
    let name = text_suits (get_member (codes "name") ms) t.name stands.name in
    let strategy = text_suits (get_member (codes "strategy") ms) t.strategy stands.strategy in
    let kinds = texts_suit (get_member (codes "kinds") ms) t.kinds (there_or (t.kinds ≡ []) (λ d. IsArray IsText d t.kinds) (get_member (codes "kinds") ms) stands.kinds) in
    let default = text_suits (get_member (codes "default") ms) t.default stands.default in
    let deny = array_needed IsPair (get_member (codes "deny") ms) t.deny stands.deny in
    let suits = both_true name.1 (both_true strategy.1 (both_true kinds (both_true default.1 (both_true (array_suits IsPair (get_member (codes "deny") ms) t.deny deny.1) refl)))) in
    let pairs = pairs_say (listed (codes "deny") ms) t.deny (array_zips IsPair (get_member (codes "deny") ms) t.deny deny.1) in
    none_bad_pairs stands.only
    (present name.0 (present strategy.0 (present (some_there (λ d. IsArray IsText d t.kinds) (get_member (codes "kinds") ms) stands.kinds) (present default.0 (present deny.0 refl)))))
    suits pairs

-- It may also be absent.
template_optional : (b : Bool) (ms : Members) → list_any (λ (key : Key). key.needed && not (has_key key.name ms)) (template_keys b) ≡ false
template_optional true ms = refl
template_optional false ms = refl

template_suits : (b : Bool) (ms : Members) (xs : List RawTemplate)
    → MatchOption (get_member (codes "template") ms) (xs ≡ []) (λ d. IsArray (IsTable IsTemplate) d xs) → list_all (suits_in ms) (template_keys b) ≡ true
unfolding has_key list_at
template_suits true ms xs stands = both_true (array_suits (IsTable IsTemplate) (get_member (codes "template") ms) xs stands) refl
template_suits false ms xs stands = refl

only_document : (ms : Members) (n : ℤ) → has_only (document_names n) ms ≡ true → has_only_keys (keys_of (Some n) Document) ms ≡ true
unfolding has_only_keys
only_document ms n only =
    subst (λ (names : List (List ℕ)). has_only (codes "topos" ∷ codes "answers" ∷ codes "host" ∷ codes "invariant" ∷ codes "flow" ∷ names) ms ≡ true)
    (sym (names_by (int_eq n (pos 2)))) only

document_good : (ms : Members) (w : RawDescription) → IsRawOf ms w → bad (Some w.version) Document (table ms) ≡ false
unfolding has_wrong_type has_only_keys lacks_key all_suit has_key text_at integer_at list_at
document_good ms w stands =
    let version = integer_suits (get_member (codes "topos") ms) w.version stands.version in
    let hosts = array_needed (IsTable IsHost) (get_member (codes "host") ms) w.hosts stands.hosts in
    let templates = template_suits (int_eq w.version (pos 2)) ms w.templates stands.templates in
    none_bad (only_document ms w.version stands.only) (present version.0 (present hosts.0 (template_optional (int_eq w.version (pos 2)) ms)))
    (both_true version.1
    (both_true (answers_suit (get_member (codes "answers") ms) w.answers stands.answers)
    (both_true (array_suits (IsTable IsHost) (get_member (codes "host") ms) w.hosts hosts.1)
    (both_true (array_suits (IsTable IsInvariant) (get_member (codes "invariant") ms) w.invariants stands.invariants)
    (both_true (array_suits IsFlow (get_member (codes "flow") ms) w.flows stands.flows) templates)))))

nothing_bad : (ms : Members) (w : RawDescription) → IsRawOf ms w → list_all (fits_version (Some w.version)) w.flows ≡ true
    → AreGood (Some w.version) (locations ms)
unfolding locations listed list_at
nothing_bad ms w stands fit =
    let v : Option ℤ = Some w.version in
    let hosts = array_needed (IsTable IsHost) (get_member (codes "host") ms) w.hosts stands.hosts in (
      document_good ms w stands,
      fails_joined _ (map (spot_in Host) (numbered (listed (codes "host") ms))) _
          (tables_good v IsHost Host (host_good v) 1 (listed (codes "host") ms) w.hosts (array_zips (IsTable IsHost) (get_member (codes "host") ms) w.hosts hosts.1))
          (fails_joined _ (flat_map invariant_spots (numbered (listed (codes "invariant") ms))) _
          (invariants_good v 1 (listed (codes "invariant") ms) w.invariants (array_zips (IsTable IsInvariant) (get_member (codes "invariant") ms) w.invariants stands.invariants))
          (fails_joined _ (map (spot_in FlowAt) (numbered (listed (codes "flow") ms))) _
          (flows_good v 1 (listed (codes "flow") ms) w.flows (array_zips IsFlow (get_member (codes "flow") ms) w.flows stands.flows) fit)
          (tables_good v IsTemplate Template (template_good v) 1 (listed (codes "template") ms) w.templates (array_zips (IsTable IsTemplate) (get_member (codes "template") ms) w.templates stands.templates)))),
    )

-- A description with a raw description has a valid form.
pub formed_where_written : (ms : Members) (w : RawDescription) → IsRawOf ms w → first_of (form_conditions ms) ≡ None
unfolding form_conditions first_place integer_at
formed_where_written ms w stands =
    let v = declared_version ms in
    let said = said_version (get_member (codes "topos") ms) w.version stands.version in
    let good = subst (λ (o : Option ℤ). AreGood o (locations ms)) (sym said) (nothing_bad ms w stands (fit_where w.version w.flows stands.whole)) in
    let (unknown, missing, wrong) =
    none_where_fails (λ s. has_unknown_key v s.place s.value) (λ s. has_missing_key v s.place s.value) (λ s. has_wrong_type v s.place s.value) (locations ms) good in
    rw (unknown, missing, wrong) refl

-- A description has a valid form if and only if none of the three conditions holds.
pub formed : (ms : Members) → (first_of (form_conditions ms) ≡ None) ↔ IsFormed ms
formed ms = (λ none. (written ms, written_stands ms none), λ (w, stands). formed_where_written ms w stands)
