-- If all names of a description are known: the conditions on them, in terms of the resolved names.
use Rattle.std.proofs.Common.{◌≡◌, ℕ, ◌+◌, ◌==◌, Bool, true, false, cond, not, ◌&&◌, List, [], ◌∷◌, map, length, Option, Some, None, option_map, option_and_then, is_none, is_some, refl, sym, ap, subst, ◌∙◌}
use Rattle.std.proofs.lemmas.Bool.{and_parts, eq-eqb, eqb-true, false≢true}
use Rattle.std.proofs.lemmas.List.Elements.{All-from_recursion}
use Rattle.std.proofs.lemmas.Option.{option_and_then_some}
use Rattle.std.proofs.lemmas.Slice.Eq.{bytes_eq-Decides}
use Rattle.std.specs.Cmp.{both_ways}
use Rattle.std.specs.List.{AllByRecursion, AllZip, cons_option, filter_map, find, list_all}
use Rattle.std.specs.Option.{option_or}
use Rattle.std.specs.Prelude.{◌≢◌, All, if◌then◌else◌}
use Rattle.std.specs.Str.{bytes_eq}
use Rattle.attr_core.specs.Assigns.{Given}
use Rattle.desc_core.specs.Choices.{Choice, chosen}
use Rattle.desc_form.specs.RawTemplate.{RawTemplate}
use Rattle.desc_core.proofs.ListingLaws.{all_both, all_weaker}
use Rattle.desc_core.proofs.NamesLaws.{undeclared}
use Rattle.desc_core.specs.Flows.{flow_of_names}
use Rattle.desc_core.specs.inner.Parts.{bad_known, ends_of, self_found, twice_found}
use Rattle.desc_core.proofs.UseFactsLaws.{PassesUses, assigns_test, ends_test, hosts_declared, templates_known}
use Rattle.desc_core.specs.UseConditions.{bad_at, bad_attribute, bad_attribute_of, duplicate_flow, is_declared, name_conditions, same_names, self_flow}
use Rattle.desc_core.specs.RawNetwork.{Known, asked_of, given_by, invariant_of, invariants_of, known_of, made_of}
use Rattle.desc_form.specs.Refusals.{refused, refused_by}
use Rattle.desc_form.specs.RawDescription.{RawDescription, RawAssign, RawInvariant}
use Rattle.desc_form.specs.RawFlow.{RawFlow}
use Rattle.desc_form.specs.declared.refusal.Place.TheVariants.{FlowAt}
use Rattle.desc_form.specs.declared.refusal.Refusal.{Refusal}
use Rattle.desc_form.specs.declared.refusal.Why.TheVariants.{DuplicateFlow, SelfFlow}
use Rattle.desc_form.proofs.RowLaws.{in_turn}
use Rattle.desc_form.specs.RawHosts.{network_hosts}
use Rattle.flow_set.specs.EveryFlow.{every_flow}
use Rattle.flow_set.specs.Flow.{IsFlow, same_flow}
use Rattle.flow_set.specs.FlowSet.{set_of}
use Rattle.flow_set.specs.declared.flow.Flow.{Flow}
use Rattle.host_net.specs.Host.{Host, host_named}
use Rattle.host_net.proofs.NamedLaws.{host_named_within, one_name}
use Rattle.table_core.specs.Listing.{each}
use Rattle.text_core.proofs.FirstPairLaws.{told_numbered}
use Rattle.text_core.specs.FirstMatch.{Numbered, Conflict, first_found, first_of, first_conflict, numbered, numbered_from}
use Rattle.text_core.proofs.FirstsLaws.{none_mapped, some_same}

-- ---- lists that are read element by element

zip_cons : {A B : Type 0} (f : A → Option B) (x : A) (xs : List A) (o : Option B) (rest : Option (List B)) (ys : List B) → f x ≡ o
    → ((zs : List B) → rest ≡ Some zs → AllZip (λ x y. f x ≡ Some y) xs zs) → option_and_then (λ y. option_map (λ zs. y ∷ zs) rest) o ≡ Some ys
    → AllZip (λ x y. f x ≡ Some y) (x ∷ xs) ys
zip_cons f x xs None rest ys here later is = cc
zip_cons f x xs (Some y) None ys here later is = cc
zip_cons {A} {B} f x xs (Some y) (Some zs) ys here later is =
    let same : y ∷ zs ≡ ys = cc in
    subst (λ (us : List B). AllZip (λ x y. f x ≡ Some y) (x ∷ xs) us) same (here, later zs refl)

-- Each element of one list is parsed to the element of the other at the same index.
pub each_zip : {A B : Type 0} (f : A → Option B) (xs : List A) (ys : List B) → each f xs ≡ Some ys → AllZip (λ x y. f x ≡ Some y) xs ys
each_zip {A} {B} f [] ys is =
    let same : [] ≡ ys = cc in
    subst (λ (us : List B). AllZip (λ x y. f x ≡ Some y) [] us) same tt
each_zip f (x ∷ xs) ys is = zip_cons f x xs (f x) (each f xs) ys refl (each_zip f xs) is

some_by : {A : Type 0} (o : Option A) (rest : Option (List A)) (all : Bool) → is_some rest ≡ all → is_some (option_and_then (λ y. option_map (λ zs. y ∷ zs) rest) o) ≡ (is_some o && all)
some_by None rest all later = refl
some_by (Some y) None all later = later
some_by (Some y) (Some zs) all later = later

-- A list is parsed if each of its elements is.
pub each_is : {A B : Type 0} (f : A → Option B) (xs : List A) → is_some (each f xs) ≡ list_all (λ x. is_some (f x)) xs
each_is f [] = refl
each_is f (x ∷ xs) = some_by (f x) (each f xs) (list_all (λ y. is_some (f y)) xs) (each_is f xs)

all_read : {A B : Type 0} (f : A → Option B) (xs : List A) (ys : List B) → each f xs ≡ Some ys → list_all (λ x. is_some (f x)) xs ≡ true
all_read f xs ys is = sym (each_is f xs) ∙ ap is_some is

never_none : {A B : Type 0} (f : A → Option B) (xs : List A) → each f xs ≡ None → list_all (λ x. is_some (f x)) xs ≡ true → ⊥
never_none f xs is all = false≢true (sym (ap is_some is) ∙ each_is f xs ∙ all)

-- ---- facts about a known name

declared_by : {A : Type 0} (o : Option A) (b : Bool) → is_none o ≡ not b → is_some o ≡ b
declared_by None true is = cc
declared_by None false is = refl
declared_by (Some x) true is = refl
declared_by (Some x) false is = cc

pub is_host : (w : RawDescription) (name : List ℕ) → is_some (host_named (network_hosts w) name) ≡ is_declared w name
is_host w name = declared_by (host_named (network_hosts w) name) (is_declared w name) (undeclared w name)

map_is : {A B : Type 0} (f : A → B) (o : Option A) → is_some (option_map f o) ≡ is_some o
map_is f None = refl
map_is f (Some x) = refl

abbrev pub known : Choice → List Given → Known
known template assigns = record { template = template; assigns = assigns }

known_by : (t : Option Choice) (assigns : Option (List Given))
    → is_some (option_and_then (λ template. option_and_then (λ given. Some (known template given)) assigns) t) ≡ (is_some t && is_some assigns)
known_by None assigns = refl
known_by (Some t) None = refl
known_by (Some t) (Some assigns) = refl

given_one : (w : RawDescription) (a : RawAssign) → is_some (given_by (network_hosts w) a) ≡ is_declared w a.host
given_one w a =
    let given : ℕ → Given = λ host. record { host = host; table = a.table } in
    map_is given (host_named (network_hosts w) a.host) ∙ is_host w a.host

given_is : (w : RawDescription) (as' : List RawAssign) → is_some (each (given_by (network_hosts w)) as') ≡ list_all (λ (a : RawAssign). is_declared w a.host) as'
given_is w as' =
    each_is (given_by (network_hosts w)) as'
    ∙ (λ j. list_all (λ (a : RawAssign). (given_one w a) j) as')

pub is_known : (w : RawDescription) (i : RawInvariant)
    → is_some (known_of w.templates (network_hosts w) i) ≡ (is_some (chosen w.templates i.template) && list_all (λ (a : RawAssign). is_declared w a.host) i.assigns)
unfolding known_of
is_known w i = known_by (chosen w.templates i.template) (each (given_by (network_hosts w)) i.assigns) ∙ ap (λ b. is_some (chosen w.templates i.template) && b) (given_is w i.assigns)

abbrev flow_from_to : ℕ → ℕ → Flow
flow_from_to from to = record { from = from; to = to }

ends_by : (from to : Option ℕ) → is_some (option_and_then (λ i. option_and_then (λ j. Some (flow_from_to i j)) to) from) ≡ (is_some from && is_some to)
ends_by None to = refl
ends_by (Some i) None = refl
ends_by (Some i) (Some j) = refl

pub are_ends : (w : RawDescription) (f : RawFlow) → is_some (ends_of (network_hosts w) f) ≡ (is_declared w f.from && is_declared w f.to)
are_ends w f = ends_by (host_named (network_hosts w) f.from) (host_named (network_hosts w) f.to) ∙ (λ j. is_host w f.from j && is_host w f.to j)

-- ---- 15 and 16

abbrev template_test : RawDescription → RawInvariant → Bool
template_test w i = is_some (chosen w.templates i.template)

known_tests : (w : RawDescription) → list_all (λ i. is_some (known_of w.templates (network_hosts w) i)) w.invariants ≡ list_all (λ i. template_test w i && assigns_test w i) w.invariants
known_tests w = λ j. list_all (λ i. is_known w i j) w.invariants

pub ends_tests : (w : RawDescription) → list_all (λ f. is_some (ends_of (network_hosts w) f)) w.flows ≡ list_all (ends_test w) w.flows
ends_tests w = λ j. list_all (λ f. are_ends w f j) w.flows

-- Every invariant of a sound description is known.
pub all_known : (w : RawDescription) → PassesUses w → list_all (λ i. is_some (known_of w.templates (network_hosts w) i)) w.invariants ≡ true
all_known w sound =
    known_tests w ∙ all_both (template_test w) (assigns_test w) (λ i. template_test w i && assigns_test w i) (λ i a b. rw (a, b) refl) w.invariants sound.templates sound.assigned

-- If all names are known, conditions 15 and 16 refuse nothing.
pub names_known : (w : RawDescription) (ks : List Known) (es : List Flow) → each (known_of w.templates (network_hosts w)) w.invariants ≡ Some ks → each (ends_of (network_hosts w)) w.flows ≡ Some es
    → first_of (name_conditions w) ≡ None
names_known w ks es known found =
    let both : list_all (λ i. template_test w i && assigns_test w i) w.invariants ≡ true = sym (known_tests w) ∙ all_read (known_of w.templates (network_hosts w)) w.invariants ks known in
    let ends : list_all (ends_test w) w.flows ≡ true = sym (ends_tests w) ∙ all_read (ends_of (network_hosts w)) w.flows es found in
    let templates = all_weaker (λ i. template_test w i && assigns_test w i) (template_test w) (λ i here. (and_parts (template_test w i) _ here).0) w.invariants both in
    let assigns = all_weaker (λ i. template_test w i && assigns_test w i) (assigns_test w) (λ i here. (and_parts (template_test w i) _ here).1) w.invariants both in
    (in_turn (name_conditions w)).1 ((templates_known w).1 templates, ((hosts_declared w).1 (assigns, ends), tt))

-- If one is unknown, one of them refuses the description.
pub unknown_invariant : (w : RawDescription) → each (known_of w.templates (network_hosts w)) w.invariants ≡ None → first_of (name_conditions w) ≢ None
unknown_invariant w none told =
    let (templates, (hosts, _)) = (in_turn (name_conditions w)).0 told in
    never_none (known_of w.templates (network_hosts w)) w.invariants none
    (known_tests w ∙ all_both (template_test w) (assigns_test w) (λ i. template_test w i && assigns_test w i) (λ i a b. rw (a, b) refl) w.invariants ((templates_known w).0 templates) ((hosts_declared w).0 hosts).0)

pub unknown_end : (w : RawDescription) → each (ends_of (network_hosts w)) w.flows ≡ None → first_of (name_conditions w) ≢ None
unknown_end w none told =
    let (_, (hosts, _)) = (in_turn (name_conditions w)).0 told in
    never_none (ends_of (network_hosts w)) w.flows none (ends_tests w ∙ ((hosts_declared w).0 hosts).1)

-- ---- 18, and the invariants

bad_zip : (ts : List RawTemplate) (hosts : List Host) (n : ℕ) (is : List RawInvariant) (ks : List Known) → AllZip (λ i k. known_of ts hosts i ≡ Some k) is ks
    → first_found (bad_attribute_of ts hosts) (numbered_from n is) ≡ first_found (λ (k : Numbered Known). bad_at hosts k.number k.what) (numbered_from n ks)
bad_zip ts hosts n [] [] zipped = refl
bad_zip ts hosts n [] (k ∷ ks) zipped = absurd zipped
bad_zip ts hosts n (i ∷ is) [] zipped = absurd zipped
bad_zip ts hosts n (i ∷ is) (k ∷ ks) zipped = λ j. option_or (option_and_then (bad_at hosts n) (zipped.0 j)) (bad_zip ts hosts (n + 1) is ks zipped.1 j)

pub bad_is : (w : RawDescription) (ks : List Known) → each (known_of w.templates (network_hosts w)) w.invariants ≡ Some ks → bad_attribute w ≡ bad_known (network_hosts w) ks
unfolding bad_attribute
bad_is w ks known = bad_zip w.templates (network_hosts w) 1 w.invariants ks (each_zip (known_of w.templates (network_hosts w)) w.invariants ks known)

made_zip : (ts : List RawTemplate) (hosts : List Host) (is : List RawInvariant) (ks : List Known) → AllZip (λ i k. known_of ts hosts i ≡ Some k) is ks → filter_map (invariant_of ts hosts) is ≡ map (made_of hosts) ks
made_zip ts hosts [] [] zipped = refl
made_zip ts hosts [] (k ∷ ks) zipped = absurd zipped
made_zip ts hosts (i ∷ is) [] zipped = absurd zipped
made_zip ts hosts (i ∷ is) (k ∷ ks) zipped = λ j. cons_option (option_map (made_of hosts) (zipped.0 j)) (made_zip ts hosts is ks zipped.1 j)

pub invariants_are : (w : RawDescription) (ks : List Known) → each (known_of w.templates (network_hosts w)) w.invariants ≡ Some ks → invariants_of w ≡ map (made_of (network_hosts w)) ks
unfolding invariants_of
invariants_are w ks known = made_zip w.templates (network_hosts w) w.invariants ks (each_zip (known_of w.templates (network_hosts w)) w.invariants ks known)

-- ---- 19 and 20, and the set of flows

-- A raw flow, and the flow between its hosts.
record Located (hosts : List Host) : Type 0 where
  written : RawFlow
  flow : Flow
  is : ends_of hosts written ≡ Some flow

located : (hosts : List Host) (ws : List RawFlow) (es : List Flow) → AllZip (λ w e. ends_of hosts w ≡ Some e) ws es → List (Located hosts)
located hosts [] [] zipped = []
located hosts [] (e ∷ es) zipped = absurd zipped
located hosts (w ∷ ws) [] zipped = absurd zipped
located hosts (w ∷ ws) (e ∷ es) zipped = record { written = w; flow = e; is = zipped.0 } ∷ located hosts ws es zipped.1

written_are : (hosts : List Host) (ws : List RawFlow) (es : List Flow) (zipped : AllZip (λ w e. ends_of hosts w ≡ Some e) ws es) → map (λ (l : Located hosts). l.written) (located hosts ws es zipped) ≡ ws
unfolding located
written_are hosts [] [] zipped = refl
written_are hosts [] (e ∷ es) zipped = absurd zipped
written_are hosts (w ∷ ws) [] zipped = absurd zipped
written_are hosts (w ∷ ws) (e ∷ es) zipped = ap (λ us. w ∷ us) (written_are hosts ws es zipped.1)

flows_are : (hosts : List Host) (ws : List RawFlow) (es : List Flow) (zipped : AllZip (λ w e. ends_of hosts w ≡ Some e) ws es) → map (λ (l : Located hosts). l.flow) (located hosts ws es zipped) ≡ es
unfolding located
flows_are hosts [] [] zipped = refl
flows_are hosts [] (e ∷ es) zipped = absurd zipped
flows_are hosts (w ∷ ws) [] zipped = absurd zipped
flows_are hosts (w ∷ ws) (e ∷ es) zipped = ap (λ us. e ∷ us) (flows_are hosts ws es zipped.1)

pub named_ends : (hosts : List Host) (w : RawFlow) (e : Flow) → ends_of hosts w ≡ Some e → (host_named hosts w.from ≡ Some e.from) × (host_named hosts w.to ≡ Some e.to)
named_ends hosts w e is =
    option_and_then_some _ (host_named hosts w.from) e is (λ from is_from with_to.
    option_and_then_some _ (host_named hosts w.to) e with_to (λ to is_to last.
    let same : flow_from_to from to ≡ e = cc in
    (is_from ∙ ap (λ (f : Flow). Some f.from) same, is_to ∙ ap (λ (f : Flow). Some f.to) same)))

-- Two names are equal if their hosts are.
one_test : (hosts : List Host) (a b : List ℕ) (i j : ℕ) → host_named hosts a ≡ Some i → host_named hosts b ≡ Some j → bytes_eq a b ≡ (i == j)
one_test hosts a b i j at_a at_b =
    both_ways (bytes_eq a b) (i == j)
    (λ same. eq-eqb i j (some_same i j (sym at_a ∙ ap (host_named hosts) ((bytes_eq-Decides a b).0 same) ∙ at_b)))
    (λ same. (bytes_eq-Decides a b).1 (one_name hosts a b j (at_a ∙ ap Some (eqb-true i j same)) at_b))

same_test : (hosts : List Host) (x y : Located hosts) → same_names x.written y.written ≡ same_flow x.flow y.flow
same_test hosts x y =
    let (from_x, to_x) = named_ends hosts x.written x.flow x.is in
    let (from_y, to_y) = named_ends hosts y.written y.flow y.is in
    λ j.
    one_test hosts x.written.from y.written.from x.flow.from y.flow.from from_x from_y j && one_test hosts x.written.to y.written.to x.flow.to y.flow.to to_x to_y j

abbrev tell_twice : {A : Type 0} → Conflict (Numbered A) → Refusal
tell_twice p = refused_by DuplicateFlow (FlowAt p.later.number) p.earlier.number

twice_zip : (hosts : List Host) (ws : List RawFlow) (es : List Flow) → AllZip (λ w e. ends_of hosts w ≡ Some e) ws es
    → option_map tell_twice (first_conflict (λ (f g : Numbered RawFlow). same_names f.what g.what) (numbered ws)) ≡ twice_found es
twice_zip hosts ws es zipped =
    let ls = located hosts ws es zipped in
    ap (λ us. option_map tell_twice (first_conflict (λ (f g : Numbered RawFlow). same_names f.what g.what) (numbered us))) (sym (written_are hosts ws es zipped))
    ∙ sym (told_numbered same_names (λ (l : Located hosts). l.written) tell_twice ls (first_conflict (λ (x y : Numbered (Located hosts)). same_names x.what.written y.what.written) (numbered ls)) refl)
    ∙ (λ j. option_map tell_twice (first_conflict (λ (x y : Numbered (Located hosts)). same_test hosts x.what y.what j) (numbered ls)))
    ∙ told_numbered same_flow (λ (l : Located hosts). l.flow) tell_twice ls (first_conflict (λ (x y : Numbered (Located hosts)). same_flow x.what.flow y.what.flow) (numbered ls)) refl
    ∙ ap twice_found (flows_are hosts ws es zipped)

pub twice_is : (w : RawDescription) (es : List Flow) → each (ends_of (network_hosts w)) w.flows ≡ Some es → duplicate_flow w.flows ≡ twice_found es
twice_is w es found = twice_zip (network_hosts w) w.flows es (each_zip (ends_of (network_hosts w)) w.flows es found)

abbrev tell_self : {A : Type 0} → Numbered A → Refusal
tell_self f = refused SelfFlow (FlowAt f.number)

self_step : {A B : Type 0} (b c : Bool) (x : Numbered A) (y : Numbered B) (o : Option (Numbered A)) (p : Option (Numbered B)) → b ≡ c → x.number ≡ y.number → option_map tell_self o ≡ option_map tell_self p
    → option_map tell_self (cond b (Some x) o) ≡ option_map tell_self (cond c (Some y) p)
self_step true true x y o p test place later = ap (λ k. Some (refused SelfFlow (FlowAt k))) place
self_step true false x y o p test place later = cc
self_step false true x y o p test place later = cc
self_step false false x y o p test place later = later

self_zip : (hosts : List Host) (n : ℕ) (ws : List RawFlow) (es : List Flow) → AllZip (λ w e. ends_of hosts w ≡ Some e) ws es
    → option_map tell_self (find (λ (f : Numbered RawFlow). bytes_eq f.what.from f.what.to) (numbered_from n ws))
    ≡ option_map tell_self (find (λ (f : Numbered Flow). f.what.from == f.what.to) (numbered_from n es))
self_zip hosts n [] [] zipped = refl
self_zip hosts n [] (e ∷ es) zipped = absurd zipped
self_zip hosts n (w ∷ ws) [] zipped = absurd zipped
self_zip hosts n (w ∷ ws) (e ∷ es) zipped =
    let (from, to) = named_ends hosts w e zipped.0 in
    self_step (bytes_eq w.from w.to) (e.from == e.to) (record { number = n; what = w }) (record { number = n; what = e }) _ _ (one_test hosts w.from w.to e.from e.to from to) refl
    (self_zip hosts (n + 1) ws es zipped.1)

pub self_is : (w : RawDescription) (es : List Flow) → each (ends_of (network_hosts w)) w.flows ≡ Some es → self_flow w.flows ≡ self_found es
self_is w es found = self_zip (network_hosts w) 1 w.flows es (each_zip (ends_of (network_hosts w)) w.flows es found)

-- Flows none of which is from a host to itself.
apart_from : (n : ℕ) (es : List Flow) → find (λ (f : Numbered Flow). f.what.from == f.what.to) (numbered_from n es) ≡ None → list_all (λ (e : Flow). not (e.from == e.to)) es ≡ true
apart_from n [] none = refl
apart_from n (e ∷ es) none = apart_step (e.from == e.to) (record { number = n; what = e }) _ _ none (apart_from (n + 1) es)
  where
    apart_step : (b : Bool) (x : Numbered Flow) (o : Option (Numbered Flow)) (rest : Bool) → cond b (Some x) o ≡ None → (o ≡ None → rest ≡ true) → (not b && rest) ≡ true
    apart_step true x o rest none later = cc
    apart_step false x o rest none later = later none

pub all_apart : (es : List Flow) → self_found es ≡ None → list_all (λ (e : Flow). not (e.from == e.to)) es ≡ true
all_apart es none = apart_from 1 es (none_mapped tell_self _ none)

differ_by : (a b : ℕ) → not (a == b) ≡ true → a ≢ b
differ_by a b apart same = let never : not true ≡ true = sym (ap not (eq-eqb a b same)) ∙ apart in cc

flow_by : (b : Bool) (w : RawFlow) (i j : ℕ) → not b ≡ true → (if b then None else Some (flow_from_to i j)) ≡ Some (flow_from_to i j)
flow_by true w i j apart = cc
flow_by false w i j apart = refl

pub flow_is : (hosts : List Host) (w : RawFlow) (e : Flow) → ends_of hosts w ≡ Some e → not (e.from == e.to) ≡ true → flow_of_names hosts w ≡ Some e
flow_is hosts w e is apart =
    let (from, to) = named_ends hosts w e is in
    (λ j. option_and_then (λ i. option_and_then (λ k. if i == k then None else Some (flow_from_to i k)) (to j)) (from j))
    ∙ flow_by (e.from == e.to) w e.from e.to apart

between_zip : (hosts : List Host) (ws : List RawFlow) (es : List Flow) → AllZip (λ w e. ends_of hosts w ≡ Some e) ws es → list_all (λ (e : Flow). not (e.from == e.to)) es ≡ true
    → filter_map (flow_of_names hosts) ws ≡ es
between_zip hosts [] [] zipped apart = refl
between_zip hosts [] (e ∷ es) zipped apart = absurd zipped
between_zip hosts (w ∷ ws) [] zipped apart = absurd zipped
between_zip hosts (w ∷ ws) (e ∷ es) zipped apart =
    let (here, behind) = and_parts (not (e.from == e.to)) _ apart in
    λ j. cons_option (flow_is hosts w e zipped.0 here j) (between_zip hosts ws es zipped.1 behind j)

-- The requested flows.
pub asked_is : (w : RawDescription) (es : List Flow) → each (ends_of (network_hosts w)) w.flows ≡ Some es → self_found es ≡ None
    → asked_of w ≡ (if w.given then set_of es else every_flow (length w.hosts))
unfolding asked_of
asked_is w es found none =
    ap (λ fs. if w.given then set_of fs else every_flow (length w.hosts)) (between_zip (network_hosts w) w.flows es (each_zip (ends_of (network_hosts w)) w.flows es found) (all_apart es none))

flows_zip : (hosts : List Host) (ws : List RawFlow) (es : List Flow) → AllZip (λ w e. ends_of hosts w ≡ Some e) ws es → list_all (λ (e : Flow). not (e.from == e.to)) es ≡ true
    → AllByRecursion (IsFlow (length hosts)) es
flows_zip hosts [] [] zipped apart = tt
flows_zip hosts [] (e ∷ es) zipped apart = absurd zipped
flows_zip hosts (w ∷ ws) [] zipped apart = absurd zipped
flows_zip hosts (w ∷ ws) (e ∷ es) zipped apart =
    let (here, behind) = and_parts (not (e.from == e.to)) _ apart in
    let (from, to) = named_ends hosts w e zipped.0 in
    ((host_named_within hosts w.from e.from from, host_named_within hosts w.to e.to to, differ_by e.from e.to here), flows_zip hosts ws es zipped.1 behind)

pub are_flows : (hosts : List Host) (ws : List RawFlow) (es : List Flow) → each (ends_of hosts) ws ≡ Some es → self_found es ≡ None → All (IsFlow (length hosts)) es
are_flows hosts ws es found none = All-from_recursion (IsFlow (length hosts)) es (flows_zip hosts ws es (each_zip (ends_of hosts) ws es found) (all_apart es none))
