-- Raw flows between two hosts: their elements in a table, and the flows and services that remain without them.
use Rattle.std.proofs.Common.{◌≡◌, ◌≢◌, ◌==◌, inl, inr, ℕ, Bool, true, false, cond, not, ◌&&◌, ◌||◌, List, [], ◌∷◌, ◌++◌, map, filter, Option, Some, None, option_map, option_and_then, refl, sym, ap, subst, ◌∙◌, arith}
use Rattle.std.proofs.lemmas.Bool.{and_from, and_parts, both_ways, cases_Bool, or_cases, or_parts}
use Rattle.std.proofs.lemmas.Bool.Decides.{nat_tests}
use Rattle.std.proofs.lemmas.List.Elements.{All-from_recursion, filter_map-append}
use Rattle.std.proofs.lemmas.List.Sums.{fold-append}
use Rattle.std.proofs.lemmas.Slice.Eq.{bytes_eq-Decides}
use Rattle.std.specs.List.{All, AllByRecursion, AllZip, cons_option, filter_map, fold, list_any}
use Rattle.std.specs.Option.{option_map_or}
use Rattle.std.specs.Prelude.{IsFalse, IsTrue, if◌then◌else◌}
use Rattle.std.specs.Str.{bytes_eq}
use Rattle.toml.specs.Data.{Data, string, as_str}
use Rattle.desc_core.proofs.ServicesLemmas.{added, is_new}
use Rattle.desc_core.specs.Flows.{flow_of_names}
use Rattle.desc_core.specs.inner.Parts.{with_services}
use Rattle.desc_core.specs.RawNetwork.{narrowed_of, narrowed_to, declared_services}
use Rattle.desc_form.proofs.FlowLaws.{flow_says}
use Rattle.desc_form.specs.RawFlow.{RawFlow, flow_of_texts, flow_of_values, raw_flow}
use Rattle.desc_form.specs.inner.RawForm.{IsFlow}
use Rattle.edit_core.proofs.FlowTables.{listed_again}
use Rattle.edit_core.specs.Edited.{begins_with, is_between, text_list}
use Rattle.edit_core.specs.inner.FlowEdits.{without_services}
use Rattle.flow_set.specs.Flow.{same_flow}
use Rattle.flow_set.specs.laws.FlowLaws.{has_first, has_nothing, same_fact, same_flow-true, same_flow_self, same_flow_sym}
use Rattle.flow_set.specs.FlowSet.{has, set_of, with_flow}
use Rattle.flow_set.specs.declared.flow.Flow.{Flow}
use Rattle.host_net.specs.Host.{Host, host_named}
use Rattle.host_net.proofs.NamedLaws.{one_name}
use Rattle.host_net.specs.Services.{RestrictedFlow, services_of}
use Rattle.host_net.specs.ServiceText.{service_of}
use Rattle.host_net.specs.declared.service.Service.{Service}
use Rattle.table_core.specs.Listing.{each}
use Rattle.table_core.specs.Tables.{elements_of}
use Rattle.text_core.specs.Steps.{◌>>=◌}

-- ---- the elements of a table

-- The flow has the names of these hosts.
abbrev pub is_named : (from to : List ℕ) → RawFlow → Bool
is_named from to w = bytes_eq from w.from && bytes_eq to w.to

-- Whether an element begins with two names, in terms of the flow that it denotes.
names_by : (from to : List ℕ) (x y : Option (List ℕ)) (rest : Option (List (List ℕ))) (w : RawFlow)
    → (option_and_then (λ a. option_map (λ xs. a ∷ xs) (option_and_then (λ b. option_map (λ xs. b ∷ xs) rest) y)) x >>= flow_of_texts) ≡ Some w
    → (option_map_or (bytes_eq from) x false && option_map_or (bytes_eq to) y false) ≡ is_named from to w
names_by from to None y rest w is = cc
names_by from to (Some a) None rest w is = cc
names_by from to (Some a) (Some b) None w is = cc
names_by from to (Some a) (Some b) (Some ts) w is =
    let said : RawFlow = record { from = a; to = b; services = ts } in
    let same : said ≡ w = cc in
    ap (is_named from to) same

one_alone : (x : Option (List ℕ)) (w : RawFlow) → (option_and_then (λ a. option_map (λ xs. a ∷ xs) (Some [])) x >>= flow_of_texts) ≡ Some w → ⊥
one_alone None w is = cc
one_alone (Some a) w is = cc

begins_said : (from to : List ℕ) (ds : List Data) (w : RawFlow) → flow_of_values ds ≡ Some w → begins_with from to ds ≡ is_named from to w
begins_said from to [] w is = cc
begins_said from to (x ∷ []) w is = absurd (one_alone (as_str x) w is)
begins_said from to (x ∷ y ∷ ds) w is = names_by from to (as_str x) (as_str y) (each as_str ds) w is

between_by : (from to : List ℕ) (o : Option (List Data)) (w : RawFlow) → (o >>= flow_of_values) ≡ Some w
    → option_map_or (begins_with from to) o false ≡ is_named from to w
between_by from to None w is = cc
between_by from to (Some ds) w is = begins_said from to ds w is

between_said : (from to : List ℕ) (d : Data) (w : RawFlow) → IsFlow d w → is_between from to d ≡ is_named from to w
unfolding raw_flow
between_said from to d w is = between_by from to (elements_of d) w (flow_says d w is)

pub any_said : (from to : List ℕ) (ds : List Data) (ws : List RawFlow) → AllZip IsFlow ds ws → list_any (is_between from to) ds ≡ list_any (is_named from to) ws
any_said from to [] [] zipped = refl
any_said from to [] (w ∷ ws) zipped = absurd zipped
any_said from to (d ∷ ds) [] zipped = absurd zipped
any_said from to (d ∷ ds) (w ∷ ws) (is, zipped) = λ i. between_said from to d w is i || any_said from to ds ws zipped i

-- The elements and the flows that remain.
abbrev pub other_flows : (from to : List ℕ) → List RawFlow → List RawFlow
other_flows from to ws = filter (λ w. not (is_named from to w)) ws

abbrev pub other_elements : (from to : List ℕ) → List Data → List Data
other_elements from to ds = filter (λ d. not (is_between from to d)) ds

left_by : (b c : Bool) (d : Data) (w : RawFlow) (ds : List Data) (ws : List RawFlow) → b ≡ c → IsFlow d w → AllZip IsFlow ds ws
    → AllZip IsFlow (cond (not b) (d ∷ ds) ds) (cond (not c) (w ∷ ws) ws)
left_by true true d w ds ws same is zipped = zipped
left_by false false d w ds ws same is zipped = (is, zipped)
left_by true false d w ds ws same is zipped = cc
left_by false true d w ds ws same is zipped = cc

pub others_zipped : (from to : List ℕ) (ds : List Data) (ws : List RawFlow) → AllZip IsFlow ds ws
    → AllZip IsFlow (other_elements from to ds) (other_flows from to ws)
others_zipped from to [] [] zipped = tt
others_zipped from to [] (w ∷ ws) zipped = absurd zipped
others_zipped from to (d ∷ ds) [] zipped = absurd zipped
others_zipped from to (d ∷ ds) (w ∷ ws) (is, zipped) =
    left_by (is_between from to d) (is_named from to w) d w (other_elements from to ds) (other_flows from to ws) (between_said from to d w is) is
    (others_zipped from to ds ws zipped)

pub zipped_more : (ds : List Data) (ws : List RawFlow) (d : Data) (w : RawFlow) → AllZip IsFlow ds ws → IsFlow d w
    → AllZip IsFlow (ds ++ d ∷ []) (ws ++ w ∷ [])
zipped_more [] [] d w zipped is = (is, tt)
zipped_more [] (v ∷ ws) d w zipped is = absurd zipped
zipped_more (e ∷ ds) [] d w zipped is = absurd zipped
zipped_more (e ∷ ds) (v ∷ ws) d w (first, zipped) is = (first, zipped_more ds ws d w zipped is)

-- An array of strings denotes a flow.
texts_said : (ws : List (List ℕ)) → each as_str (map string ws) ≡ Some ws
texts_said [] = refl
texts_said (w ∷ ws) = ap (option_map (λ (xs : List (List ℕ)). w ∷ xs)) (texts_said ws)

pub flow_said : (from to : List ℕ) (texts : List (List ℕ))
    → raw_flow (text_list (from ∷ to ∷ texts)) ≡ Some (record { from = from; to = to; services = texts })
unfolding raw_flow
flow_said from to texts =
    ap (λ (o : Option (List Data)). o >>= flow_of_values) (listed_again (map string (from ∷ to ∷ texts)))
    ∙ ap (λ (o : Option (List (List ℕ))). o >>= flow_of_texts) (texts_said (from ∷ to ∷ texts))

-- ---- the flow of two names

abbrev flow_of_ends : Option ℕ → Option ℕ → Option Flow
flow_of_ends x y = option_and_then (λ a. option_and_then (λ b. if a == b then None else Some (record { from = a; to = b })) y) x

different : (a b : ℕ) → a ≢ b → (a == b) ≡ false
different a b apart = grind (arith, nat_tests)

between_ends : (x y : Option ℕ) (a b : ℕ) → x ≡ Some a → y ≡ Some b → a ≢ b → flow_of_ends x y ≡ Some (record { from = a; to = b })
between_ends x y a b is_from is_to apart = rw (is_from, is_to, different a b apart) refl

unless_by : (t : Bool) (a b : ℕ) (h : Flow) → (if t then None else Some (record { from = a; to = b })) ≡ Some h → (Some a ≡ Some h.from) × (Some b ≡ Some h.to)
unless_by true a b h is = cc
unless_by false a b h is =
    let led : Flow = record { from = a; to = b } in
    let same : led ≡ h = cc in
    (ap (λ (g : Flow). Some g.from) same, ap (λ (g : Flow). Some g.to) same)

ends_by : (x y : Option ℕ) (h : Flow) → flow_of_ends x y ≡ Some h → (x ≡ Some h.from) × (y ≡ Some h.to)
ends_by None y h is = cc
ends_by (Some a) None h is = cc
ends_by (Some a) (Some b) h is = unless_by (a == b) a b h is

-- The hosts of a flow have its names.
ends_are : (hosts : List Host) (w : RawFlow) (h : Flow) → flow_of_names hosts w ≡ Some h → (host_named hosts w.from ≡ Some h.from) × (host_named hosts w.to ≡ Some h.to)
ends_are hosts w h is = ends_by (host_named hosts w.from) (host_named hosts w.to) h is

-- Two names, and the flow between their hosts.
pub record AreEnds (hosts : List Host) (from to : List ℕ) (f : Flow) : Type 0 where
  pub is_from : host_named hosts from ≡ Some f.from
  pub is_to : host_named hosts to ≡ Some f.to
  pub apart : f.from ≢ f.to

pub one_flow : (hosts : List Host) (from to : List ℕ) (f : Flow) (w : RawFlow) → AreEnds hosts from to f → is_named from to w ≡ true
    → flow_of_names hosts w ≡ Some f
one_flow hosts from to f w ends is =
    let both = and_parts (bytes_eq from w.from) (bytes_eq to w.to) is in
    let first : host_named hosts w.from ≡ Some f.from = ap (host_named hosts) (sym ((bytes_eq-Decides from w.from).0 both.0)) ∙ ends.is_from in
    let second : host_named hosts w.to ≡ Some f.to = ap (host_named hosts) (sym ((bytes_eq-Decides to w.to).0 both.1)) ∙ ends.is_to in
    between_ends (host_named hosts w.from) (host_named hosts w.to) f.from f.to first second ends.apart

other_flow : (hosts : List Host) (from to : List ℕ) (f h : Flow) (w : RawFlow) → AreEnds hosts from to f → is_named from to w ≡ false
    → flow_of_names hosts w ≡ Some h → same_flow f h ≡ false
other_flow hosts from to f h w ends is_not leads = elim (cases_Bool (same_flow f h)) [
  | inr other ↦ other
  | inl same ↦
      let own = ends_are hosts w h leads in
      let led : f ≡ h = same_flow-true f h same in
      let first : from ≡ w.from = one_name hosts from w.from f.from ends.is_from (own.0 ∙ ap (λ (g : Flow). Some g.from) (sym led)) in
      let second : to ≡ w.to = one_name hosts to w.to f.to ends.is_to (own.1 ∙ ap (λ (g : Flow). Some g.to) (sym led)) in
      absurd (both_ways _ is_not (and_from (bytes_eq from w.from) (bytes_eq to w.to) ((bytes_eq-Decides from w.from).1 first) ((bytes_eq-Decides to w.to).1 second)))
]

-- ---- the listed flows

abbrev pub flows_among : List Host → List RawFlow → List Flow
flows_among hosts ws = filter_map (flow_of_names hosts) ws

abbrev pub narrowed_among : List Host → List RawFlow → List RestrictedFlow
narrowed_among hosts ws = filter_map (narrowed_of hosts) ws

-- One of them has these names if their flow is listed.
named_by : (hosts : List Host) (from to : List ℕ) (f : Flow) (w : RawFlow) (o : Option Flow) (b rest : Bool) (fs : List Flow) → AreEnds hosts from to f
    → flow_of_names hosts w ≡ o → is_named from to w ≡ b → IsTrue (has (cons_option o fs) f) → (IsTrue (has fs f) → rest ≡ true) → (b || rest) ≡ true
named_by hosts from to f w o true rest fs ends leads is there later = refl
named_by hosts from to f w None false rest fs ends leads is there later = later there
named_by hosts from to f w (Some h) false rest fs ends leads is there later = elim (or_cases (same_flow h f) (has fs f) there) [
  | inl same ↦ absurd (both_ways _ (other_flow hosts from to f h w ends is leads) (same_flow_sym f h ∙ same))
  | inr behind ↦ later behind
]

pub named_where : (hosts : List Host) (from to : List ℕ) (f : Flow) (ws : List RawFlow) → AreEnds hosts from to f → IsTrue (has (flows_among hosts ws) f)
    → list_any (is_named from to) ws ≡ true
named_where hosts from to f [] ends there = has_nothing f there
named_where hosts from to f (w ∷ ws) ends there =
    named_by hosts from to f w (flow_of_names hosts w) (is_named from to w) (list_any (is_named from to) ws) (flows_among hosts ws) ends refl refl there
    (named_where hosts from to f ws ends)

-- ---- one more flow

pub asked_more : (hosts : List Host) (ws : List RawFlow) (w : RawFlow) (f : Flow) → flow_of_names hosts w ≡ Some f
    → set_of (flows_among hosts (ws ++ w ∷ [])) ≡ with_flow (set_of (flows_among hosts ws)) f
unfolding set_of
asked_more hosts ws w f leads =
    ap (fold with_flow [])
    (filter_map-append (flow_of_names hosts) ws (w ∷ []) ∙ ap (λ (o : Option Flow). flows_among hosts ws ++ cons_option o []) leads)
    ∙ fold-append with_flow [] (flows_among hosts ws) (f ∷ [])

behind_fails : (o : Option Flow) (fs : List Flow) (f : Flow) → IsFalse (has (cons_option o fs) f) → IsFalse (has fs f)
behind_fails None fs f none = none
behind_fails (Some h) fs f none = (or_parts (same_flow h f) (has fs f) none).1

-- No listed flow has names whose flow is not listed.
none_named : (hosts : List Host) (from to : List ℕ) (f : Flow) (ws : List RawFlow) → AreEnds hosts from to f → IsFalse (has (flows_among hosts ws) f)
    → AllByRecursion (λ (w : RawFlow). w.from ≡ from → w.to ≡ to → ⊥) ws
none_named hosts from to f [] ends none = tt
none_named hosts from to f (w ∷ ws) ends none = (
  λ first second.
      let is : is_named from to w ≡ true = and_from (bytes_eq from w.from) (bytes_eq to w.to) ((bytes_eq-Decides from w.from).1 (sym first)) ((bytes_eq-Decides to w.to).1 (sym second)) in
      let there : has (cons_option (flow_of_names hosts w) (flows_among hosts ws)) f ≡ true =
      ap (λ (o : Option Flow). has (cons_option o (flows_among hosts ws)) f) (one_flow hosts from to f w ends is) ∙ has_first f (flows_among hosts ws) in
      both_ways _ none there,
  none_named hosts from to f ws ends (behind_fails (flow_of_names hosts w) (flows_among hosts ws) f none),
)

pub all_apart : (hosts : List Host) (from to : List ℕ) (f : Flow) (ws : List RawFlow) → AreEnds hosts from to f → IsFalse (has (flows_among hosts ws) f)
    → All (λ (w : RawFlow). w.from ≡ from → w.to ≡ to → ⊥) ws
all_apart hosts from to f ws ends none = All-from_recursion (λ (w : RawFlow). w.from ≡ from → w.to ≡ to → ⊥) ws (none_named hosts from to f ws ends none)

-- Its services are appended to the others.
new_by : (o : Option Flow) (ss : List Service) (ns : List RestrictedFlow) (fs : List Flow) (f : Flow) → IsFalse (has (cons_option o fs) f) → is_new ns f ≡ true
    → is_new (cons_option (option_and_then (λ flow. narrowed_to flow ss) o) ns) f ≡ true
new_by None ss ns fs f none new = new
new_by (Some h) [] ns fs f none new = new
new_by (Some h) (s ∷ ss) ns fs f none new =
    let other : same_flow f h ≡ false = same_flow_sym f h ∙ (or_parts (same_flow h f) (has fs f) none).0 in
    and_from (not (same_flow f h)) (is_new ns f) (ap not other) new

new_where : (hosts : List Host) (ws : List RawFlow) (f : Flow) → IsFalse (has (flows_among hosts ws) f) → is_new (narrowed_among hosts ws) f ≡ true
new_where hosts [] f none = refl
new_where hosts (w ∷ ws) f none =
    new_by (flow_of_names hosts w) (declared_services w) (narrowed_among hosts ws) (flows_among hosts ws) f none
    (new_where hosts ws f (behind_fails (flow_of_names hosts w) (flows_among hosts ws) f none))

pub services_more : (hosts : List Host) (ws : List RawFlow) (w : RawFlow) (f : Flow) → flow_of_names hosts w ≡ Some f → IsFalse (has (flows_among hosts ws) f)
    → narrowed_among hosts (ws ++ w ∷ []) ≡ with_services (narrowed_among hosts ws) f (declared_services w)
services_more hosts ws w f leads none =
    filter_map-append (narrowed_of hosts) ws (w ∷ [])
    ∙ ap (λ (o : Option Flow). narrowed_among hosts ws ++ cons_option (option_and_then (λ flow. narrowed_to flow (declared_services w)) o) []) leads
    ∙ sym (added (narrowed_among hosts ws) f (declared_services w) (new_where hosts ws f none))

-- Strings that are parsed denote services.
said_by : (text : List ℕ) (o : Option Service) (texts : List (List ℕ)) (rest : Option (List Service)) (ss : List Service)
    → ((ts : List Service) → rest ≡ Some ts → filter_map service_of texts ≡ ts)
    → option_and_then (λ x. option_map (λ xs. x ∷ xs) rest) o ≡ Some ss → cons_option o (filter_map service_of texts) ≡ ss
said_by text None texts rest ss later is = cc
said_by text (Some s) texts None ss later is = cc
said_by text (Some s) texts (Some ts) ss later is =
    let same : s ∷ ts ≡ ss = cc in
    ap (λ (us : List Service). s ∷ us) (later ts refl) ∙ same

pub services_read : (texts : List (List ℕ)) (ss : List Service) → each service_of texts ≡ Some ss → filter_map service_of texts ≡ ss
services_read [] ss is = cc
services_read (text ∷ texts) ss is = said_by text (service_of text) texts (each service_of texts) ss (services_read texts) is

-- ---- one fewer flow

kept_by : {A : Type 0} (F : RawFlow → Option A) (b : Bool) (w : RawFlow) (ws : List RawFlow)
    → filter_map F (cond (not b) (w ∷ ws) ws) ≡ (if b then filter_map F ws else cons_option (F w) (filter_map F ws))
kept_by F true w ws = refl
kept_by F false w ws = refl

out_of_both : (s r : Bool) → (r && not s) ≡ ((s || r) && not s)
out_of_both true true = refl
out_of_both true false = refl
out_of_both false true = refl
out_of_both false false = refl

kept_first : (t s : Bool) (a r : Bool) → (t ≡ true → s ≡ false) → a ≡ (r && not s) → (t || a) ≡ ((t || r) && not s)
kept_first true s a r apart ih = sym (ap not (apart refl))
kept_first false s a r apart ih = ih

apart_of : (f h g : Flow) → IsFalse (same_flow f h) → IsTrue (same_flow h g) → IsFalse (same_flow f g)
apart_of f h g other same = elim (cases_Bool (same_flow f g)) [
  | inr differs ↦ differs
  | inl is ↦ absurd (both_ways _ other (same_fact (λ x. IsTrue (same_flow f x)) g h (sym (same_flow_sym h g) ∙ same) is))
]

less_by : (is : Bool) (o : Option Flow) (left rest : List Flow) (f g : Flow) → (is ≡ true → o ≡ Some f)
    → (is ≡ false → (h : Flow) → o ≡ Some h → IsFalse (same_flow f h)) → has left g ≡ (has rest g && not (same_flow f g))
    → has (if is then left else cons_option o left) g ≡ (has (cons_option o rest) g && not (same_flow f g))
less_by true None left rest f g between elsewhere so_far = so_far
less_by true (Some h) left rest f g between elsewhere so_far =
    let led = between refl in
    let same : f ≡ h = cc in
    so_far ∙ out_of_both (same_flow f g) (has rest g) ∙ ap (λ (x : Flow). (same_flow x g || has rest g) && not (same_flow f g)) same
less_by false None left rest f g between elsewhere so_far = so_far
less_by false (Some h) left rest f g between elsewhere so_far =
    kept_first (same_flow h g) (same_flow f g) (has left g) (has rest g) (λ same. apart_of f h g (elsewhere refl h refl) same) so_far

pub has_less : (hosts : List Host) (from to : List ℕ) (f g : Flow) (ws : List RawFlow) → AreEnds hosts from to f
    → has (flows_among hosts (other_flows from to ws)) g ≡ (has (flows_among hosts ws) g && not (same_flow f g))
has_less hosts from to f g [] ends = refl
has_less hosts from to f g (w ∷ ws) ends =
    ap (λ (fs : List Flow). has fs g) (kept_by (flow_of_names hosts) (is_named from to w) w (other_flows from to ws))
    ∙ less_by (is_named from to w) (flow_of_names hosts w) (flows_among hosts (other_flows from to ws)) (flows_among hosts ws) f g
    (λ is. one_flow hosts from to f w ends is)
    (λ is_not h leads. other_flow hosts from to f h w ends is_not leads)
    (has_less hosts from to f g ws ends)

fewer_by : (is : Bool) (o : Option Flow) (ss : List Service) (left rest : List RestrictedFlow) (f : Flow) → (is ≡ true → o ≡ Some f)
    → (is ≡ false → (h : Flow) → o ≡ Some h → IsFalse (same_flow f h)) → left ≡ without_services rest f
    → (if is then left else cons_option (option_and_then (λ flow. narrowed_to flow ss) o) left)
    ≡ without_services (cons_option (option_and_then (λ flow. narrowed_to flow ss) o) rest) f
fewer_by true None ss left rest f between elsewhere so_far = so_far
fewer_by true (Some h) [] left rest f between elsewhere so_far = so_far
fewer_by true (Some h) (s ∷ ss) left rest f between elsewhere so_far =
    let led = between refl in
    let same : f ≡ h = cc in
    let own : same_flow f h ≡ true = subst (λ (x : Flow). same_flow f x ≡ true) same (same_flow_self f) in
    let n : RestrictedFlow = record { from = h.from; to = h.to; services = s ∷ ss } in
    so_far ∙ ap (λ b. cond (not b) (n ∷ without_services rest f) (without_services rest f)) (sym own)
fewer_by false None ss left rest f between elsewhere so_far = so_far
fewer_by false (Some h) [] left rest f between elsewhere so_far = so_far
fewer_by false (Some h) (s ∷ ss) left rest f between elsewhere so_far =
    let n : RestrictedFlow = record { from = h.from; to = h.to; services = s ∷ ss } in
    ap (λ (ns : List RestrictedFlow). n ∷ ns) so_far
    ∙ ap (λ b. cond (not b) (n ∷ without_services rest f) (without_services rest f)) (sym (elsewhere refl h refl))

pub services_less : (hosts : List Host) (from to : List ℕ) (f : Flow) (ws : List RawFlow) → AreEnds hosts from to f
    → narrowed_among hosts (other_flows from to ws) ≡ without_services (narrowed_among hosts ws) f
services_less hosts from to f [] ends = refl
services_less hosts from to f (w ∷ ws) ends =
    kept_by (narrowed_of hosts) (is_named from to w) w (other_flows from to ws)
    ∙ fewer_by (is_named from to w) (flow_of_names hosts w) (declared_services w) (narrowed_among hosts (other_flows from to ws)) (narrowed_among hosts ws) f
    (λ is. one_flow hosts from to f w ends is)
    (λ is_not h leads. other_flow hosts from to f h w ends is_not leads)
    (services_less hosts from to f ws ends)

-- An unrestricted flow is not among the restricted ones.
kept_whole : (b : Bool) (n : RestrictedFlow) (s : Service) (ss : List Service) (rest : List RestrictedFlow) (behind : List Service) (left : List RestrictedFlow)
    → (if b then s ∷ ss else behind) ≡ [] → (behind ≡ [] → left ≡ rest) → cond (not b) (n ∷ left) left ≡ n ∷ rest
kept_whole true n s ss rest behind left none later = cc
kept_whole false n s ss rest behind left none later = ap (λ (ns : List RestrictedFlow). n ∷ ns) (later none)

whole_by : (o : Option Flow) (ss : List Service) (rest : List RestrictedFlow) (f : Flow)
    → services_of (cons_option (option_and_then (λ flow. narrowed_to flow ss) o) rest) f.from f.to ≡ []
    → (services_of rest f.from f.to ≡ [] → without_services rest f ≡ rest)
    → without_services (cons_option (option_and_then (λ flow. narrowed_to flow ss) o) rest) f ≡ cons_option (option_and_then (λ flow. narrowed_to flow ss) o) rest
whole_by None ss rest f none later = later none
whole_by (Some h) [] rest f none later = later none
whole_by (Some h) (s ∷ ss) rest f none later =
    kept_whole (same_flow f h) (record { from = h.from; to = h.to; services = s ∷ ss }) s ss rest (services_of rest f.from f.to) (without_services rest f) none later

pub services_whole : (hosts : List Host) (ws : List RawFlow) (f : Flow) → services_of (narrowed_among hosts ws) f.from f.to ≡ []
    → without_services (narrowed_among hosts ws) f ≡ narrowed_among hosts ws
services_whole hosts [] f none = refl
services_whole hosts (w ∷ ws) f none =
    whole_by (flow_of_names hosts w) (declared_services w) (narrowed_among hosts ws) f none (services_whole hosts ws f)

-- ---- flows of other names

abbrev pub AreTwo : RawFlow → RawFlow → Type 0
AreTwo f g = f.from ≡ g.from → f.to ≡ g.to → ⊥
