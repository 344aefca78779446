-- The services of flows, added one by one: each flow with services is appended to those before it.
use Rattle.std.proofs.Common.{◌≡◌, Bool, true, not, ◌&&◌, List, [], ◌∷◌, ◌++◌, append-nil, append_assoc, length, Option, Some, None, option_and_then, Ok, Err, refl, sym, ap, ◌∙◌, ℕ, ◌+◌, ◌<◌, ◌≤◌, map, drop, get_or, arith}
use Rattle.std.proofs.lemmas.Bool.{and_from, and_parts, not-true}
use Rattle.std.proofs.lemmas.List.Folds.{list_all-append}
use Rattle.std.proofs.lemmas.Slice.Zip.{AllZip-long}
use Rattle.std.specs.List.{AllZip, cons_option, filter_map, list_all}
use Rattle.std.specs.Prelude.{◌==◌}
use Rattle.std.proofs.lemmas.List.{drop_all, length-map}
use Rattle.desc_core.proofs.KnownLaws.{all_apart, each_zip, flow_is}
use Rattle.desc_core.proofs.ListingLaws.{next}
use Rattle.desc_core.specs.inner.Parts.{ends_of, narrowed_among, self_found, twice_found, with_services, within_limit}
use Rattle.desc_core.specs.UseConditions.{bad_service, bad_service_of, has_many_services, many_services, service_conditions}
use Rattle.desc_core.specs.RawNetwork.{narrowed_of, narrowed_to, services_in, declared_services}
use Rattle.desc_core.specs.inner.Reads.{Reads}
use Rattle.desc_core.specs.Description.{ok_unless_refused}
use Rattle.desc_core.specs.declared.fault.DescFault.{DescFault}
use Rattle.desc_core.specs.declared.fault.DescFault.TheVariants.{Memory, Refused}
use Rattle.desc_core.proofs.DescriptionLaws.{passed, told_by}
use Rattle.desc_form.specs.RawDescription.{RawDescription}
use Rattle.desc_form.specs.RawFlow.{RawFlow}
use Rattle.desc_form.specs.RawHosts.{network_hosts}
use Rattle.desc_form.specs.inner.RawView.{flow_view}
use Rattle.desc_form.specs.declared.raw.RawFlow as code
use Rattle.desc_form.specs.declared.refusal.Refusal.{Refusal}
use Rattle.flow_set.specs.Flow.{same_flow}
use Rattle.flow_set.specs.declared.flow.Flow.{Flow}
use Rattle.host_net.specs.Host.{Host}
use Rattle.host_net.proofs.ServicesLaws.{own_ends}
use Rattle.host_net.specs.Services.{RestrictedFlow, is_between, services_of}
use Rattle.host_net.specs.inner.Services.{with_service}
use Rattle.host_net.specs.declared.service.Service.{Service}
use Rattle.table_core.specs.Listing.{each}
use Rattle.text_core.proofs.FirstsLaws.{all_numbered, no_pair_numbered, none_barred, none_found, none_mapped}
use Rattle.text_core.specs.FirstMatch.{first_found, first_of, numbered, numbered_from}
use Rattle.text_core.specs.inner.Pairs.{no_pair}

abbrev narrowed : Flow → List Service → RestrictedFlow
narrowed e ss = record { from = e.from; to = e.to; services = ss }

-- The flow is not among the restricted ones.
abbrev pub is_new : List RestrictedFlow → Flow → Bool
is_new ns e = list_all (λ n. not (is_between e.from e.to n)) ns

pub none_yet : (ns : List RestrictedFlow) (e : Flow) → is_new ns e ≡ true → services_of ns e.from e.to ≡ []
none_yet [] e new = refl
none_yet (n ∷ ns) e new =
    let (here, behind) = and_parts (not (is_between e.from e.to n)) _ new in
    rw (not-true (is_between e.from e.to n) here) (none_yet ns e behind)

-- One more service of a flow that is the last, or that is not restricted yet.
last_grows : (ns : List RestrictedFlow) (e : Flow) (ss : List Service) (s : Service) → is_new ns e ≡ true
    → with_service (ns ++ narrowed e ss ∷ []) e.from e.to s ≡ ns ++ narrowed e (ss ++ s ∷ []) ∷ []
last_grows [] e ss s new = rw (own_ends e.from e.to) refl
last_grows (n ∷ ns) e ss s new =
    let (here, behind) = and_parts (not (is_between e.from e.to n)) _ new in
    rw (not-true (is_between e.from e.to n) here) (ap (λ ms. n ∷ ms) (last_grows ns e ss s behind))

new_comes : (ns : List RestrictedFlow) (e : Flow) (s : Service) → is_new ns e ≡ true → with_service ns e.from e.to s ≡ ns ++ narrowed e (s ∷ []) ∷ []
new_comes [] e s new = refl
new_comes (n ∷ ns) e s new =
    let (here, behind) = and_parts (not (is_between e.from e.to n)) _ new in
    rw (not-true (is_between e.from e.to n) here) (ap (λ ms. n ∷ ms) (new_comes ns e s behind))

-- Several services.
all_grow : (ns : List RestrictedFlow) (e : Flow) (ss more : List Service) → is_new ns e ≡ true
    → with_services (ns ++ narrowed e ss ∷ []) e more ≡ ns ++ narrowed e (ss ++ more) ∷ []
all_grow ns e ss [] new = ap (λ (us : List Service). ns ++ narrowed e us ∷ []) (sym (append-nil ss))
all_grow ns e ss (s ∷ more) new =
    ap (λ ms. with_services ms e more) (last_grows ns e ss s new)
    ∙ all_grow ns e (ss ++ s ∷ []) more new
    ∙ ap (λ (us : List Service). ns ++ narrowed e us ∷ []) (append_assoc ss (s ∷ []) more)

pub added : (ns : List RestrictedFlow) (e : Flow) (ss : List Service) → is_new ns e ≡ true → with_services ns e ss ≡ ns ++ cons_option (narrowed_to e ss) []
added ns e [] new = sym (append-nil ns)
added ns e (s ∷ ss) new = ap (λ ms. with_services ms e ss) (new_comes ns e s new) ∙ all_grow ns e (s ∷ []) ss new

-- The other flows are still new.
new_by : (ns : List RestrictedFlow) (e f : Flow) (ss : List Service) → is_new ns f ≡ true → not (same_flow f e) ≡ true → is_new (ns ++ cons_option (narrowed_to e ss) []) f ≡ true
new_by ns e f [] new other = ap (λ ms. is_new ms f) (append-nil ns) ∙ new
new_by ns e f (s ∷ ss) new other =
    list_all-append (λ n. not (is_between f.from f.to n)) ns (narrowed e (s ∷ ss) ∷ [])
    ∙ and_from (is_new ns f) (not (same_flow f e) && true) new (and_from (not (same_flow f e)) true other refl)

all_new : (ns : List RestrictedFlow) (e : Flow) (ss : List Service) (es : List Flow) → list_all (is_new ns) es ≡ true → list_all (λ f. not (same_flow f e)) es ≡ true
    → list_all (is_new (ns ++ cons_option (narrowed_to e ss) [])) es ≡ true
all_new ns e ss [] new others = refl
all_new ns e ss (f ∷ es) new others =
    let (here, behind) = and_parts (is_new ns f) _ new in
    let (other, rest) = and_parts (not (same_flow f e)) _ others in
    and_from (is_new (ns ++ cons_option (narrowed_to e ss) []) f) (list_all (is_new (ns ++ cons_option (narrowed_to e ss) [])) es) (new_by ns e f ss here other) (all_new ns e ss es behind rest)

-- The restricted flows so far, and the remaining flows after the first i of all flows.
pub record AreLeft (ns : List RestrictedFlow) (i : ℕ) (es : List Flow) (ws : List RawFlow) (all_es : List Flow) (all_ws : List RawFlow) : Type 0 where
  pub new : list_all (is_new ns) es ≡ true
  pub different : no_pair same_flow es ≡ true
  pub so_far : ns ++ narrowed_among es (map within_limit ws) ≡ narrowed_among all_es (map within_limit all_ws)
  pub same : first_found bad_service_of (numbered_from (i + 1) ws) ≡ bad_service all_ws

behind_one : (ns : List RestrictedFlow) (o : Option RestrictedFlow) (rest : List RestrictedFlow) → (ns ++ cons_option o []) ++ rest ≡ ns ++ cons_option o rest
behind_one ns None rest = ap (λ ms. ms ++ rest) (append-nil ns)
behind_one ns (Some n) rest = append_assoc ns (n ∷ []) rest

-- The next flow has no services yet.
pub none_here : {ns : List RestrictedFlow} {i : ℕ} {e : Flow} {es all_es : List Flow} {w : RawFlow} {ws all_ws : List RawFlow} → AreLeft ns i (e ∷ es) (w ∷ ws) all_es all_ws → services_of ns e.from e.to ≡ []
none_here {ns} {e = e} left = none_yet ns e (and_parts (is_new ns e) _ left.new).0

-- Afterwards it has them.
pub one_added : {ns : List RestrictedFlow} {i : ℕ} {e : Flow} {es all_es : List Flow} {w : RawFlow} {ws all_ws : List RawFlow} (ms : List RestrictedFlow)
    → AreLeft ns i (e ∷ es) (w ∷ ws) all_es all_ws → ms ≡ with_services ns e (declared_services (within_limit w))
    → ok_unless_refused {A = Unit {0}} (bad_service_of (record { number = i + 1; what = w })) tt ≡ Ok tt → AreLeft ms (i + 1) es ws all_es all_ws
one_added {ns} {i} {e} {es} {w = w} {ws = ws} ms left grown read =
    let (new, later) = and_parts (is_new ns e) _ left.new in
    let (others, different) = and_parts (list_all (λ f. not (same_flow f e)) es) _ left.different in
    let ss = declared_services (within_limit w) in
    let more = grown ∙ added ns e ss new in
    record {
      new = rw more (all_new ns e ss es later others);
      different = different;
      so_far = rw more (behind_one ns (narrowed_to e ss) (narrowed_among es (map within_limit ws)) ∙ left.so_far);
      same = rw (passed {A = Unit {0}} (bad_service_of (record { number = i + 1; what = w })) tt tt read).0 at left.same;
    }

-- One of its strings denotes no service.
pub bad_here : {ns : List RestrictedFlow} {i : ℕ} {e : Flow} {es all_es : List Flow} {w : RawFlow} {ws all_ws : List RawFlow} (fault : DescFault)
    → AreLeft ns i (e ∷ es) (w ∷ ws) all_es all_ws → Reads {A = Unit {0}} (Err fault) (ok_unless_refused (bad_service_of (record { number = i + 1; what = w })) tt)
    → Reads {A = List RestrictedFlow} (Err fault) (ok_unless_refused (first_of (service_conditions all_ws)) (narrowed_among all_es all_ws))
bad_here {i = i} {w = w} (Refused r) left said =
    let bad = rw (told_by (bad_service_of (record { number = i + 1; what = w })) tt r said) at left.same in
    rw (← bad) refl
bad_here Memory left said = tt

-- Initially no flow has services.
all_at_first : (es : List Flow) → list_all (is_new []) es ≡ true
all_at_first [] = refl
all_at_first (e ∷ es) = all_at_first es

pub at_first : (es : List Flow) (ws : List RawFlow) → no_pair same_flow es ≡ true → AreLeft [] 0 es ws es ws
at_first es ws different = record { new = all_at_first es; different = different; so_far = refl; same = refl }

-- At the end every string denotes a service. If no flow has too many services, all of them are added.
all_within : (ws : List RawFlow) → list_all (λ f. not (has_many_services f)) ws ≡ true → map within_limit ws ≡ ws
all_within [] few = refl
all_within (w ∷ ws) few =
    let (here, behind) = and_parts (not (has_many_services w)) _ few in
    rw (not-true (has_many_services w) here, all_within ws behind) refl

pub many_at_last : {ns : List RestrictedFlow} {i : ℕ} {all_es : List Flow} {all_ws : List RawFlow} (r : Refusal) → AreLeft ns i [] [] all_es all_ws → many_services all_ws ≡ Some r
    → ok_unless_refused (first_of (service_conditions all_ws)) (narrowed_among all_es all_ws) ≡ Err r
many_at_last r left many = rw (← left.same, many) refl

pub all_at_last : {ns : List RestrictedFlow} {i : ℕ} {all_es : List Flow} {all_ws : List RawFlow} → AreLeft ns i [] [] all_es all_ws → many_services all_ws ≡ None
    → ok_unless_refused (first_of (service_conditions all_ws)) (narrowed_among all_es all_ws) ≡ Ok ns
all_at_last {ns} {all_es = es} {all_ws = ws} left none =
    let few = sym (all_numbered (λ f. not (has_many_services f)) 1 ws) ∙ none_found (λ f. has_many_services f.what) (numbered ws) (none_mapped _ _ none) in
    rw (← left.same, none) (ap Ok (ap (narrowed_among es) (sym (all_within ws few)) ∙ sym left.so_far ∙ append-nil ns))

-- ---- the flows of a description

pub all_different : (es : List Flow) → twice_found es ≡ None → no_pair same_flow es ≡ true
all_different es none =
    sym (no_pair_numbered same_flow 1 es) ∙ none_barred (λ f g. same_flow f.what g.what) (numbered es) (none_mapped _ _ none)

pub as_many : (hosts : List Host) (ws : List RawFlow) (es : List Flow) → each (ends_of hosts) ws ≡ Some es → length es ≡ length ws
as_many hosts ws es found = AllZip-long (λ w e. ends_of hosts w ≡ Some e) ws es (each_zip (ends_of hosts) ws es found)

narrowed_zip : (hosts : List Host) (ws : List RawFlow) (es : List Flow) → AllZip (λ w e. ends_of hosts w ≡ Some e) ws es → list_all (λ (e : Flow). not (e.from == e.to)) es ≡ true
    → filter_map (narrowed_of hosts) ws ≡ narrowed_among es ws
narrowed_zip hosts [] [] zipped apart = refl
narrowed_zip hosts [] (e ∷ es) zipped apart = absurd zipped
narrowed_zip hosts (w ∷ ws) [] zipped apart = absurd zipped
narrowed_zip hosts (w ∷ ws) (e ∷ es) zipped apart =
    let (here, behind) = and_parts (not (e.from == e.to)) _ apart in
    λ j. cons_option (option_and_then (λ flow. narrowed_to flow (declared_services w)) (flow_is hosts w e zipped.0 here j)) (narrowed_zip hosts ws es zipped.1 behind j)

pub services_are : (w : RawDescription) (es : List Flow) → each (ends_of (network_hosts w)) w.flows ≡ Some es → self_found es ≡ None → services_in w ≡ narrowed_among es w.flows
unfolding services_in
services_are w es found none = narrowed_zip (network_hosts w) w.flows es (each_zip (ends_of (network_hosts w)) w.flows es found) (all_apart es none)

-- ---- the flows in order

-- The first i flows are read.
abbrev pub Remain : List RestrictedFlow → ℕ → List Flow → List code.RawFlow → Type 0
Remain ns i es ws = AreLeft ns i (drop i es) (map flow_view (drop i ws)) es (map flow_view ws)

-- A value beyond the end of a list.
abbrev nowhere : Flow
nowhere = record { from = 0; to = 0 }

-- The current flow, and those after it.
pub left_here : (ns : List RestrictedFlow) (i : ℕ) (es : List Flow) (ws : List code.RawFlow) (w : code.RawFlow) → length es ≡ length ws → i < length ws → w ≡ get_or ws i w → Remain ns i es ws
    → AreLeft ns i (get_or es i nowhere ∷ drop (i + 1) es) (flow_view w ∷ map flow_view (drop (i + 1) ws)) es (map flow_view ws)
left_here ns i es ws w beside within is left = rw (next es i _ nowhere (omega arith) refl, next ws i w w within is) at left

pub none_left : (ns : List RestrictedFlow) (i : ℕ) (es : List Flow) (ws : List code.RawFlow) → length es ≡ length ws → length ws ≤ i → Remain ns i es ws → AreLeft ns i [] [] es (map flow_view ws)
none_left ns i es ws beside past left = rw (drop_all i es (omega arith), drop_all i ws past) at left

-- The number of resolved flows is the number of raw flows.
pub as_many_written : (hosts : List Host) (ws : List code.RawFlow) (es : List Flow) → each (ends_of hosts) (map flow_view ws) ≡ Some es → length es ≡ length ws
as_many_written hosts ws es found = as_many hosts (map flow_view ws) es found ∙ length-map ws flow_view
