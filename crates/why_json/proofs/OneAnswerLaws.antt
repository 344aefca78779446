-- A network and its policy have one answer to each question.
use Rattle.std.proofs.Common.{◌≡◌, ◌<◌, ℕ, Bool, true, false, List, [], ◌∷◌, ◌++◌, length, map, get_or, Option, None, Some, refl, sym, ◌∙◌, ap, ap₂, subst, arith}
use Rattle.std.specs.Prelude.{codes, option_map, slice_get}
use Rattle.std.specs.List.{flat_map, range_with_len}
use Rattle.std.proofs.lemmas.List.{ext_get_or, get_or-map, length-map}
use Rattle.flow_set.specs.declared.flow.Flow.{Flow}
use Rattle.flow_set.specs.Flow.{reverse_of}
use Rattle.flow_set.specs.EveryFlow.{every_flow}
use Rattle.flow_set.specs.FlowSet.{SetOfFlows, with_back, with_flow, without}
use Rattle.permit_core.proofs.FirstLaws.{first_unique}
use Rattle.state_core.specs.Stateful.{is_strict}
use Rattle.inv_any.specs.declared.any_inv.AnyInv.{AnyInv}
use Rattle.net_core.specs.Network.{Network}
use Rattle.net_core.specs.Policies.{Policy, edge_mark, holds_on, strategy_of}
use Rattle.report_core.specs.CheckReport.{IsViolation}
use Rattle.explain_core.specs.Failing.{AreDenying, AreDenyingAnswers}
use Rattle.explain_core.specs.declared.finding.Finding.{Finding}
use Rattle.explain_core.specs.declared.reason.Reason.{Reason}
use Rattle.explain_core.proofs.ReasonLaws.{failing_is_one, finding_parts, findings_are_one, reason_parts, reasons_are_one}
use Rattle.why_json.specs.Explanations.{IsExplanation}
use Rattle.why_json.specs.WhyJson.{answer_denial_json, has_no_offence, invariant_at, is_gap, network_json, offence_json, offending_flows, pair_json, reason_json, standing_json, why_json}
use Rattle.json_core.specs.Json.{array_json, bool_json, flow_json, host_entry_json, number_json, separated}
use Rattle.why_json.specs.NetworkText.{IsNetworkText}
use Rattle.why_json.specs.Offences.{AreOffencesOf, IsViolationOf}
use Rattle.why_json.specs.Standings.{standing_of}
use Rattle.why_json.specs.declared.explanation.Explanation.{Explanation}
use Rattle.why_json.specs.declared.offence.Offence.{Offence}

-- ---- arrays of items that are written by their parts

later_by_parts : {A B : Type 0} (part : A → B) (item : A → List ℕ) (written : B → List ℕ) → ((x : A) → item x ≡ written (part x)) → (xs : List A)
    → flat_map (λ x. codes "," ++ item x) xs ≡ flat_map (λ y. codes "," ++ written y) (map part xs)
later_by_parts part item written alike [] = refl
later_by_parts part item written alike (x ∷ xs) = ap₂ (λ a b. (codes "," ++ a) ++ b) (alike x) (later_by_parts part item written alike xs)

separated_by_parts : {A B : Type 0} (part : A → B) (item : A → List ℕ) (written : B → List ℕ) → ((x : A) → item x ≡ written (part x)) → (xs : List A)
    → separated item xs ≡ separated written (map part xs)
unfolding separated
separated_by_parts part item written alike [] = refl
separated_by_parts part item written alike (x ∷ xs) = ap₂ (λ a b. a ++ b) (alike x) (later_by_parts part item written alike xs)

-- Two arrays of items with the same parts are one text.
same_array : {A B : Type 0} (part : A → B) (item : A → List ℕ) (written : B → List ℕ) → ((x : A) → item x ≡ written (part x)) → (xs ys : List A)
    → map part xs ≡ map part ys → array_json item xs ≡ array_json item ys
unfolding array_json
same_array part item written alike xs ys same =
    ap (λ t. codes "[" ++ (t ++ codes "]"))
    (separated_by_parts part item written alike xs ∙ ap (λ zs. separated written zs) same ∙ sym (separated_by_parts part item written alike ys))

-- ---- `why`

reason_text : Network → ℕ × List Flow → List ℕ
reason_text d parts = invariant_at d parts.0 ++ (codes ",\"flows\":" ++ (array_json (flow_json d.hosts) parts.1 ++ codes "}"))

reason_by_parts : (d : Network) (r : Reason) → reason_json d r ≡ reason_text d (reason_parts r)
unfolding reason_json reason_text
reason_by_parts d r = refl

pub why_is_one : (d : Network) (policy : Policy) (f : Flow) (x y : Explanation) → IsExplanation d policy f x → IsExplanation d policy f y → why_json d x ≡ why_json d y
unfolding why_json
why_is_one d policy f x y a b =
    let p : List Flow = policy.permitted.flows in
    let s : List Flow = policy.stateful.flows in
    let standing : x.standing ≡ y.standing = a.standing ∙ sym b.standing in
    let denied : array_json (reason_json d) x.denied_by.items ≡ array_json (reason_json d) y.denied_by.items =
    same_array reason_parts (reason_json d) (reason_text d) (reason_by_parts d) x.denied_by.items y.denied_by.items
    (reasons_are_one (λ _. true) holds_on d.invariants (with_flow p f) x.denied_by.items y.denied_by.items a.denied b.denied) in
    let answers : array_json (reason_json d) x.answers_denied_by.items ≡ array_json (reason_json d) y.answers_denied_by.items =
    same_array reason_parts (reason_json d) (reason_text d) (reason_by_parts d) x.answers_denied_by.items y.answers_denied_by.items
    (reasons_are_one (λ inv. is_strict (strategy_of inv) (edge_mark inv)) holds_on d.invariants (with_flow (with_back p s) (reverse_of f)) x.answers_denied_by.items y.answers_denied_by.items
    a.answers_denied b.answers_denied) in
    λ i. codes "{\"version\":1," ++ (standing_json d (standing i) ++ (codes ",\"denied_by\":" ++ (denied i ++ (codes ",\"answers_denied_by\":" ++ (answers i ++ codes "}\n")))))

-- ---- `network`

offence_flows : Option SetOfFlows → Option (List Flow)
offence_flows o = option_map (λ set. set.flows) o

abbrev offence_parts : Offence → ℕ × Option (List Flow)
offence_parts x = (x.number, offence_flows x.flows)

listed_flows : Option (List Flow) → List Flow
listed_flows None = []
listed_flows (Some fs) = fs

is_none : Option (List Flow) → Bool
is_none None = true
is_none (Some fs) = false

violation_text : Network → ℕ × Option (List Flow) → List ℕ
violation_text d parts =
    invariant_at d parts.0 ++ (codes ",\"holds\":" ++ (bool_json (is_none parts.1) ++ (codes ",\"offending\":" ++ (array_json (flow_json d.hosts) (listed_flows parts.1) ++ codes "}"))))

same_flows : (o : Option SetOfFlows) → offending_flows o ≡ listed_flows (offence_flows o)
unfolding listed_flows offence_flows
same_flows None = refl
same_flows (Some set) = refl

same_none : (o : Option SetOfFlows) → has_no_offence o ≡ is_none (offence_flows o)
unfolding is_none offence_flows
same_none None = refl
same_none (Some set) = refl

offence_by_parts : (d : Network) (x : Offence) → offence_json d x ≡ violation_text d (offence_parts x)
unfolding offence_json violation_text
offence_by_parts d x =
    ap₂ (λ b fs. invariant_at d x.number ++ (codes ",\"holds\":" ++ (bool_json b ++ (codes ",\"offending\":" ++ (array_json (flow_json d.hosts) fs ++ codes "}")))))
    (same_none x.flows) (same_flows x.flows)

offence_is_one : (Holds : List Flow → Type 0) (asked : List Flow) (o r : Option (List Flow)) → IsViolation Holds asked o → IsViolation Holds asked r → o ≡ r
offence_is_one Holds asked None None a b = refl
offence_is_one Holds asked None (Some fs) a b = absurd (b.0 a)
offence_is_one Holds asked (Some fs) None a b = absurd (a.0 b)
offence_is_one Holds asked (Some fs) (Some gs) (fails, (first, is_first, rest)) (fails', (first', is_first', rest')) =
    ap Some (rest ∙ ap (without asked) (first_unique Holds asked first first' is_first is_first') ∙ sym rest')

offences_at : (k : Offence) (d : Network) (xs ys : List Offence) → AreOffencesOf d xs → AreOffencesOf d ys → map offence_parts xs ≡ map offence_parts ys
unfolding offence_flows
offences_at e d xs ys a b =
    let number : Offence → ℕ = λ x. x.number in
    let numbers : map number xs ≡ map number ys = a.numbers ∙ sym b.numbers in
    let long : length xs ≡ length ys = sym (length-map xs number) ∙ ap length numbers ∙ length-map ys number in
    ext_get_or (offence_parts e) (map offence_parts xs) (map offence_parts ys) (length-map xs offence_parts ∙ long ∙ sym (length-map ys offence_parts))
    (λ k below.
    let here : k < length xs = omega (arith, below, length-map xs offence_parts) in
    let there : k < length ys = omega (arith, here, long) in
    let x : Offence = get_or xs k e in
    let y : Offence = get_or ys k e in
    let same : x.number ≡ y.number = sym (get_or-map number xs k e 0 here) ∙ ap (λ (ns : List ℕ). get_or ns k 0) numbers ∙ get_or-map number ys k e 0 there in
    get_or-map offence_parts xs k e (offence_parts e) here
    ∙ (λ i. (same i, found_is_one d x y (a.each k e here) (b.each k e there) same i))
    ∙ sym (get_or-map offence_parts ys k e (offence_parts e) there))
  where
    found_is_one : (d : Network) (x y : Offence) → IsViolationOf d x → IsViolationOf d y → x.number ≡ y.number → offence_flows x.flows ≡ offence_flows y.flows
    found_is_one d x y p q same =
        let places : Some p.inv ≡ Some q.inv = sym p.place ∙ ap (slice_get d.invariants) same ∙ q.place in
        let invs : p.inv ≡ q.inv = cc in
        offence_is_one (holds_on q.inv) d.asked.flows (offence_flows x.flows) (offence_flows y.flows)
        (subst (λ (inv : AnyInv). IsViolation (holds_on inv) d.asked.flows (offence_flows x.flows)) invs p.found) q.found

offences_are_one : (d : Network) (xs ys : List Offence) → AreOffencesOf d xs → AreOffencesOf d ys → map offence_parts xs ≡ map offence_parts ys
offences_are_one d [] [] a b = refl
offences_are_one d [] (y ∷ ys) a b = offences_at y d [] (y ∷ ys) a b
offences_are_one d (x ∷ xs) ys a b = offences_at x d (x ∷ xs) ys a b

pair_text : Network → Policy → Flow × List ℕ → List ℕ
pair_text d policy parts =
    codes "{" ++ (standing_json d (standing_of d policy parts.0) ++ (codes ",\"denied_by\":" ++ (array_json number_json parts.1
    ++ (codes ",\"gap\":" ++ (bool_json (is_gap (standing_of d policy parts.0) parts.1) ++ codes "}")))))

pair_by_parts : (d : Network) (policy : Policy) (x : Finding) → pair_json d policy x ≡ pair_text d policy (finding_parts x)
unfolding pair_json pair_text
pair_by_parts d policy x = refl

answer_denial_text : Network → Flow × List ℕ → List ℕ
answer_denial_text d parts = codes "{\"flow\":" ++ (flow_json d.hosts parts.0 ++ (codes ",\"denied_by\":" ++ (array_json number_json parts.1 ++ codes "}")))

answer_denial_by_parts : (d : Network) (x : Finding) → answer_denial_json d x ≡ answer_denial_text d (finding_parts x)
unfolding answer_denial_json answer_denial_text
answer_denial_by_parts d x = refl

-- The text of the four arrays.
texts_are_one : (d : Network) (policy : Policy) (xs ys : List Offence) (us vs ps qs : List Finding)
    → array_json (offence_json d) xs ≡ array_json (offence_json d) ys → array_json (pair_json d policy) us ≡ array_json (pair_json d policy) vs
    → array_json (answer_denial_json d) ps ≡ array_json (answer_denial_json d) qs → network_json d policy xs us ps ≡ network_json d policy ys vs qs
unfolding network_json
texts_are_one d policy xs ys us vs ps qs offences denials answers =
    λ i. codes "{\"version\":1,\"hosts\":" ++ (array_json (host_entry_json d.hosts) (range_with_len 0 (length d.hosts))
    ++ (codes ",\"invariants\":" ++ (offences i ++ (codes ",\"flows\":" ++ (denials i ++ (codes ",\"without_answers\":" ++ (answers i ++ codes "}\n")))))))

pub network_is_one : (d : Network) (policy : Policy) (t u : List ℕ) → IsNetworkText d policy t → IsNetworkText d policy u → t ≡ u
network_is_one d policy t u a b =
    let p : List Flow = policy.permitted.flows in
    let s : List Flow = policy.stateful.flows in
    let every : List Flow = every_flow (length d.hosts) in
    let offences = same_array offence_parts (offence_json d) (violation_text d) (offence_by_parts d) a.offences b.offences (offences_are_one d a.offences b.offences a.are_offences b.are_offences) in
    let denials =
    same_array finding_parts (pair_json d policy) (pair_text d policy) (pair_by_parts d policy) a.denials b.denials
    (findings_are_one (AreDenying holds_on d.invariants p) (λ f. failing_is_one (λ _. true) holds_on d.invariants (with_flow p f)) every a.denials b.denials a.are_denials b.are_denials) in
    let answers =
    same_array finding_parts (answer_denial_json d) (answer_denial_text d) (answer_denial_by_parts d) a.answer_denials b.answer_denials
    (findings_are_one (AreDenyingAnswers strategy_of edge_mark holds_on d.invariants p s)
    (λ f. failing_is_one (λ inv. is_strict (strategy_of inv) (edge_mark inv)) holds_on d.invariants (with_flow (with_back p s) (reverse_of f)))
    (without p s) a.answer_denials b.answer_denials a.are_answer_denials b.are_answer_denials) in
    a.written ∙ texts_are_one d policy a.offences b.offences a.denials b.denials a.answer_denials b.answer_denials offences denials answers ∙ sym b.written
