use Rattle.std.proofs.Common.{◌≡◌, None, ℕ, map, subst, sym, ◌∙◌}
use Rattle.std.proofs.lemmas.Result.{err_from_is_err_and}
use Rattle.std.specs.Prelude.{All, length}
use Rattle.desc_core.proofs.DescriptionLaws.{passed}
use Rattle.desc_core.proofs.KnownLaws.{are_flows}
use Rattle.desc_core.proofs.MakeableLaws.{known_makeable}
use Rattle.desc_core.proofs.NetworkLemmas.{asked_made, fails, fault_before, made_set, network_read, none_to_itself, refused_services, refused_templates, refused_twice}
use Rattle.desc_core.proofs.ServicesLemmas.{all_different, as_many_written}
use Rattle.desc_core.specs.RawNetwork.{asked_of}
use Rattle.desc_core.specs.UseConditions.{service_conditions}
use Rattle.desc_core.specs.inner.KnownView.{known_view}
use Rattle.desc_core.specs.inner.Parts.{narrowed_among, twice_found}
use Rattle.desc_form.specs.inner.RawView.{raw_view}
use Rattle.flow_set.specs.Flow.{IsFlow}
use Rattle.text_core.specs.FirstMatch.{first_of}
use Rattle.desc_core.proofs.network.network_of_known.Goals.{In_ok-asked, In_ok-services}
use Rattle.desc_core.proofs.network.network_of_known.Goals as goal

pub returns-in_err-judged : goal.returns-in_err-judged
returns-in_err-judged c =
    let p = err_from_is_err_and c.from_residual.result c.from_residual.ensures.1 in
    rw (p.1, p.2) (fault_before (raw_view c.args.written.now) c.args.hosts (map known_view c.args.invariants.now) c.args.flows.now c.in_err-judged.field-0.0
    (record { same = c.requires.hosts; known = c.requires.known; found = c.requires.found }) c.in_err-judged.ensures.refused)

pub asked_flows-requires-clause-flows : goal.asked_flows-requires-clause-flows
asked_flows-requires-clause-flows c =
    let w = raw_view c.args.written.now in
    let apart = none_to_itself w c.args.hosts (map known_view c.args.invariants.now) c.args.flows.now c.in_ok-judged.ensures.good in
    subst (λ (n : ℕ). All (IsFlow n) c.args.flows.now) (sym c.count.ensures.value) (are_flows c.args.hosts w.flows c.args.flows.now c.requires.found apart)

pub returns-in_err-asked : goal.returns-in_err-asked
returns-in_err-asked c =
    let w = raw_view c.args.written.now in
    let p = err_from_is_err_and c.from_residual-in_err-asked.result c.from_residual-in_err-asked.ensures.1 in
    rw (p.1, p.2) (fails w (twice_found c.args.flows.now) (made_set w c.count.result c.args.flows.now) c.in_err-asked.field-0.0
    (λ r. refused_twice w c.args.hosts (map known_view c.args.invariants.now) c.args.flows.now r
    (record { same = c.requires.hosts; known = c.requires.known; found = c.requires.found }) c.in_ok-judged.ensures.good) c.in_err-asked.ensures)

-- Condition 20 does not apply, and the requested flows are those of the description.
asked : (c : In_ok-asked)
    → (twice_found c.args.flows.now ≡ None) × (c.in_ok-asked.asked ≡ record { size = length (raw_view c.args.written.now).hosts; flows = asked_of (raw_view c.args.written.now) })
asked c =
    asked_made (raw_view c.args.written.now) c.args.hosts (map known_view c.args.invariants.now) c.args.flows.now c.count.result c.in_ok-asked.asked
    (record { same = c.requires.hosts; known = c.requires.known; found = c.requires.found }) c.in_ok-judged.ensures.good c.count.ensures.value c.in_ok-asked.ensures

pub read_services-requires-clause-beside : goal.read_services-requires-clause-beside
read_services-requires-clause-beside c = rw c.deref.ensures.value (as_many_written c.args.hosts c.args.written.now.flows.items c.args.flows.now c.requires.found)

pub read_services-requires-clause-different : goal.read_services-requires-clause-different
read_services-requires-clause-different c = all_different c.args.flows.now (asked (goal.at.read_services-requires-clause-different c).In_ok-asked).0

pub returns-in_err-services : goal.returns-in_err-services
returns-in_err-services c =
    let w = raw_view c.args.written.now in
    let p = err_from_is_err_and c.from_residual-in_err-services.result c.from_residual-in_err-services.ensures.1 in
    rw (p.1, p.2) (fails w (first_of (service_conditions w.flows)) (narrowed_among c.args.flows.now w.flows) c.in_err-services.field-0.0
    (λ r. refused_services w c.args.hosts (map known_view c.args.invariants.now) c.args.flows.now r
    (record { same = c.requires.hosts; known = c.requires.known; found = c.requires.found }) c.in_ok-judged.ensures.good (asked (goal.at.returns-in_err-services c).In_ok-asked).0)
    (rw c.deref.ensures.value at c.in_err-services.ensures))

-- Conditions 21 and 22 do not apply, and the services are those of the flows.
restricted : (c : In_ok-services)
    → (first_of (service_conditions (raw_view c.args.written.now).flows) ≡ None) × (narrowed_among c.args.flows.now (raw_view c.args.written.now).flows ≡ c.in_ok-services.services)
restricted c =
    let w = raw_view c.args.written.now in
    passed (first_of (service_conditions w.flows)) (narrowed_among c.args.flows.now w.flows) c.in_ok-services.services (rw c.deref.ensures.value at c.in_ok-services.ensures)

pub returns-in-Some : goal.returns-in-Some
returns-in-Some c =
    refused_templates (raw_view c.args.written.now) c.args.hosts (map known_view c.args.invariants.now) c.args.flows.now c.in-Some.refusal
    (record { same = c.requires.hosts; known = c.requires.known; found = c.requires.found }) c.in_ok-judged.ensures.good
    (asked (goal.at.returns-in-Some c).In_ok-asked).0 (restricted (goal.at.returns-in-Some c).In_ok-services).0
    (sym c.template_refusal.ensures ∙ c.in-Some.is)

pub built_invariants-requires : goal.built_invariants-requires
built_invariants-requires c =
    c.in_ok-judged.ensures.buildable
    (known_makeable (raw_view c.args.written.now) c.args.hosts c.args.invariants.now (sym c.template_refusal.ensures ∙ c.in_default.is) c.requires.known)

pub new-requires : goal.new-requires
new-requires c =
    let made = asked (goal.at.new-requires c).In_ok-asked in
    let read = restricted (goal.at.new-requires c).In_ok-services in
    (network_read (raw_view c.args.written.now) c.args.hosts (map known_view c.args.invariants.now) c.args.flows.now c.in_ok-asked.asked c.in_ok-services.services
    c.in_ok-invariants.invariants.items (record { same = c.requires.hosts; known = c.requires.known; found = c.requires.found }) c.requires.no_refusal c.in_ok-judged.ensures.good made.0
    read.0 (sym c.template_refusal.ensures ∙ c.in_default.is) made.1 (sym read.1) (c.in_ok-invariants.ensures ∙ c.in_ok-judged.ensures.built)).0

pub returns : goal.returns
returns c =
    let made = asked (goal.at.returns c).In_ok-asked in
    let read = restricted (goal.at.returns c).In_ok-services in
    rw c.new.ensures
    (network_read (raw_view c.args.written.now) c.args.hosts (map known_view c.args.invariants.now) c.args.flows.now c.in_ok-asked.asked c.in_ok-services.services
    c.in_ok-invariants.invariants.items (record { same = c.requires.hosts; known = c.requires.known; found = c.requires.found }) c.requires.no_refusal c.in_ok-judged.ensures.good made.0
    read.0 (sym c.template_refusal.ensures ∙ c.in_default.is) made.1 (sym read.1) (c.in_ok-invariants.ensures ∙ c.in_ok-judged.ensures.built)).1
