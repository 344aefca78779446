-- The network, condition by condition.
use Rattle.std.proofs.Common.{◌≡◌, ℕ, List, [], ◌∷◌, ◌++◌, length, Option, Some, None, Ok, Err, map, refl, sym, ap, ◌∙◌, subst}
use Rattle.std.specs.Option.{option_or}
use Rattle.std.specs.Prelude.{if◌then◌else◌}
use Rattle.desc_core.proofs.KnownLaws.{asked_is, bad_is, invariants_are, names_known, self_is, twice_is}
use Rattle.desc_core.proofs.ServicesLemmas.{services_are}
use Rattle.desc_core.specs.Description.{ok_unless_refused}
use Rattle.desc_core.proofs.DescriptionLaws.{first_of-append, passed, told_by}
use Rattle.desc_core.proofs.NetworkLaws.{IsNetwork-network_of}
use Rattle.desc_core.specs.inner.Parts.{bad_known, before_last, ends_of, narrowed_among, network_by_uses, network_or, self_found, twice_found}
use Rattle.desc_core.specs.TemplateConditions.{template_conditions}
use Rattle.desc_core.specs.inner.Reads.{Reads}
use Rattle.desc_core.specs.declared.fault.DescFault.{DescFault}
use Rattle.desc_core.specs.declared.fault.DescFault.TheVariants.{Memory, Refused}
use Rattle.desc_core.specs.UseConditions.{assign_conditions, bad_attribute, duplicate_assign, flow_conditions, name_conditions, service_conditions, use_conditions}
use Rattle.desc_core.specs.RawNetwork.{Known, asked_of, invariants_of, known_of, made_of, network_of, services_in}
use Rattle.desc_form.specs.RawDescription.{RawDescription}
use Rattle.desc_form.specs.declared.refusal.Refusal.{Refusal}
use Rattle.desc_form.specs.HostConditions.{host_conditions}
use Rattle.desc_form.proofs.HostsLaws.{length-network_hosts}
use Rattle.desc_form.specs.RawHosts.{network_hosts}
use Rattle.flow_set.specs.EveryFlow.{every_flow}
use Rattle.flow_set.specs.FlowSet.{SetOfFlows, set_of}
use Rattle.flow_set.specs.declared.flow.Flow.{Flow}
use Rattle.host_net.specs.Host.{Host}
use Rattle.host_net.specs.Services.{RestrictedFlow}
use Rattle.inv_any.specs.declared.any_inv.AnyInv.{AnyInv}
use Rattle.net_core.specs.inner.Fitting.{IsNetwork}
use Rattle.net_core.specs.Network.{Network}
use Rattle.table_core.specs.Listing.{each}
use Rattle.text_core.proofs.FirstsLaws.{neither}
use Rattle.text_core.specs.FirstMatch.{first_of}

-- All names are known: the resolved invariants and flows.
pub record AreKnown (w : RawDescription) (hosts : List Host) (ks : List Known) (es : List Flow) : Type 0 where
  pub same : hosts ≡ network_hosts w
  pub known : each (known_of w.templates hosts) w.invariants ≡ Some ks
  pub found : each (ends_of hosts) w.flows ≡ Some es

known_here : (w : RawDescription) (hosts : List Host) (ks : List Known) (es : List Flow) → AreKnown w hosts ks es → each (known_of w.templates (network_hosts w)) w.invariants ≡ Some ks
known_here w hosts ks es all = ap (λ hs. each (known_of w.templates hs) w.invariants) (sym all.same) ∙ all.known

found_here : (w : RawDescription) (hosts : List Host) (ks : List Known) (es : List Flow) → AreKnown w hosts ks es → each (ends_of (network_hosts w)) w.flows ≡ Some es
found_here w hosts ks es all = ap (λ hs. each (ends_of hs) w.flows) (sym all.same) ∙ all.found

-- The conditions in groups: those on services and templates, those on flows before them, and those on assigns before these.
abbrev from_services : RawDescription → List (Option Refusal)
from_services w = service_conditions w.flows ++ template_conditions w.templates

abbrev from_flows : RawDescription → List (Option Refusal)
from_flows w = flow_conditions w.flows ++ from_services w

abbrev from_assigns : RawDescription → List (Option Refusal)
from_assigns w = assign_conditions w ++ from_flows w

abbrev of_services : RawDescription → Option Refusal
of_services w = option_or (first_of (service_conditions w.flows)) (first_of (template_conditions w.templates))

names_first : (w : RawDescription) → first_of (use_conditions w) ≡ option_or (first_of (name_conditions w)) (first_of (from_assigns w))
unfolding use_conditions
names_first w = first_of-append (name_conditions w) (from_assigns w)

in_groups : (w : RawDescription)
    → first_of (from_assigns w) ≡ option_or (first_of (assign_conditions w)) (option_or (first_of (flow_conditions w.flows)) (of_services w))
in_groups w =
    first_of-append (assign_conditions w) (from_flows w)
    ∙ ap (option_or (first_of (assign_conditions w))) (first_of-append (flow_conditions w.flows) (from_services w)
    ∙ ap (option_or (first_of (flow_conditions w.flows))) (first_of-append (service_conditions w.flows) (template_conditions w.templates)))

-- The code reports 19 with 17 and 18, and 20 later.
in_steps : (c d e f rest : Option Refusal)
    → option_or (option_or c (option_or d None)) (option_or (option_or e (option_or f None)) rest) ≡ option_or (option_or c (option_or d e)) (option_or f rest)
in_steps None None None None rest = refl
in_steps None None None (Some r) rest = refl
in_steps None None (Some r) f rest = refl
in_steps None (Some r) e f rest = refl
in_steps (Some r) d e f rest = refl

uses_are : (w : RawDescription) (hosts : List Host) (ks : List Known) (es : List Flow) → AreKnown w hosts ks es
    → first_of (use_conditions w) ≡ option_or (before_last w hosts ks es) (option_or (twice_found es) (of_services w))
uses_are w hosts ks es all =
    let known = known_here w hosts ks es all in
    let found = found_here w hosts ks es all in
    let attribute : bad_attribute w ≡ bad_known hosts ks = bad_is w ks known ∙ ap (λ hs. bad_known hs ks) (sym all.same) in
    names_first w
    ∙ ap (λ o. option_or o (first_of (from_assigns w))) (names_known w ks es known found)
    ∙ in_groups w
    ∙ (λ j. option_or (first_of (duplicate_assign w.invariants ∷ attribute j ∷ [])) (option_or (first_of (self_is w es found j ∷ twice_is w es found j ∷ [])) (of_services w)))
    ∙ in_steps (duplicate_assign w.invariants) (bad_known hosts ks) (self_found es) (twice_found es) (of_services w)

-- The refusal of the description.
told : (w : RawDescription) (r : Refusal) → first_of (use_conditions w) ≡ Some r → network_by_uses w ≡ Err r
told w r is = rw is refl

pub refused_for_name : (w : RawDescription) (r : Refusal) → first_of (name_conditions w) ≡ Some r → network_by_uses w ≡ Err r
refused_for_name w r name = told w r (names_first w ∙ rw name refl)

refused_before : (w : RawDescription) (hosts : List Host) (ks : List Known) (es : List Flow) (r : Refusal) → AreKnown w hosts ks es → before_last w hosts ks es ≡ Some r → network_by_uses w ≡ Err r
refused_before w hosts ks es r all is = told w r (uses_are w hosts ks es all ∙ rw is refl)

pub fault_before : (w : RawDescription) (hosts : List Host) (ks : List Known) (es : List Flow) (fault : DescFault) → AreKnown w hosts ks es
    → ((r : Refusal) → fault ≡ Refused r → before_last w hosts ks es ≡ Some r) → Reads {A = Network} (Err fault) (network_by_uses w)
fault_before w hosts ks es (Refused r) all said = refused_before w hosts ks es r all (said r refl)
fault_before w hosts ks es Memory all said = tt

pub refused_twice : (w : RawDescription) (hosts : List Host) (ks : List Known) (es : List Flow) (r : Refusal) → AreKnown w hosts ks es → before_last w hosts ks es ≡ None → twice_found es ≡ Some r
    → network_by_uses w ≡ Err r
refused_twice w hosts ks es r all before is = told w r (uses_are w hosts ks es all ∙ rw (before, is) refl)

pub refused_services : (w : RawDescription) (hosts : List Host) (ks : List Known) (es : List Flow) (r : Refusal) → AreKnown w hosts ks es → before_last w hosts ks es ≡ None → twice_found es ≡ None
    → first_of (service_conditions w.flows) ≡ Some r → network_by_uses w ≡ Err r
refused_services w hosts ks es r all before once is = told w r (uses_are w hosts ks es all ∙ rw (before, once, is) refl)

pub refused_templates : (w : RawDescription) (hosts : List Host) (ks : List Known) (es : List Flow) (r : Refusal) → AreKnown w hosts ks es → before_last w hosts ks es ≡ None
    → twice_found es ≡ None → first_of (service_conditions w.flows) ≡ None → first_of (template_conditions w.templates) ≡ Some r → network_by_uses w ≡ Err r
refused_templates w hosts ks es r all before once last is = told w r (uses_are w hosts ks es all ∙ rw (before, once, last, is) refl)

-- The fault of a part.
pub fails : {A : Type 0} (w : RawDescription) (refusal : Option Refusal) (x : A) (fault : DescFault) → ((r : Refusal) → refusal ≡ Some r → network_by_uses w ≡ Err r)
    → Reads {A = A} (Err fault) (ok_unless_refused refusal x) → Reads {A = Network} (Err fault) (network_by_uses w)
fails w refusal x (Refused r) refused said = refused r (told_by refusal x r said)
fails w refusal x Memory refused said = tt

-- If conditions 17, 18 and 19 do not apply, no flow is from a host to itself.
pub none_to_itself : (w : RawDescription) (hosts : List Host) (ks : List Known) (es : List Flow) → before_last w hosts ks es ≡ None → self_found es ≡ None
none_to_itself w hosts ks es none = (neither (bad_known hosts ks) _ (neither (duplicate_assign w.invariants) _ none).1).1

-- The requested flows, as they are built.
abbrev pub made_set : RawDescription → ℕ → List Flow → SetOfFlows
made_set w n es = record { size = n; flows = if w.given then set_of es else every_flow n }

pub asked_made : (w : RawDescription) (hosts : List Host) (ks : List Known) (es : List Flow) (n : ℕ) (asked : SetOfFlows) → AreKnown w hosts ks es → before_last w hosts ks es ≡ None → n ≡ length hosts
    → ok_unless_refused (twice_found es) (made_set w n es) ≡ Ok asked → (twice_found es ≡ None) × (asked ≡ record { size = length w.hosts; flows = asked_of w })
asked_made w hosts ks es n asked all before count said =
    let (none, made) = passed (twice_found es) (made_set w n es) asked said in
    let size : n ≡ length w.hosts = count ∙ ap length all.same ∙ length-network_hosts w in
    let flows : asked_of w ≡ (if w.given then set_of es else every_flow (length w.hosts)) = asked_is w es (found_here w hosts ks es all) (none_to_itself w hosts ks es before) in
    (none, sym made ∙ ap (λ k. made_set w k es) size ∙ (λ j. record { size = length w.hosts; flows = sym flows j }))

-- The network, part by part.
network_is : (w : RawDescription) (hosts : List Host) (ks : List Known) (es : List Flow) (asked : SetOfFlows) (services : List RestrictedFlow) (invariants : List AnyInv) → AreKnown w hosts ks es
    → before_last w hosts ks es ≡ None → asked ≡ record { size = length w.hosts; flows = asked_of w } → services ≡ narrowed_among es w.flows → invariants ≡ map (made_of hosts) ks
    → network_of w ≡ record { hosts = hosts; asked = asked; services = services; given = w.given; answers = w.answers; invariants = invariants }
unfolding network_of
network_is w hosts ks es asked services invariants all before set narrowed made =
    let said : services_in w ≡ services = services_are w es (found_here w hosts ks es all) (none_to_itself w hosts ks es before) ∙ sym narrowed in
    let read : invariants_of w ≡ invariants = invariants_are w ks (known_here w hosts ks es all) ∙ ap (λ hs. map (made_of hs) ks) (sym all.same) ∙ sym made in
    λ i. record { hosts = sym all.same i; asked = sym set i; services = said i; given = w.given; answers = w.answers; invariants = read i }

-- The result is a network, and it is the one that the description specifies.
pub network_read : (w : RawDescription) (hosts : List Host) (ks : List Known) (es : List Flow) (asked : SetOfFlows) (services : List RestrictedFlow) (invariants : List AnyInv) → AreKnown w hosts ks es
    → first_of (host_conditions w) ≡ None → before_last w hosts ks es ≡ None → twice_found es ≡ None → first_of (service_conditions w.flows) ≡ None → first_of (template_conditions w.templates) ≡ None
    → asked ≡ record { size = length w.hosts; flows = asked_of w } → services ≡ narrowed_among es w.flows → invariants ≡ map (made_of hosts) ks
    → let d : Network = record { hosts = hosts; asked = asked; services = services; given = w.given; answers = w.answers; invariants = invariants } in
    IsNetwork d × (network_by_uses w ≡ Ok d)
network_read w hosts ks es asked services invariants all free before once last templates set narrowed made =
    let none : first_of (use_conditions w) ≡ None = uses_are w hosts ks es all ∙ rw (before, once, last, templates) refl in
    let network = network_is w hosts ks es asked services invariants all before set narrowed made in
    (subst IsNetwork network (IsNetwork-network_of w free none), rw none (ap Ok network))

-- With the conditions on hosts before them.
pub hosts_refused : (w : RawDescription) (r : Refusal) → first_of (host_conditions w) ≡ Some r → network_or w ≡ Err r
unfolding network_or
hosts_refused w r here =
    let told : first_of (host_conditions w ++ use_conditions w) ≡ Some r = first_of-append (host_conditions w) (use_conditions w) ∙ rw here refl in
    rw told refl

pub hosts_unrefused : (w : RawDescription) → first_of (host_conditions w) ≡ None → network_or w ≡ network_by_uses w
unfolding network_or
hosts_unrefused w none =
    let uses : first_of (host_conditions w ++ use_conditions w) ≡ first_of (use_conditions w) = first_of-append (host_conditions w) (use_conditions w) ∙ rw none refl in
    rw uses refl
