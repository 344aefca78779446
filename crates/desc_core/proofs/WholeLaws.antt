-- If no condition refuses a description, its network contains everything of it.
use Rattle.std.proofs.Common.{◌≡◌, ℕ, suc, ◌==◌, Bool, true, false, nat_lt, List, [], ◌∷◌, map, length, Option, Some, None, option_map, option_and_then, is_some, Ok, refl, sym, ap, ◌∙◌, subst, arith}
use Rattle.std.proofs.lemmas.Bool.{and_parts}
use Rattle.std.proofs.lemmas.Bool.Decides.{nat_tests}
use Rattle.std.proofs.lemmas.List.Folds.{list_all-append}
use Rattle.std.proofs.lemmas.Slice.Zip.{AllZip-long}
use Rattle.std.specs.List.{AllByRecursion, AllZip, cons_option, filter, filter_map, list_all}
use Rattle.std.specs.Option.{option_map_or}
use Rattle.std.specs.Prelude.{if◌then◌else◌}
use Rattle.toml.specs.Data.{Members}
use Rattle.desc_core.specs.Description.{described, described_by_table}
use Rattle.desc_core.proofs.DescriptionLaws.{accepted, table_of_bytes}
use Rattle.flow_set.proofs.EveryFlowLaws.{IsFull-every_flow}
use Rattle.desc_core.specs.Flows.{flow_of_names}
use Rattle.flow_set.specs.FlowSet.{set_of}
use Rattle.flow_set.proofs.ListedLaws.{has-set_of, length-set_of}
use Rattle.desc_core.proofs.ListingLaws.{all_weaker, zip_some, zip_there, zip_weaker}
use Rattle.net_core.specs.Network.{Network}
use Rattle.desc_core.specs.RawNetwork.{Known, asked_of, given_by, invariant_of, invariants_of, known_of, made_of, narrowed_of, narrowed_to, network_of, services_in, declared_services}
use Rattle.flow_set.specs.EveryFlow.{every_flow}
use Rattle.desc_core.specs.UseConditions.{use_conditions}
use Rattle.desc_core.proofs.UsesLaws.{AreListed, are_listed}
use Rattle.desc_core.proofs.KnownLaws.{all_known, known}
use Rattle.desc_core.proofs.MakeableLaws.{all_lawful}
use Rattle.desc_core.specs.inner.UseFacts.{SaysAttributes}
use Rattle.desc_core.proofs.UseFactsLaws.{PassesUses, PassesUses-uses, services_test}
use Rattle.desc_core.specs.inner.Whole.{IsDescribed, IsDescribedByTable, IsHostOf, IsInvariantOf, IsNarrowedOf, IsSetOf, IsWhole, is_narrowed}
use Rattle.text_core.specs.FirstMatch.{first_of}
use Rattle.desc_form.specs.RawDescription.{RawDescription, RawHost, RawInvariant, written}
use Rattle.desc_form.specs.RawFlow.{RawFlow}
use Rattle.desc_form.proofs.RawDescriptionLaws.{written_stands}
use Rattle.desc_form.proofs.FactsLaws.{all_say_prefixes, has_hosts}
use Rattle.desc_form.specs.HostConditions.{host_conditions}
use Rattle.desc_form.specs.inner.EntryView.{is_prefix}
use Rattle.desc_form.proofs.HostsLaws.{length-network_hosts}
use Rattle.desc_form.specs.inner.HostFacts.{texts}
use Rattle.desc_form.specs.RawHosts.{network_host, network_hosts}
use Rattle.flow_set.specs.declared.flow.Flow.{Flow}
use Rattle.host_net.specs.Prefix.{prefix_of}
use Rattle.host_net.specs.Services.{RestrictedFlow}
use Rattle.host_net.specs.ServiceText.{service_of}
use Rattle.host_net.specs.inner.ServiceText.{IsServiceSpelling}
use Rattle.host_net.proofs.ServiceTextLaws.{service_of-spelled}
use Rattle.host_net.specs.declared.service.Service.{Service}
use Rattle.host_net.specs.declared.prefix.Prefix.{Prefix}
use Rattle.inv_any.specs.declared.any_inv.AnyInv.{AnyInv}
use Rattle.std.proofs.lemmas.Option.{option_and_then_some}
use Rattle.desc_core.proofs.ChoiceLaws.{bad_by_form, made_by_form}
use Rattle.desc_core.specs.Choices.{bad_of, chosen}
use Rattle.desc_form.specs.RawTemplate.{RawTemplate}
use Rattle.host_net.specs.Host.{Host}
use Rattle.table_core.specs.Listing.{each}

-- Each entry is a prefix.
all_prefixes : (w : RawDescription) → first_of (host_conditions w) ≡ None → list_all (λ t. is_prefix (prefix_of t)) (texts w.hosts) ≡ true
all_prefixes w h = (all_say_prefixes (texts w.hosts)).1 ((has_hosts w).0 h).prefixes

prefix_by : (o : Option Prefix) → option_map_or (λ p. nat_lt 0 p.len) o false ≡ true → is_some o ≡ true
prefix_by None h = cc
prefix_by (Some p) h = refl

hosts_whole : (hs : List RawHost) → list_all (λ t. is_prefix (prefix_of t)) (texts hs) ≡ true → AllZip IsHostOf hs (map network_host hs)
hosts_whole [] all = tt
hosts_whole (h ∷ hs) all =
    let (here, behind) = and_parts (list_all (λ t. is_prefix (prefix_of t)) h.at) _ (sym (list_all-append (λ t. is_prefix (prefix_of t)) h.at (texts hs)) ∙ all) in (
      record {
        name = refl;
        prefixes = zip_some prefix_of h.at (all_weaker (λ t. is_prefix (prefix_of t)) (λ text. is_some (prefix_of text)) (λ text. prefix_by (prefix_of text)) h.at here);
        rest = refl;
      },
      hosts_whole hs behind,
    )

-- Each invariant is made of its assigns.
is_invariant_of : (ts : List RawTemplate) (hosts : List Host) (i : RawInvariant) (k : Known) → known_of ts hosts i ≡ Some k → SaysAttributes ts hosts i → IsInvariantOf ts hosts i (made_of hosts k)
unfolding known_of
is_invariant_of ts hosts i k is says =
    option_and_then_some _ (chosen ts i.template) k is (λ template named rest.
    option_and_then_some _ (each (given_by hosts) i.assigns) k rest (λ assigns given last.
    let same : known template assigns ≡ k = cc in
    let good : bad_of hosts k.template k.assigns ≡ None = says k is in
    record {
      template = template;
      named = named;
      assigns = assigns;
      given = given;
      good = sym (bad_by_form hosts template assigns) ∙ ap (λ (j : Known). bad_of hosts j.template j.assigns) same ∙ good;
      made = ap (λ (j : Known). made_of hosts j) (sym same) ∙ made_by_form hosts template assigns;
    }))

one_whole : (ts : List RawTemplate) (hosts : List Host) (i : RawInvariant) (o : Option Known) (is : List RawInvariant) (invs : List AnyInv) → known_of ts hosts i ≡ o → is_some o ≡ true
    → SaysAttributes ts hosts i → AllZip (IsInvariantOf ts hosts) is invs → AllZip (IsInvariantOf ts hosts) (i ∷ is) (cons_option (option_map (made_of hosts) o) invs)
one_whole ts hosts i None is invs here there says behind = cc
one_whole ts hosts i (Some k) is invs here there says behind = (is_invariant_of ts hosts i k here says, behind)

all_whole : (ts : List RawTemplate) (hosts : List Host) (is : List RawInvariant) → list_all (λ i. is_some (known_of ts hosts i)) is ≡ true → AllByRecursion (SaysAttributes ts hosts) is
    → AllZip (IsInvariantOf ts hosts) is (filter_map (invariant_of ts hosts) is)
all_whole ts hosts [] known says = tt
all_whole ts hosts (i ∷ is) known says =
    let (there, rest) = and_parts (is_some (known_of ts hosts i)) _ known in
    one_whole ts hosts i (known_of ts hosts i) is (filter_map (invariant_of ts hosts) is) refl there says.0 (all_whole ts hosts is rest says.1)

invariants_whole : (w : RawDescription) → PassesUses w → AllZip (IsInvariantOf w.templates (network_hosts w)) w.invariants (invariants_of w)
unfolding invariants_of
invariants_whole w sound = all_whole w.templates (network_hosts w) w.invariants (all_known w sound) sound.attributes

-- Each flow with services is restricted to them.
spelled : (said_by : List (List ℕ)) → list_all (λ text. is_some (service_of text)) said_by ≡ true → AllZip IsServiceSpelling said_by (filter_map service_of said_by)
spelled said_by all =
    zip_weaker (λ text s. service_of text ≡ Some s) IsServiceSpelling said_by (filter_map service_of said_by) service_of-spelled (zip_some service_of said_by all)

abbrev flow_with : List ℕ → List ℕ → List (List ℕ) → RawFlow
flow_with from to services = record { from = from; to = to; services = services }

some_there : (n : ℕ) → (suc n == 0) ≡ false
some_there n = grind (arith, nat_tests)

one_narrowed : (hosts : List Host) (from to : List ℕ) (said_by : List (List ℕ)) (ss : List Service) (o : Option Flow) (ws : List RawFlow) (ns : List RestrictedFlow)
    → flow_of_names hosts (flow_with from to said_by) ≡ o → is_some o ≡ true → AllZip IsServiceSpelling said_by ss → AllZip (IsNarrowedOf hosts) (filter is_narrowed ws) ns
    → AllZip (IsNarrowedOf hosts) (filter is_narrowed (flow_with from to said_by ∷ ws)) (cons_option (option_and_then (λ flow. narrowed_to flow ss) o) ns)
one_narrowed hosts from to said_by ss None ws ns is there said behind = cc
one_narrowed hosts from to [] [] (Some flow) ws ns is there said behind = behind
one_narrowed hosts from to [] (s ∷ ss) (Some flow) ws ns is there said behind = absurd said
one_narrowed hosts from to (text ∷ more) [] (Some flow) ws ns is there said behind = absurd said
one_narrowed hosts from to (text ∷ more) (s ∷ ss) (Some flow) ws ns is there said behind = rw (some_there (length more)) (record { flow = is; services = said }, behind)

narrowed_whole : (hosts : List Host) (ws : List RawFlow) → list_all (λ f. is_some (flow_of_names hosts f)) ws ≡ true → list_all services_test ws ≡ true
    → AllZip (IsNarrowedOf hosts) (filter is_narrowed ws) (filter_map (narrowed_of hosts) ws)
narrowed_whole hosts [] between said = tt
narrowed_whole hosts (w ∷ ws) between said =
    let (here, behind) = and_parts (is_some (flow_of_names hosts w)) _ between in
    let (now, later) = and_parts (services_test w) _ said in
    one_narrowed hosts w.from w.to w.services (declared_services w) (flow_of_names hosts w) ws (filter_map (narrowed_of hosts) ws) refl here (spelled w.services now)
    (narrowed_whole hosts ws behind later)

-- Each flow is between two hosts, and none is listed twice.
asked_by : (w : RawDescription) (all : AreListed w) (given : Bool) → w.given ≡ given → asked_of w ≡ (if given then set_of all.flows else every_flow (length w.hosts))
asked_by w all given is = all.asked ∙ ap (λ b. if b then set_of all.flows else every_flow (length w.hosts)) is

set_of_listed : (w : RawDescription) (all : AreListed w) → w.given ≡ true → IsSetOf (network_hosts w) w.flows (asked_of w)
set_of_listed w all given =
    let asked : asked_of w ≡ set_of all.flows = asked_by w all true given in
    record {
      flows = all.flows;
      each = all.named;
      same = λ f. rw asked (has-set_of all.flows f);
      count = rw asked (length-set_of all.flows all.different ∙ AllZip-long (λ names flow. flow_of_names (network_hosts w) names ≡ Some flow) w.flows all.flows all.named);
    }

pub IsWhole-network_of : (w : RawDescription) → first_of (host_conditions w) ≡ None → first_of (use_conditions w) ≡ None → IsWhole w (network_of w)
unfolding network_of network_hosts services_in
IsWhole-network_of w no_host no_use =
    let sound = PassesUses-uses w no_use in
    let all = are_listed w sound in
    record {
      hosts = hosts_whole w.hosts (all_prefixes w no_host);
      invariants = invariants_whole w sound;
      given = refl;
      answers = refl;
      sized = sym (length-network_hosts w);
      listed = λ given. set_of_listed w all given;
      every = λ given. rw (asked_by w all false given, length-network_hosts w) (IsFull-every_flow (length w.hosts));
      services = narrowed_whole (network_hosts w) w.flows (zip_there (flow_of_names (network_hosts w)) w.flows all.flows all.named) sound.services;
      lawful = all_lawful w.templates sound.declared sound.lawful;
    }

pub IsDescribedByTable-described : (table : Members) (d : Network) → described_by_table table ≡ Ok d → IsDescribedByTable table d
IsDescribedByTable-described table d is =
    let whole = accepted table d is in
    record {
      w = written table;
      written = written_stands table whole.form;
      whole = subst (IsWhole (written table)) whole.network (IsWhole-network_of (written table) whole.hosts whole.uses);
    }

pub IsDescribed-described : (bytes : List ℕ) (d : Network) → described bytes ≡ Ok d → IsDescribed bytes d
IsDescribed-described bytes d is =
    let read = table_of_bytes bytes d is in
    record { table = read.table; document = read.document; described = IsDescribedByTable-described read.table d read.says }
