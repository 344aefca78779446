-- A table whose flows are edited describes the same network, with one more or one fewer flow.
use Rattle.std.proofs.Common.{◌≡◌, ◌≢◌, ◌⊎◌, inl, inr, ℕ, ℤ, pos, ◌≤◌, Bool, true, not, ◌&&◌, List, [], ◌∷◌, ◌++◌, length, codes, filter, Option, Some, Ok, Err, is_some, refl, sym, ap, subst, ◌∙◌}
use Rattle.std.proofs.lemmas.Bool.{or_cases}
use Rattle.std.proofs.lemmas.Bool.Decides.{Decides-int_eq}
use Rattle.std.proofs.lemmas.List.Elements.{All-filter, All-head, All-push, All-tail}
use Rattle.std.proofs.lemmas.List.Kept.{AllPairs-filter}
use Rattle.std.proofs.lemmas.List.Quantifiers.{all_pairs_push}
use Rattle.std.proofs.lemmas.Slice.Eq.{bytes_eq-Decides}
use Rattle.std.specs.List.{All, list_any}
use Rattle.std.specs.Option.{ok_or}
use Rattle.std.specs.Prelude.{IsFalse, IsTrue, if◌then◌else◌}
use Rattle.std.specs.Str.{bytes_eq}
use Rattle.toml.specs.Data.{Data, Members, get_member}
use Rattle.desc_core.proofs.KnownLaws.{is_host}
use Rattle.desc_core.specs.Description.{described_by_table}
use Rattle.desc_core.proofs.DescriptionLaws.{accepted}
use Rattle.desc_core.proofs.FlowsLaws.{are_between}
use Rattle.desc_core.proofs.NetworkLaws.{IsNetwork-table}
use Rattle.desc_core.specs.inner.Parts.{with_services}
use Rattle.desc_core.specs.UseConditions.{is_declared}
use Rattle.desc_core.specs.inner.UseFacts.{AreServiceTexts}
use Rattle.desc_core.specs.RawNetwork.{asked_of, invariants_of, network_of, services_in}
use Rattle.desc_form.proofs.FlowLaws.{flow_read, said_version}
use Rattle.desc_form.specs.Keys.{says_second, declared_version}
use Rattle.desc_form.specs.RawDescription.{RawDescription, RawHost, written}
use Rattle.desc_form.specs.RawFlow.{RawFlow}
use Rattle.desc_form.specs.inner.RawForm.{IsRawOf}
use Rattle.desc_form.specs.RawHosts.{network_hosts}
use Rattle.edit_core.proofs.FlowLemmas.{AreEnds, all_apart, any_said, asked_more, flow_said, flows_among, has_less, is_named, named_where, narrowed_among, one_flow, other_elements, other_flows, others_zipped, services_less, services_more, services_read, services_whole, zipped_more}
use Rattle.edit_core.proofs.FlowTables.{AreRightFlows, IsListing, described_with, listing, own_flows, with_flows}
use Rattle.edit_core.specs.Edited.{◌>>=◌, after_edit, edited, if_described, is_between, others, text_list, with_list}
use Rattle.edit_core.specs.inner.FlowEdits.{IsAskedFlow, IsRightFlow, asking_less, asking_more, without_services}
use Rattle.edit_core.specs.declared.fault.EditWhy.TheVariants.{Absent, NoPolicy}
use Rattle.edit_core.proofs.SessionLemmas.{said_of}
use Rattle.edit_core.specs.Edit.{Add, Remove}
use Rattle.flow_set.specs.Flow.{same_flow}
use Rattle.flow_set.specs.laws.FlowLaws.{IsOrdered-without_flow, flows_ext, has-without_flow}
use Rattle.flow_set.specs.FlowSet.{IsOrdered, has, set_of, with_flow}
use Rattle.flow_set.specs.inner.FlowSetView.{without_flow}
use Rattle.flow_set.proofs.ListedLaws.{IsFlowSet-set_of, has-set_of}
use Rattle.flow_set.specs.declared.flow.Flow.{Flow}
use Rattle.host_net.specs.Host.{Host, host_named}
use Rattle.host_net.specs.Services.{RestrictedFlow, services_of}
use Rattle.host_net.specs.ServiceText.{service_of}
use Rattle.host_net.specs.declared.service.Service.{Service}
use Rattle.net_core.specs.Network.{Network}
use Rattle.table_core.specs.Listing.{each}
use Rattle.table_core.specs.Tables.{integer_at, list_at}
use Rattle.text_core.specs.Name.{is_name}

-- ---- the network of a table with other flows

-- The network with these requested flows and these restricted flows.
abbrev asking_with : Network → List Flow → List RestrictedFlow → Network
asking_with d flows services = record d { asked = record { size = d.asked.size; flows = flows }; services = services }

network_with : (w : RawDescription) (fs : List RawFlow) → w.given ≡ true
    → network_of (with_flows w fs) ≡ asking_with (network_of w) (set_of (flows_among (network_hosts w) fs)) (narrowed_among (network_hosts w) fs)
unfolding network_of network_hosts asked_of invariants_of services_in
network_with w fs given = λ i. record {
  hosts = network_hosts w;
  asked = record { size = length w.hosts; flows = set_of (flows_among (network_hosts w) fs) };
  services = narrowed_among (network_hosts w) fs;
  given = sym given i;
  answers = w.answers;
  invariants = invariants_of w;
}

pub hosts_of : (w : RawDescription) → (network_of w).hosts ≡ network_hosts w
unfolding network_of
hosts_of w = refl

asked_listed_of : (w : RawDescription) → w.given ≡ true → (network_of w).asked.flows ≡ set_of (flows_among (network_hosts w) w.flows)
unfolding network_of asked_of
asked_listed_of w given = rw given refl

services_listed_of : (w : RawDescription) → (network_of w).services ≡ narrowed_among (network_hosts w) w.flows
unfolding network_of services_in
services_listed_of w = refl

pub has_asked : (w : RawDescription) (f : Flow) → w.given ≡ true → has (network_of w).asked.flows f ≡ has (flows_among (network_hosts w) w.flows) f
has_asked w f given = ap (λ (fs : List Flow). has fs f) (asked_listed_of w given) ∙ has-set_of (flows_among (network_hosts w) w.flows) f

-- ---- one more flow

-- The name of a host is valid.
name_by : (name : List ℕ) (h : RawHost) (rest : Bool) → IsTrue (is_name h.name) → (bytes_eq name h.name ≡ true) ⊎ (rest ≡ true)
    → (rest ≡ true → IsTrue (is_name name)) → IsTrue (is_name name)
name_by name h rest legal (inl here) later = subst (λ (n : List ℕ). IsTrue (is_name n)) (sym ((bytes_eq-Decides name h.name).0 here)) legal
name_by name h rest legal (inr behind) later = later behind

declared_name : (name : List ℕ) (hs : List RawHost) → All (λ (h : RawHost). IsTrue (is_name h.name)) hs
    → list_any (λ (h : RawHost). bytes_eq name h.name) hs ≡ true → IsTrue (is_name name)
declared_name name [] legal any = cc
declared_name name (h ∷ hs) legal any =
    name_by name h (list_any (λ (h : RawHost). bytes_eq name h.name) hs) (All-head (λ (h : RawHost). IsTrue (is_name h.name)) h hs legal)
    (or_cases (bytes_eq name h.name) (list_any (λ (h : RawHost). bytes_eq name h.name) hs) any)
    (declared_name name hs (All-tail (λ (h : RawHost). IsTrue (is_name h.name)) h hs legal))

is_there : {A : Type 0} (o : Option A) (x : A) → o ≡ Some x → is_some o ≡ true
is_there o x is = ap is_some is

declared : (w : RawDescription) (name : List ℕ) (k : ℕ) → host_named (network_hosts w) name ≡ Some k → IsTrue (is_declared w name)
declared w name k is = sym (is_host w name) ∙ is_there (host_named (network_hosts w) name) k is

-- A table with version number 2 is of version 2.
second_by : (n : ℤ) (o : Option ℤ) → o ≡ Some n → IsTrue (says_second o) → n ≡ pos 2
second_by n o is second = (Decides-int_eq n (pos 2)).0 (sym (ap says_second is) ∙ second)

second_said : (table : Members) (w : RawDescription) → IsRawOf table w → IsTrue (says_second (declared_version table)) → w.version ≡ pos 2
unfolding integer_at
second_said table w is second = second_by w.version (declared_version table) (said_version (get_member (codes "topos") table) w.version is.version) second

whole_by : (table : Members) (w : RawDescription) (texts : List (List ℕ)) → IsRawOf table w → (texts ≡ []) ⊎ IsTrue (says_second (declared_version table))
    → w.version ≢ pos 2 → texts ≡ []
whole_by table w texts is (inl none) other = none
whole_by table w texts is (inr second) other = absurd (other (second_said table w is second))

-- A valid new flow, in a raw description.
record IsNewFlow (table : Members) (w : RawDescription) (from to : List ℕ) (texts : List (List ℕ)) (f : Flow) (ss : List Service) : Type 0 where
  ends : AreEnds (network_hosts w) from to f
  fresh : IsFalse (has (flows_among (network_hosts w) w.flows) f)
  services : each service_of texts ≡ Some ss
  valid : AreServiceTexts texts
  version : (texts ≡ []) ⊎ IsTrue (says_second (declared_version table))

abbrev new_flow : (from to : List ℕ) → List (List ℕ) → RawFlow
new_flow from to texts = record { from = from; to = to; services = texts }

names_differ : (hosts : List Host) (from to : List ℕ) (f : Flow) → AreEnds hosts from to f → from ≢ to
names_differ hosts from to f ends same =
    let both : Some f.from ≡ Some f.to = sym ends.is_from ∙ ap (host_named hosts) same ∙ ends.is_to in
    ends.apart cc

right_more : (table : Members) (flows : List Data) (w : RawDescription) (from to : List ℕ) (texts : List (List ℕ)) (f : Flow) (ss : List Service) → IsListing table flows w
    → IsNewFlow table w from to texts f ss → AreRightFlows w (w.flows ++ new_flow from to texts ∷ [])
right_more table flows w from to texts f ss listing new =
    let v = new_flow from to texts in
    let own = own_flows table flows w listing in
    let is_from = declared w from f.from new.ends.is_from in
    let is_to = declared w to f.to new.ends.is_to in
    let apart = all_apart (network_hosts w) from to f w.flows new.ends new.fresh in
    record {
      whole = λ other. All-push (λ (g : RawFlow). g.services ≡ []) w.flows v (own.whole other) (whole_by table w texts listing.is_written new.version other);
      named = All-push (λ (g : RawFlow). IsTrue (is_name g.from) × IsTrue (is_name g.to)) w.flows v own.named
          (declared_name from w.hosts listing.hosts.host_names is_from, declared_name to w.hosts listing.hosts.host_names is_to);
      joined = All-push (λ (g : RawFlow). IsTrue (is_declared w g.from) × IsTrue (is_declared w g.to)) w.flows v own.joined (is_from, is_to);
      apart = All-push (λ (g : RawFlow). g.from ≢ g.to) w.flows v own.apart (names_differ (network_hosts w) from to f new.ends);
      different = all_pairs_push (λ (g h : RawFlow). g.from ≡ h.from → g.to ≡ h.to → ⊥) w.flows v own.different (λ k d within. apart k d within);
      services = All-push (λ (g : RawFlow). AreServiceTexts g.services) w.flows v own.services new.valid;
    }

network_more : (w : RawDescription) (from to : List ℕ) (texts : List (List ℕ)) (f : Flow) (ss : List Service) → w.given ≡ true → AreEnds (network_hosts w) from to f
    → IsFalse (has (flows_among (network_hosts w) w.flows) f) → each service_of texts ≡ Some ss
    → network_of (with_flows w (w.flows ++ new_flow from to texts ∷ [])) ≡ asking_more (network_of w) f ss
network_more w from to texts f ss given ends fresh said =
    let hosts = network_hosts w in
    let v = new_flow from to texts in
    let leads = one_flow hosts from to f v ends (own_names from to) in
    let flows : set_of (flows_among hosts (w.flows ++ v ∷ [])) ≡ with_flow (network_of w).asked.flows f =
    asked_more hosts w.flows v f leads ∙ ap (λ (fs : List Flow). with_flow fs f) (sym (asked_listed_of w given)) in
    let narrowed : narrowed_among hosts (w.flows ++ v ∷ []) ≡ with_services (network_of w).services f ss =
    services_more hosts w.flows v f leads fresh
    ∙ (λ i. with_services (sym (services_listed_of w) i) f (services_read texts ss said i)) in
    network_with w (w.flows ++ v ∷ []) given ∙ (λ i. asking_with (network_of w) (flows i) (narrowed i))
  where
    own_names : (from to : List ℕ) → is_named from to (new_flow from to texts) ≡ true
    own_names from to = let first = (bytes_eq-Decides from from).1 refl in let second = (bytes_eq-Decides to to).1 refl in rw (first, second) refl

added_to : (table : Members) (flows : List Data) (w : RawDescription) (from to : List ℕ) (texts : List (List ℕ)) (f : Flow) (ss : List Service) → IsListing table flows w
    → IsNewFlow table w from to texts f ss
    → described_by_table (with_list (codes "flow") (flows ++ text_list (from ∷ to ∷ texts) ∷ []) table) ≡ Ok (asking_more (network_of w) f ss)
added_to table flows w from to texts f ss listing new =
    let v = new_flow from to texts in
    let zipped = zipped_more flows w.flows (text_list (from ∷ to ∷ texts)) v listing.zipped (flow_read (text_list (from ∷ to ∷ texts)) v (flow_said from to texts)) in
    described_with table flows w (flows ++ text_list (from ∷ to ∷ texts) ∷ []) (w.flows ++ v ∷ []) listing zipped (right_more table flows w from to texts f ss listing new)
    ∙ ap (λ (n : Network). Ok n) (network_more w from to texts f ss listing.given new.ends new.fresh new.services)

is_new_flow : (table : Members) (flows : List Data) (words : List (List ℕ)) (f : Flow) (ss : List Service) (listing : IsListing table flows (written table))
    → (right : IsRightFlow table (network_of (written table)) words f ss) → IsNewFlow table (written table) right.from right.to right.texts f ss
is_new_flow table flows words f ss listing right =
    let w = written table in
    let hosts = hosts_of w in
    record {
      ends = record {
        is_from = ap (λ (hs : List Host). host_named hs right.from) (sym hosts) ∙ right.is_from;
        is_to = ap (λ (hs : List Host). host_named hs right.to) (sym hosts) ∙ right.is_to;
        apart = right.apart;
      };
      fresh = sym (has_asked w f listing.given) ∙ right.fresh;
      services = right.services;
      valid = right.valid;
      version = right.version;
    }

added_by : (table : Members) (flows : List Data) (words : List (List ℕ)) (f : Flow) (ss : List Service) → IsListing table flows (written table)
    → IsRightFlow table (network_of (written table)) words f ss
    → described_by_table (with_list (codes "flow") (flows ++ text_list words ∷ []) table) ≡ Ok (asking_more (network_of (written table)) f ss)
added_by table flows words f ss listing right =
    ap (λ (ws : List (List ℕ)). described_by_table (with_list (codes "flow") (flows ++ text_list ws ∷ []) table)) right.said
    ∙ added_to table flows (written table) right.from right.to right.texts f ss listing (is_new_flow table flows words f ss listing right)

-- A valid flow, appended to the others.
pub added : (table : Members) (flows : List Data) (d : Network) (words : List (List ℕ)) (f : Flow) (ss : List Service)
    → list_at (codes "flow") table ≡ Some flows → described_by_table table ≡ Ok d → IsRightFlow table d words f ss
    → described_by_table (with_list (codes "flow") (flows ++ text_list words ∷ []) table) ≡ Ok (asking_more d f ss)
added table flows d words f ss there said right =
    let network = (accepted table d said).network in
    added_by table flows words f ss (listing table flows d there said) (subst (λ (n : Network). IsRightFlow table n words f ss) (sym network) right)
    ∙ ap (λ (n : Network). Ok (asking_more n f ss)) network

pub after_added : (table : Members) (flows : List Data) (d : Network) (words : List (List ℕ)) (f : Flow) (ss : List Service)
    → list_at (codes "flow") table ≡ Some flows → described_by_table table ≡ Ok d → IsRightFlow table d words f ss
    → after_edit (Add words) table ≡ Ok (with_list (codes "flow") (flows ++ text_list words ∷ []) table)
unfolding after_edit edited
after_added table flows d words f ss there said right =
    ap (λ (o : Option (List Data)). ok_or o NoPolicy >>= (λ ds. Ok (ds ++ text_list words ∷ [])) >>= (λ ds. Ok (with_list (codes "flow") ds table)) >>= if_described) there
    ∙ ap (said_of (with_list (codes "flow") (flows ++ text_list words ∷ []) table)) (added table flows d words f ss there said right)

-- ---- the flow of two names

-- A requested flow has two different hosts.
asked_apart : (table : Members) (d : Network) (f : Flow) → described_by_table table ≡ Ok d → IsTrue (has d.asked.flows f) → f.from ≢ f.to
asked_apart table d f said asked = ((IsNetwork-table table d said).asked.flows f asked).2

asked_ends : (table : Members) (d : Network) (from to : List ℕ) (f : Flow) → described_by_table table ≡ Ok d → IsAskedFlow d from to f
    → AreEnds (network_hosts (written table)) from to f
asked_ends table d from to f said asked =
    let hosts : network_hosts (written table) ≡ d.hosts = sym (hosts_of (written table)) ∙ ap (λ (n : Network). n.hosts) (accepted table d said).network in
    record {
      is_from = ap (λ (hs : List Host). host_named hs from) hosts ∙ asked.is_from;
      is_to = ap (λ (hs : List Host). host_named hs to) hosts ∙ asked.is_to;
      apart = asked_apart table d f said asked.asked;
    }

-- A requested flow is listed in the table.
pub asked_listed : (table : Members) (flows : List Data) (d : Network) (from to : List ℕ) (f : Flow)
    → list_at (codes "flow") table ≡ Some flows → described_by_table table ≡ Ok d → IsAskedFlow d from to f → IsTrue (list_any (is_between from to) flows)
asked_listed table flows d from to f there said asked =
    let w = written table in
    let is = listing table flows d there said in
    let listed : has (flows_among (network_hosts w) w.flows) f ≡ true =
    sym (has_asked w f is.given) ∙ ap (λ (n : Network). has n.asked.flows f) (accepted table d said).network ∙ asked.asked in
    any_said from to flows w.flows is.zipped ∙ named_where (network_hosts w) from to f w.flows (asked_ends table d from to f said asked) listed

-- ---- one fewer flow

right_less : (w : RawDescription) (from to : List ℕ) → AreRightFlows w w.flows → AreRightFlows w (other_flows from to w.flows)
right_less w from to own =
    let other = λ (g : RawFlow). not (is_named from to g) in
    record {
      whole = λ version. All-filter other (λ (g : RawFlow). g.services ≡ []) w.flows (own.whole version);
      named = All-filter other (λ (g : RawFlow). IsTrue (is_name g.from) × IsTrue (is_name g.to)) w.flows own.named;
      joined = All-filter other (λ (g : RawFlow). IsTrue (is_declared w g.from) × IsTrue (is_declared w g.to)) w.flows own.joined;
      apart = All-filter other (λ (g : RawFlow). g.from ≢ g.to) w.flows own.apart;
      different = AllPairs-filter (λ (g h : RawFlow). g.from ≡ h.from → g.to ≡ h.to → ⊥) other w.flows own.different;
      services = All-filter other (λ (g : RawFlow). AreServiceTexts g.services) w.flows own.services;
    }

ordered_set : (hosts : List Host) (ws : List RawFlow) → length hosts ≤ 256 → IsOrdered (set_of (flows_among hosts ws))
ordered_set hosts ws small = (IsFlowSet-set_of (length hosts) (flows_among hosts ws) small (are_between hosts ws)).ordered

asked_less : (hosts : List Host) (ws : List RawFlow) (from to : List ℕ) (f : Flow) → length hosts ≤ 256 → AreEnds hosts from to f
    → set_of (flows_among hosts (other_flows from to ws)) ≡ without_flow (set_of (flows_among hosts ws)) f
asked_less hosts ws from to f small ends =
    flows_ext (set_of (flows_among hosts (other_flows from to ws))) (without_flow (set_of (flows_among hosts ws)) f)
    (ordered_set hosts (other_flows from to ws) small) (IsOrdered-without_flow (set_of (flows_among hosts ws)) f (ordered_set hosts ws small))
    (λ g. has-set_of (flows_among hosts (other_flows from to ws)) g
    ∙ has_less hosts from to f g ws ends
    ∙ ap (λ b. b && not (same_flow f g)) (sym (has-set_of (flows_among hosts ws) g))
    ∙ sym (has-without_flow (set_of (flows_among hosts ws)) f g))

network_less : (w : RawDescription) (from to : List ℕ) (f : Flow) → w.given ≡ true → length (network_hosts w) ≤ 256 → AreEnds (network_hosts w) from to f
    → network_of (with_flows w (other_flows from to w.flows)) ≡ asking_less (network_of w) f
network_less w from to f given small ends =
    let hosts = network_hosts w in
    let flows : set_of (flows_among hosts (other_flows from to w.flows)) ≡ without_flow (network_of w).asked.flows f =
    asked_less hosts w.flows from to f small ends ∙ ap (λ (fs : List Flow). without_flow fs f) (sym (asked_listed_of w given)) in
    let narrowed : narrowed_among hosts (other_flows from to w.flows) ≡ without_services (network_of w).services f =
    services_less hosts from to f w.flows ends ∙ ap (λ (ns : List RestrictedFlow). without_services ns f) (sym (services_listed_of w)) in
    network_with w (other_flows from to w.flows) given ∙ (λ i. asking_with (network_of w) (flows i) (narrowed i))

few_hosts : (table : Members) (d : Network) → described_by_table table ≡ Ok d → length (network_hosts (written table)) ≤ 256
few_hosts table d said =
    let fits = IsNetwork-table table d said in
    let hosts : network_hosts (written table) ≡ d.hosts = sym (hosts_of (written table)) ∙ ap (λ (n : Network). n.hosts) (accepted table d said).network in
    subst (λ n. n ≤ 256) (fits.sized ∙ ap (λ (hs : List Host). length hs) (sym hosts)) fits.asked.small

-- A requested flow, removed.
pub removed : (table : Members) (flows : List Data) (d : Network) (from to : List ℕ) (f : Flow)
    → list_at (codes "flow") table ≡ Some flows → described_by_table table ≡ Ok d → IsAskedFlow d from to f
    → described_by_table (with_list (codes "flow") (filter (λ x. not (is_between from to x)) flows) table) ≡ Ok (asking_less d f)
removed table flows d from to f there said asked =
    let w = written table in
    let is = listing table flows d there said in
    let ends = asked_ends table d from to f said asked in
    described_with table flows w (other_elements from to flows) (other_flows from to w.flows) is (others_zipped from to flows w.flows is.zipped)
    (right_less w from to (own_flows table flows w is))
    ∙ ap (λ (n : Network). Ok n) (network_less w from to f is.given (few_hosts table d said) ends)
    ∙ ap (λ (n : Network). Ok (asking_less n f)) (accepted table d said).network

pub after_removed : (table : Members) (flows : List Data) (d : Network) (from to : List ℕ) (f : Flow)
    → list_at (codes "flow") table ≡ Some flows → described_by_table table ≡ Ok d → IsAskedFlow d from to f
    → after_edit (Remove from to) table ≡ Ok (with_list (codes "flow") (filter (λ x. not (is_between from to x)) flows) table)
unfolding after_edit edited
after_removed table flows d from to f there said asked =
    let next = with_list (codes "flow") (filter (λ x. not (is_between from to x)) flows) table in
    let left = filter (λ x. not (is_between from to x)) flows in
    ap (λ (o : Option (List Data)). ok_or o NoPolicy >>= others (is_between from to) >>= (λ ds. Ok (with_list (codes "flow") ds table)) >>= if_described) there
    ∙ ap (λ b. (if b then Ok left else Err Absent) >>= (λ ds. Ok (with_list (codes "flow") ds table)) >>= if_described) (asked_listed table flows d from to f there said asked)
    ∙ ap (said_of next) (removed table flows d from to f there said asked)

-- ---- a flow without services

-- It leaves the services unchanged.
pub unnarrowed : (table : Members) (d : Network) (f : Flow) → described_by_table table ≡ Ok d → services_of d.services f.from f.to ≡ []
    → without_services d.services f ≡ d.services
unnarrowed table d f said none =
    let w = written table in
    let services : narrowed_among (network_hosts w) w.flows ≡ d.services = sym (services_listed_of w) ∙ ap (λ (n : Network). n.services) (accepted table d said).network in
    subst (λ (ns : List RestrictedFlow). without_services ns f ≡ ns) services
    (services_whole (network_hosts w) w.flows f (subst (λ (ns : List RestrictedFlow). services_of ns f.from f.to ≡ []) (sym services) none))
