-- A table with other flows: its raw description, and the network that it describes if the flows are valid.
use Rattle.std.proofs.Common.{◌≡◌, ◌≢◌, ℕ, pos, true, false, List, [], ◌∷◌, codes, Option, Some, None, Ok, option_and_then, unwrap_or, nat_cmp, is_eq, refl, sym, ap, subst, ◌∙◌}
use Rattle.std.specs.Cmp.Lexicographic.{slice_cmp}
use Rattle.std.specs.List.{All, AllPairs, AllZip, list_any}
use Rattle.std.specs.Prelude.{IsSomeAnd, IsTrue, MatchOption, is_some}
use Rattle.std.specs.Str.{bytes_eq}
use Rattle.toml.specs.Data.{Data, array, Members, get_member}
use Rattle.toml.specs.View.{items_of}
use Rattle.desc_core.specs.Description.{described_by_table}
use Rattle.desc_core.proofs.DescriptionLaws.{accepted}
use Rattle.desc_core.specs.Migrated.{with_member}
use Rattle.desc_core.proofs.MigratedLaws.{get_other, get_with, keys_with}
use Rattle.desc_core.proofs.TableFactsLaws.{described-IsRight}
use Rattle.desc_core.specs.UseConditions.{is_declared}
use Rattle.desc_core.specs.inner.UseFacts.{AreServiceTexts, HasUses}
use Rattle.desc_core.proofs.UseFactsLaws.{has_uses}
use Rattle.desc_core.specs.RawNetwork.{network_of}
use Rattle.desc_form.proofs.KeyLaws.{array_zips}
use Rattle.desc_form.specs.RawDescription.{RawDescription, written}
use Rattle.desc_form.specs.RawFlow.{RawFlow}
use Rattle.desc_form.specs.inner.RawForm.{IsAnswers, IsArray, IsFlow, IsHost, IsInteger, IsInvariant, IsTable, IsTemplate, IsRawOf, document_names}
use Rattle.desc_form.proofs.RawDescriptionLaws.{written_stands}
use Rattle.desc_form.proofs.RawUniqueLaws.{written_is}
use Rattle.desc_form.proofs.FactsLaws.{has_hosts}
use Rattle.desc_form.specs.inner.HostFacts.{HasHosts}
use Rattle.desc_form.specs.RawHosts.{network_hosts}
use Rattle.edit_core.specs.Edited.{with_list}
use Rattle.net_core.specs.Network.{Network}
use Rattle.table_core.specs.Tables.{elements, elements_of, has_only, list_at}
use Rattle.text_core.specs.Name.{is_name}

-- ---- the raw description

-- The same with other flows; the key `flow` is present.
abbrev pub with_flows : RawDescription → List RawFlow → RawDescription
with_flows w flows = record {
  version = w.version;
  answers = w.answers;
  hosts = w.hosts;
  invariants = w.invariants;
  given = true;
  flows = flows;
  templates = w.templates;
}

items_again : (ds : List Data) → elements (items_of ds) ≡ ds
items_again [] = refl
items_again (d ∷ ds) = ap (λ (rest : List Data). d ∷ rest) (items_again ds)

pub listed_again : (ds : List Data) → elements_of (array (items_of ds)) ≡ Some ds
unfolding elements_of
listed_again ds = ap (λ (es : List Data). Some es) (items_again ds)

at_other : (key : List ℕ) (d : Data) (ms : Members) (P : Option Data → Type 0) → is_eq (slice_cmp nat_cmp key (codes "flow")) ≡ false
    → P (get_member key ms) → P (get_member key (with_member (codes "flow") d ms))
at_other key d ms P differs stands = subst P (sym (get_other (codes "flow") key d ms differs)) stands

written_flows : (ms : Members) (w : RawDescription) (ds : List Data) (fs : List RawFlow) → IsRawOf ms w → AllZip IsFlow ds fs
    → (w.version ≢ pos 2 → All (λ (f : RawFlow). f.services ≡ []) fs)
    → IsRawOf (with_list (codes "flow") ds ms) (with_flows w fs)
unfolding has_only
written_flows ms w ds fs is zipped whole =
    let d = array (items_of ds) in
    let new = get_with (codes "flow") d ms in
    record {
      only = keys_with (λ k. list_any (bytes_eq k) (document_names w.version)) (codes "flow") d ms refl is.only;
      version = at_other (codes "topos") d ms (λ o. IsSomeAnd o (λ e. IsInteger e w.version)) refl is.version;
      answers = at_other (codes "answers") d ms (λ o. MatchOption o (w.answers ≡ true) (λ e. IsAnswers e w.answers)) refl is.answers;
      hosts = at_other (codes "host") d ms (λ o. IsSomeAnd o (λ e. IsArray (IsTable IsHost) e w.hosts)) refl is.hosts;
      invariants = at_other (codes "invariant") d ms (λ o. MatchOption o (w.invariants ≡ []) (λ e. IsArray (IsTable IsInvariant) e w.invariants)) refl is.invariants;
      given = sym (ap is_some new);
      flows = subst (λ (o : Option Data). MatchOption o (fs ≡ []) (λ e. IsArray IsFlow e fs)) (sym new)
          (items_of ds, refl, subst (λ (es : List Data). AllZip IsFlow es fs) (sym (items_again ds)) zipped);
      whole = whole;
      templates = at_other (codes "template") d ms (λ o. MatchOption o (w.templates ≡ []) (λ e. IsArray (IsTable IsTemplate) e w.templates)) refl is.templates;
    }

-- ---- valid flows

-- Flows that a description may list.
pub record AreRightFlows (w : RawDescription) (fs : List RawFlow) : Type 0 where
  pub whole : w.version ≢ pos 2 → All (λ (f : RawFlow). f.services ≡ []) fs
  pub named : All (λ (f : RawFlow). IsTrue (is_name f.from) × IsTrue (is_name f.to)) fs
  pub joined : All (λ (f : RawFlow). IsTrue (is_declared w f.from) × IsTrue (is_declared w f.to)) fs
  pub apart : All (λ (f : RawFlow). f.from ≢ f.to) fs
  pub different : AllPairs (λ (f g : RawFlow). f.from ≡ g.from → f.to ≡ g.to → ⊥) fs
  pub services : All (λ (f : RawFlow). AreServiceTexts f.services) fs

-- The raw description of a table that describes a network and lists these flows.
pub record IsListing (table : Members) (flows : List Data) (w : RawDescription) : Type 0 where
  pub is_written : IsRawOf table w
  pub hosts : HasHosts w
  pub uses : HasUses w
  pub zipped : AllZip IsFlow flows w.flows
  pub given : w.given ≡ true

given_where : (o : Option Data) (ds : List Data) → option_and_then elements_of o ≡ Some ds → is_some o ≡ true
given_where None ds is = cc
given_where (Some d) ds is = refl

-- The flows of the table.
zipped_where : (ms : Members) (w : RawDescription) (ds : List Data) → list_at (codes "flow") ms ≡ Some ds → IsRawOf ms w → AllZip IsFlow ds w.flows
unfolding list_at
zipped_where ms w ds there is =
    subst (λ (o : Option (List Data)). AllZip IsFlow (unwrap_or o []) w.flows) there
    (array_zips IsFlow (get_member (codes "flow") ms) w.flows is.flows)

list_given : (ms : Members) (w : RawDescription) (ds : List Data) → list_at (codes "flow") ms ≡ Some ds → IsRawOf ms w → w.given ≡ true
unfolding list_at
list_given ms w ds there is = is.given ∙ given_where (get_member (codes "flow") ms) ds there

pub listing : (table : Members) (flows : List Data) (d : Network) → list_at (codes "flow") table ≡ Some flows → described_by_table table ≡ Ok d
    → IsListing table flows (written table)
listing table flows d there said =
    let none = accepted table d said in
    let is = written_stands table none.form in
    record {
      is_written = is;
      hosts = (has_hosts (written table)).0 none.hosts;
      uses = (has_uses (written table)).0 none.uses;
      zipped = zipped_where table (written table) flows there is;
      given = list_given table (written table) flows there is;
    }

-- Its flows are valid.
pub own_flows : (table : Members) (flows : List Data) (w : RawDescription) → IsListing table flows w → AreRightFlows w w.flows
own_flows table flows w listing = record {
  whole = listing.is_written.whole;
  named = listing.hosts.flow_names;
  joined = listing.uses.joined;
  apart = listing.uses.apart;
  different = listing.uses.different;
  services = listing.uses.services;
}

hosts_with : (w : RawDescription) (fs : List RawFlow) → HasHosts w → AreRightFlows w fs → HasHosts (with_flows w fs)
hosts_with w fs hosts right = record {
  version = hosts.version;
  few_hosts = hosts.few_hosts;
  few_prefixes = hosts.few_prefixes;
  few_invariants = hosts.few_invariants;
  few_templates = hosts.few_templates;
  host_names = hosts.host_names;
  assign_names = hosts.assign_names;
  flow_names = right.named;
  distinct = hosts.distinct;
  prefixes = hosts.prefixes;
  exact = hosts.exact;
  addressed = hosts.addressed;
  one_rest = hosts.one_rest;
  apart = hosts.apart;
}

uses_with : (w : RawDescription) (fs : List RawFlow) → HasUses w → AreRightFlows w fs → HasUses (with_flows w fs)
unfolding network_hosts
uses_with w fs uses right = record {
  templates = uses.templates;
  assigned = uses.assigned;
  joined = right.joined;
  once = uses.once;
  attributes = uses.attributes;
  apart = right.apart;
  different = right.different;
  services = right.services;
  declared = uses.declared;
  distinct = uses.distinct;
  lawful = uses.lawful;
}

-- The table with other flows describes the network with these flows, if they are valid.
pub described_with : (table : Members) (flows : List Data) (w : RawDescription) (ds : List Data) (fs : List RawFlow) → IsListing table flows w
    → AllZip IsFlow ds fs → AreRightFlows w fs → described_by_table (with_list (codes "flow") ds table) ≡ Ok (network_of (with_flows w fs))
described_with table flows w ds fs listing zipped right =
    let next = with_list (codes "flow") ds table in
    let is = written_flows table w ds fs listing.is_written zipped right.whole in
    described-IsRight next (record {
      w = with_flows w fs;
      written = is;
      hosts = hosts_with w fs listing.hosts right;
      uses = uses_with w fs listing.uses right;
    }) ∙ ap (λ (v : RawDescription). Ok (network_of v)) (sym (written_is next (with_flows w fs) is))
