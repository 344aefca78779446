-- Invariants of every network that is described.
use Rattle.std.proofs.Common.{◌≡◌, ℕ, ◌≤◌, Bool, true, false, List, [], ◌∷◌, length, Option, Some, None, option_map, Ok, sym, subst, arith}
use Rattle.std.proofs.lemmas.List.Elements.{All-from_recursion}
use Rattle.std.specs.List.{AllByRecursion, cons_option, filter_map}
use Rattle.std.specs.Prelude.{if◌then◌else◌}
use Rattle.toml.specs.Data.{Members}
use Rattle.desc_core.specs.Description.{described, described_by_table}
use Rattle.desc_core.proofs.DescriptionLaws.{accepted, table_of_bytes}
use Rattle.flow_set.proofs.EveryFlowLaws.{IsFlowSet-every_flow}
use Rattle.desc_core.specs.Flows.{flow_of_names}
use Rattle.flow_set.specs.FlowSet.{set_of}
use Rattle.desc_core.proofs.FlowsLaws.{are_between}
use Rattle.desc_core.proofs.NarrowedLaws.{AreServices-services_in}
use Rattle.desc_core.specs.UseConditions.{use_conditions}
use Rattle.desc_core.proofs.UseFactsLaws.{PassesUses-uses}
use Rattle.flow_set.proofs.ListedLaws.{IsFlowSet-set_of}
use Rattle.net_core.specs.Network.{Network}
use Rattle.net_core.specs.inner.Fitting.{IsNetwork}
use Rattle.desc_core.specs.RawNetwork.{Known, asked_of, invariant_of, invariants_of, known_of, made_of, network_of}
use Rattle.flow_set.specs.EveryFlow.{every_flow}
use Rattle.desc_core.proofs.ChoiceLaws.{made_sized}
use Rattle.desc_form.specs.RawTemplate.{RawTemplate}
use Rattle.text_core.specs.FirstMatch.{first_of}
use Rattle.desc_form.specs.RawDescription.{RawDescription, RawInvariant, written}
use Rattle.desc_form.proofs.EntriesLaws.{no_longer}
use Rattle.desc_form.specs.HostConditions.{host_conditions}
use Rattle.desc_form.proofs.FactsLaws.{has_hosts}
use Rattle.desc_form.proofs.HostsLaws.{IsHosts-network_hosts, length-network_hosts}
use Rattle.desc_form.specs.RawHosts.{network_hosts}
use Rattle.host_net.specs.Host.{Host}
use Rattle.flow_set.specs.inner.FlowSetView.{IsFlowSet}
use Rattle.inv_any.specs.Templates.{meaning_of}
use Rattle.inv_any.specs.declared.any_inv.AnyInv.{AnyInv}

asked_by : (w : RawDescription) (given : Bool) → length w.hosts ≤ 256
    → IsFlowSet (length w.hosts) (if given then set_of (filter_map (flow_of_names (network_hosts w)) w.flows) else every_flow (length w.hosts))
asked_by w true few =
    IsFlowSet-set_of (length w.hosts) (filter_map (flow_of_names (network_hosts w)) w.flows) few (λ f listed. rw (← length-network_hosts w) (are_between (network_hosts w) w.flows f listed))
asked_by w false few = IsFlowSet-every_flow (length w.hosts) few

-- Each invariant has an attribute for each host.
sized_by : (hosts : List Host) (o : Option Known) (invs : List AnyInv)
    → AllByRecursion (λ (inv : AnyInv). (meaning_of inv).size ≡ length hosts) invs
    → AllByRecursion (λ (inv : AnyInv). (meaning_of inv).size ≡ length hosts) (cons_option (option_map (made_of hosts) o) invs)
sized_by hosts None invs behind = behind
sized_by hosts (Some k) invs behind = (made_sized hosts k.template k.assigns, behind)

sized_all : (ts : List RawTemplate) (hosts : List Host) (is : List RawInvariant)
    → AllByRecursion (λ (inv : AnyInv). (meaning_of inv).size ≡ length hosts) (filter_map (invariant_of ts hosts) is)
sized_all ts hosts [] = tt
sized_all ts hosts (i ∷ is) = sized_by hosts (known_of ts hosts i) (filter_map (invariant_of ts hosts) is) (sized_all ts hosts is)

pub IsNetwork-network_of : (w : RawDescription) → first_of (host_conditions w) ≡ None → first_of (use_conditions w) ≡ None → IsNetwork (network_of w)
unfolding network_of asked_of invariants_of
IsNetwork-network_of w free no_use =
    let small = (has_hosts w).0 free in
    record {
      hosts = IsHosts-network_hosts w free;
      sized = sym (length-network_hosts w);
      asked = asked_by w w.given (omega (arith, small.few_hosts));
      services = AreServices-services_in w (PassesUses-uses w no_use);
      invariants = All-from_recursion (λ (inv : AnyInv). (meaning_of inv).size ≡ length (network_hosts w)) (invariants_of w) (sized_all w.templates (network_hosts w) w.invariants);
      few = omega (arith, small.few_invariants, no_longer {A = RawInvariant} {B = AnyInv});
    }

pub IsNetwork-table : (table : Members) (d : Network) → described_by_table table ≡ Ok d → IsNetwork d
IsNetwork-table table d is =
    let whole = accepted table d is in
    subst IsNetwork whole.network (IsNetwork-network_of (written table) whole.hosts whole.uses)

pub IsNetwork-described : (bytes : List ℕ) (d : Network) → described bytes ≡ Ok d → IsNetwork d
IsNetwork-described bytes d is = let read = table_of_bytes bytes d is in IsNetwork-table read.table d read.says
