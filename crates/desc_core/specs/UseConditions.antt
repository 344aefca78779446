-- The refusals of a description from 15 on: its invariants, their assigns, its flows and their services, and its templates (TemplateConditions;
-- the description's format, docs/FORMATS.md).
use Rattle.std.specs.Prelude.{ℕ, ◌+◌, Bool, not, ◌&&◌, nat_lt, List, [], ◌∷◌, ◌++◌, length, find, Option, option_map, is_none}
use Rattle.std.specs.List.{list_any}
use Rattle.std.specs.Str.{bytes_eq}
use Rattle.desc_core.specs.Choices.{bad_of, chosen}
use Rattle.desc_core.specs.TemplateConditions.{template_conditions}
use Rattle.desc_form.specs.RawTemplate.{RawTemplate}
use Rattle.desc_form.specs.declared.refusal.Place.TheVariants.{Invariant, Assign, FlowAt}
use Rattle.desc_form.specs.declared.refusal.Refusal.{Refusal}
use Rattle.desc_form.specs.declared.refusal.Why.TheVariants.{UnknownTemplate, UndeclaredHost, DuplicateAssign, BadAttribute, SelfFlow, DuplicateFlow, BadService, ManyServices}
use Rattle.text_core.specs.FirstMatch.{first_found, numbered, Numbered}
use Rattle.desc_form.specs.Mentions.{used_names}
use Rattle.desc_core.specs.RawNetwork.{Known, known_of}
use Rattle.desc_form.specs.RawHosts.{network_hosts}
use Rattle.desc_form.specs.Refusals.{barred_at, first_at, refused, refused_item}
use Rattle.desc_form.specs.RawDescription.{RawDescription, RawInvariant}
use Rattle.desc_form.specs.RawFlow.{RawFlow}
use Rattle.host_net.specs.Host.{Host}
use Rattle.host_net.specs.Services.{service_limit}
use Rattle.host_net.specs.ServiceText.{service_of}
use Rattle.text_core.specs.Steps.{◌>>=◌}

-- 15: the name is neither that of a template nor that of a declared one.
abbrev pub unknown_template : List RawTemplate → List RawInvariant → Option Refusal
unknown_template templates is = first_at UnknownTemplate Invariant (λ i. is_none (chosen templates i.template)) is

-- A host of the description has the name.
abbrev pub is_declared : RawDescription → List ℕ → Bool
is_declared w name = list_any (λ h. bytes_eq name h.name) w.hosts

-- 16: a name in an assign, then in a flow, is not the name of a host.
unfoldable pub undeclared_host : RawDescription → Option Refusal
undeclared_host w =
    option_map (λ m. record (refused_item UndeclaredHost m.place m.item) { name = m.name }) (find (λ m. not (is_declared w m.name)) (used_names w))

-- An invariant is refused at its first assign with the host of an earlier one.
abbrev pub duplicate_assign_of : Numbered RawInvariant → Option Refusal
duplicate_assign_of i = barred_at DuplicateAssign (Assign i.number) (λ a b. bytes_eq a.host b.host) i.what.assigns

-- 17: an assign has the host of an earlier one of the same invariant.
abbrev pub duplicate_assign : List RawInvariant → Option Refusal
duplicate_assign is = first_found duplicate_assign_of (numbered is)

-- An invariant is refused at its first assign that specifies no attribute.
abbrev pub bad_at : List Host → ℕ → Known → Option Refusal
bad_at hosts number known =
    option_map (λ assign. refused BadAttribute (Assign number (assign + 1))) (bad_of hosts known.template known.assigns)

-- The same for a raw invariant, if its names are known.
abbrev pub bad_attribute_of : List RawTemplate → List Host → Numbered RawInvariant → Option Refusal
bad_attribute_of templates hosts i = known_of templates hosts i.what >>= bad_at hosts i.number

-- 18: the table of an assign specifies no attribute of the template.
unfoldable pub bad_attribute : RawDescription → Option Refusal
bad_attribute w = first_found (bad_attribute_of w.templates (network_hosts w)) (numbered w.invariants)

-- 19: both names of a flow are equal.
abbrev pub self_flow : List RawFlow → Option Refusal
self_flow fs = first_at SelfFlow FlowAt (λ f. bytes_eq f.from f.to) fs

-- Two flows have the same names.
abbrev pub same_names : RawFlow → RawFlow → Bool
same_names f g = bytes_eq f.from g.from && bytes_eq f.to g.to

-- 20: a flow is listed twice, regardless of its services.
abbrev pub duplicate_flow : List RawFlow → Option Refusal
duplicate_flow fs = barred_at DuplicateFlow FlowAt same_names fs

-- A flow is refused at its first string that denotes no service. The first string after its two names is item 3.
abbrev pub bad_service_of : Numbered RawFlow → Option Refusal
bad_service_of f =
    option_map (λ s. refused_item BadService (FlowAt f.number) (s.number + 2)) (find (λ s. is_none (service_of s.what)) (numbered f.what.services))

-- 21: a string after the names of a flow denotes no service.
abbrev pub bad_service : List RawFlow → Option Refusal
bad_service fs = first_found bad_service_of (numbered fs)

-- The flow has more services than the limit.
abbrev pub has_many_services : RawFlow → Bool
has_many_services f = nat_lt service_limit (length f.services)

-- 22: a flow has more services than the limit.
abbrev pub many_services : List RawFlow → Option Refusal
many_services fs = first_at ManyServices FlowAt has_many_services fs

-- The conditions in groups, each in the order of their numbers. 15 and 16: the names of templates and of hosts.
abbrev pub name_conditions : RawDescription → List (Option Refusal)
name_conditions w = unknown_template w.templates w.invariants ∷ undeclared_host w ∷ []

-- 17 and 18: the assigns.
abbrev pub assign_conditions : RawDescription → List (Option Refusal)
assign_conditions w = duplicate_assign w.invariants ∷ bad_attribute w ∷ []

-- 19 and 20: the hosts of flows.
abbrev pub flow_conditions : List RawFlow → List (Option Refusal)
flow_conditions fs = self_flow fs ∷ duplicate_flow fs ∷ []

-- 21 and 22: the services of flows.
abbrev pub service_conditions : List RawFlow → List (Option Refusal)
service_conditions fs = bad_service fs ∷ many_services fs ∷ []

-- All of them, from 15 on.
unfoldable pub use_conditions : RawDescription → List (Option Refusal)
use_conditions w =
    name_conditions w ++ (assign_conditions w ++ (flow_conditions w.flows ++ (service_conditions w.flows ++ template_conditions w.templates)))
