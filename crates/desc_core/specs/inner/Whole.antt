-- Completeness: nothing of a description is ignored. Its hosts, invariants, flows and services correspond to those of the network, one to
-- one.
use Rattle.std.specs.Prelude.{◌≡◌, ◌==◌, ℕ, Bool, true, false, not, List, length, Some, None, IsTrue}
use Rattle.std.specs.List.{All, AllZip, filter}
use Rattle.toml.specs.Data.{Members}
use Rattle.desc_core.specs.Document.{document}
use Rattle.desc_core.specs.Flows.{flow_of_names}
use Rattle.net_core.specs.Network.{Network}
use Rattle.attr_core.specs.Assigns.{Given}
use Rattle.attr_core.specs.Forms.{attributes_in, bad_assign}
use Rattle.desc_core.specs.Choices.{Choice, choice_form, chosen, declared_table}
use Rattle.tmpl_table.specs.KindTable.{is_lawful}
use Rattle.desc_form.specs.RawTemplate.{RawTemplate}
use Rattle.desc_core.specs.RawNetwork.{given_by}
use Rattle.inv_any.specs.declared.any_inv.AnyInv.{AnyInv}
use Rattle.table_core.specs.Listing.{each}
use Rattle.desc_form.specs.RawDescription.{RawDescription, RawHost, RawInvariant}
use Rattle.desc_form.specs.RawFlow.{RawFlow}
use Rattle.desc_form.specs.inner.RawForm.{IsRawOf}
use Rattle.flow_set.specs.FlowSet.{has, IsFull}
use Rattle.flow_set.specs.declared.flow.Flow.{Flow}
use Rattle.host_net.specs.Host.{Host}
use Rattle.host_net.specs.Prefix.{prefix_of}
use Rattle.host_net.specs.Services.{RestrictedFlow}
use Rattle.host_net.specs.inner.ServiceText.{IsServiceSpelling}

-- The host corresponds to the raw host, and each of its entries is a prefix.
pub record IsHostOf (h : RawHost) (host : Host) : Type 0 where
  pub name : host.name ≡ h.name
  pub prefixes : AllZip (λ text prefix. prefix_of text ≡ Some prefix) h.at host.prefixes
  pub rest : host.rest ≡ h.rest

-- The set has one flow for each pair of names, from the host of the first to the host of the second, and no other flow.
pub record IsSetOf (hosts : List Host) (pairs : List RawFlow) (asked : List Flow) : Type 0 where
  pub flows : List Flow
  pub each : AllZip (λ names flow. flow_of_names hosts names ≡ Some flow) pairs flows
  pub same : (f : Flow) → has asked f ≡ has flows f
  pub count : length asked ≡ length pairs

-- The flow has services after its names.
abbrev pub is_narrowed : RawFlow → Bool
is_narrowed f = not (length f.services == 0)

-- The flow between the hosts of the names is restricted to the services that its strings denote, one to one.
pub record IsNarrowedOf (hosts : List Host) (f : RawFlow) (narrowed : RestrictedFlow) : Type 0 where
  pub flow : flow_of_names hosts f ≡ Some (record { from = narrowed.from; to = narrowed.to })
  pub services : AllZip IsServiceSpelling f.services narrowed.services

-- The invariant has the raw template, one of the ten or a declared one; each of its assigns has a declared host and specifies an attribute;
-- and each host has the attribute of the last assign for it, or the default.
pub record IsInvariantOf (templates : List RawTemplate) (hosts : List Host) (i : RawInvariant) (invariant : AnyInv) : Type 0 where
  pub template : Choice
  pub named : chosen templates i.template ≡ Some template
  pub assigns : List Given
  pub given : each (given_by hosts) i.assigns ≡ Some assigns
  pub good : bad_assign (choice_form template) hosts assigns ≡ None
  pub made : invariant ≡ (choice_form template).make (attributes_in (choice_form template) hosts assigns)

-- The network contains everything of the raw description, in the same order. If the key `flow` is absent, every flow is requested. Exactly
-- the flows with services are restricted. The declared templates are lawful, so each denies the pairs that it lists.
pub record IsWhole (w : RawDescription) (d : Network) : Type 0 where
  pub hosts : AllZip IsHostOf w.hosts d.hosts
  pub invariants : AllZip (IsInvariantOf w.templates d.hosts) w.invariants d.invariants
  pub given : d.given ≡ w.given
  pub answers : d.answers ≡ w.answers
  pub sized : d.asked.size ≡ length d.hosts
  pub listed : w.given ≡ true → IsSetOf d.hosts w.flows d.asked.flows
  pub every : w.given ≡ false → IsFull (length d.hosts) d.asked.flows
  pub services : AllZip (IsNarrowedOf d.hosts) (filter is_narrowed w.flows) d.services
  pub lawful : All (λ t. IsTrue (is_lawful (declared_table t))) w.templates

-- w is the complete raw description of the table, and the network contains all of w.
pub record IsDescribedByTable (table : Members) (d : Network) : Type 0 where
  pub w : RawDescription
  pub written : IsRawOf table w
  pub whole : IsWhole w d

-- The bytes are a document, and its table describes the network.
pub record IsDescribed (bytes : List ℕ) (d : Network) : Type 0 where
  pub table : Members
  pub document : document bytes ≡ Some table
  pub described : IsDescribedByTable table d
