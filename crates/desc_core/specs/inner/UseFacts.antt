-- A direct characterization of the raw descriptions that no condition from 15 on refuses: their templates, the hosts of assigns and of
-- flows, the attributes, the services of flows, and the declared templates (the description's format, docs/FORMATS.md).
use Rattle.std.specs.Prelude.{◌≡◌, ◌≢◌, ◌≤◌, ℕ, List, length, Some, None, is_some, IsTrue}
use Rattle.std.specs.List.{All, AllPairs}
use Rattle.desc_core.specs.Choices.{bad_of, chosen}
use Rattle.desc_core.specs.inner.TemplateFacts.{HasPartner, IsTemplate}
use Rattle.desc_form.specs.RawTemplate.{RawTemplate}
use Rattle.desc_core.specs.UseConditions.{is_declared}
use Rattle.desc_core.specs.RawNetwork.{Known, known_of}
use Rattle.desc_form.specs.RawDescription.{RawDescription, RawInvariant}
use Rattle.desc_form.specs.RawHosts.{network_hosts}
use Rattle.host_net.specs.Host.{Host}
use Rattle.host_net.specs.Services.{service_limit}
use Rattle.host_net.specs.ServiceText.{service_of}

-- Each assign of the invariant specifies an attribute of its template.
abbrev pub SaysAttributes : List RawTemplate → List Host → RawInvariant → Type 0
SaysAttributes templates hosts i = (k : Known) → known_of templates hosts i ≡ Some k → bad_of hosts k.template k.assigns ≡ None

-- The strings after the names of a flow: each denotes a service, and they are within the limit.
pub record AreServiceTexts (texts : List (List ℕ)) : Type 0 where
  pub denoted : All (λ text. IsTrue (is_some (service_of text))) texts
  pub few : length texts ≤ service_limit

pub record HasUses (w : RawDescription) : Type 0 where
  pub templates : All (λ i. IsTrue (is_some (chosen w.templates i.template))) w.invariants
  pub assigned : All (λ i. All (λ a. IsTrue (is_declared w a.host)) i.assigns) w.invariants
  pub joined : All (λ f. IsTrue (is_declared w f.from) × IsTrue (is_declared w f.to)) w.flows
  pub once : All (λ i. AllPairs (λ a b. a.host ≢ b.host) i.assigns) w.invariants
  pub attributes : All (SaysAttributes w.templates (network_hosts w)) w.invariants
  pub apart : All (λ f. f.from ≢ f.to) w.flows
  pub different : AllPairs (λ f g. f.from ≡ g.from → f.to ≡ g.to → ⊥) w.flows
  pub services : All (λ f. AreServiceTexts f.services) w.flows
  pub declared : All IsTemplate w.templates
  pub distinct : AllPairs (λ t u. t.name ≢ u.name) w.templates
  pub lawful : All (λ t. All (HasPartner t) t.deny) w.templates
