-- A direct characterization of the raw descriptions that none of conditions 6 to 14 refuses: their version, their sizes, their names, their
-- hosts and their prefixes (the description's format, docs/FORMATS.md).
use Rattle.std.specs.Prelude.{◌≡◌, ◌≢◌, ◌↔◌, ◌⊎◌, ◌≤◌, ◌<◌, ℕ, pos, true, IsTrue, List, [], length, flat_map, Some}
use Rattle.std.specs.List.{All, AllPairs}
use Rattle.desc_form.specs.RawDescription.{RawDescription, RawHost}
use Rattle.desc_form.specs.HostConditions.{template_limit}
use Rattle.host_net.specs.Limits.{host_limit, invariant_limit, prefix_limit}
use Rattle.host_net.specs.inner.PrefixView.{ShareAddress}
use Rattle.host_net.specs.Prefix.{is_exact, prefix_of}
use Rattle.host_net.specs.declared.prefix.Prefix.{Prefix}
use Rattle.text_core.specs.Name.{is_name}

-- The entries of all hosts, in order.
abbrev pub texts : List RawHost → List (List ℕ)
texts hs = flat_map (λ h. h.at) hs

-- The entry is a prefix of at least one bit.
abbrev pub SaysPrefix : List ℕ → Type 0
SaysPrefix text = (p : Prefix) × (prefix_of text ≡ Some p) × (0 < p.len)

-- No bits of the entry's prefix are set after its length.
abbrev pub SaysExact : List ℕ → Type 0
SaysExact text = (p : Prefix) → prefix_of text ≡ Some p → IsTrue (is_exact p)

-- The prefixes of two entries are disjoint.
abbrev pub AreApart : List ℕ → List ℕ → Type 0
AreApart text other = (p q : Prefix) → prefix_of text ≡ Some p → prefix_of other ≡ Some q → ShareAddress p q → ⊥

-- The host has the rest mark if and only if it has no entry.
abbrev pub HasAddress : RawHost → Type 0
HasAddress h = (h.rest ≡ true) ↔ (h.at ≡ [])

pub record HasHosts (w : RawDescription) : Type 0 where
  pub version : (w.version ≡ pos 1) ⊎ (w.version ≡ pos 2)
  pub few_hosts : length w.hosts ≤ host_limit
  pub few_prefixes : length (texts w.hosts) ≤ prefix_limit
  pub few_invariants : length w.invariants ≤ invariant_limit
  pub few_templates : length w.templates ≤ template_limit
  pub host_names : All (λ h. IsTrue (is_name h.name)) w.hosts
  pub assign_names : All (λ i. All (λ a. IsTrue (is_name a.host)) i.assigns) w.invariants
  pub flow_names : All (λ f. IsTrue (is_name f.from) × IsTrue (is_name f.to)) w.flows
  pub distinct : AllPairs (λ h g. h.name ≢ g.name) w.hosts
  pub prefixes : All SaysPrefix (texts w.hosts)
  pub exact : All SaysExact (texts w.hosts)
  pub addressed : All HasAddress w.hosts
  pub one_rest : AllPairs (λ h g. h.rest ≡ true → g.rest ≡ true → ⊥) w.hosts
  pub apart : AllPairs AreApart (texts w.hosts)
