-- The domain hierarchy template: a host sends to its own position and to all positions below it; its trust lets it act as if it were
-- higher. A host without a position receives from all, and sends only to hosts without one. Based on the theory SINVAR_DomainHierarchyNG of
-- Network_Security_Policy_Verification in the Archive of Formal Proofs, with the rule of docs/FORMATS.md.
use Rattle.std.specs.Prelude.{ℕ, ◌-◌, ◌≤◌, List, length, take, IfSome, IsTrue, Option, Some, None, codes}
use Rattle.inv_law.specs.Template.{Template, edge_template}
use Rattle.inv_law.specs.declared.strategy.Strategy.TheVariants.{Access}
use Rattle.tmpl_domains.specs.Path.{IsPrefix, are_names}

-- A position in the hierarchy, and the trust of a host there.
pub record Place : Type 0 where
  pub path : List (List ℕ)
  pub trust : ℕ

-- A position that a host may have. The empty path, which no description can specify, is above all others.
pub record IsPlace (place : Place) : Type 0 where
  pub path : IsTrue (are_names place.path)
  pub trust : place.trust ≤ 16

-- The path without its last `trust` segments; the empty path if the trust exceeds the number of segments.
abbrev pub trusted_path : Place → List (List ℕ)
trusted_path place = take (length place.path - place.trust) place.path

-- A flow passes, by the positions of its sender and its receiver. `None` is a host without a position.
abbrev pub DomainsPass : Option Place → Option Place → Type 0
DomainsPass sender None = Unit {0}
DomainsPass None (Some receiver) = ⊥
DomainsPass (Some sender) (Some receiver) = IsPrefix (trusted_path sender) receiver.path

-- The template `domains`.
abbrev pub domains : Template
domains = edge_template (codes "domains") Access (λ place. IfSome place IsPlace) None DomainsPass
