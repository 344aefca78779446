-- The non-interference template: hosts that must not learn of each other. Two hosts are joined by any walk between them, regardless of the
-- direction of its flows. After the entry Network_Security_Policy_Verification of the Archive of Formal Proofs.
use Rattle.std.specs.Prelude.{◌≡◌, ◌≢◌, ℕ, List, slice_index_or, codes}
use Rattle.flow_set.specs.declared.flow.Flow.{Flow}
use Rattle.inv_law.specs.Template.{AnyAttribute, Template, walk_template}
use Rattle.inv_law.specs.declared.strategy.Strategy.TheVariants.{Information}
use Rattle.reach_core.specs.Walks.{Joined}
use Rattle.tmpl_reach.specs.declared.non_interference.Interference.{Interference}
use Rattle.tmpl_reach.specs.declared.non_interference.Interference.TheVariants.{Interfering, Unrelated}

-- The host is one of the interfering hosts.
abbrev pub IsInterfering : List Interference → ℕ → Type 0
IsInterfering hosts i = slice_index_or hosts i Unrelated ≡ Interfering

-- No interfering host is joined with another.
abbrev pub IsNonInterfering : List Interference → List Flow → Type 0
IsNonInterfering hosts e = (i : ℕ) → IsInterfering hosts i → (j : ℕ) → i ≢ j → IsInterfering hosts j → Joined e i j → ⊥

-- The template `noninterference`.
abbrev pub non_interference : Template
non_interference = walk_template (codes "noninterference") Information (λ n host. AnyAttribute) (λ n host. Interfering) IsNonInterfering
