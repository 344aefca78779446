-- The dependability template: a bound on the number of other hosts that a host depends on. A host depends on the hosts that it reaches,
-- never on itself. Based on the theory SINVAR_Dependability_norefl of Network_Security_Policy_Verification in the Archive of Formal Proofs.
use Rattle.std.specs.Prelude.{ℕ, ◌<◌, List, length, slice_index, codes}
use Rattle.flow_set.specs.declared.flow.Flow.{Flow}
use Rattle.inv_law.specs.Template.{AnyAttribute, Template, walk_template}
use Rattle.inv_law.specs.declared.strategy.Strategy.TheVariants.{Access}
use Rattle.reach_core.specs.Walks.{ReachesAtMost}

-- No host reaches more other hosts than its limit.
abbrev pub IsDependable : List ℕ → List Flow → Type 0
IsDependable limits e = (host : ℕ) → host < length limits → ReachesAtMost e host (slice_index limits host)

-- The template `dependability`.
abbrev pub dependability : Template
dependability = walk_template (codes "dependability") Access (λ n host. AnyAttribute) (λ n host. 0) IsDependable
