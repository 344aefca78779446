-- The contract of the code of `local` after its description is parsed. No promise of `run` depends on it.
use Rattle.std.specs.Prelude.{ℕ, List, ◌++◌, codes}
use Rattle.net_core.specs.Network.{Network}
use Rattle.run_core.specs.CommandPlan.{CommandPlan, ends, reads}
use Rattle.run_core.specs.FileFormats.{description}
use Rattle.run_core.specs.Outcomes.{Outcomes}
use Rattle.topos_top.specs.Local.{LocalDialect, local_chains, local_outcomes, local_table, machines_when}
use Rattle.topos_top.specs.declared.local.LocalDialect.{LocalDialect as CodeDialect}
use Rattle.topos_top.specs.declared.local.LocalDialect.TheVariants.{Chains, Table}
use Rattle.run_core.specs.Reply.{not_emittable}

-- The definition of each dialect of the code.
abbrev pub local_dialect_of : CodeDialect → LocalDialect
local_dialect_of Chains = local_chains
local_dialect_of Table = local_table

-- The plan of the command in a dialect.
abbrev pub local_plan : LocalDialect → (file host : List ℕ) → CommandPlan
local_plan dialect file host = reads description file (λ d. ends (local_outcomes dialect d host))

-- The rules or the line, whether or not a policy was listed.
abbrev pub machines_outcomes : LocalDialect → Network → (host : List ℕ) → Outcomes
machines_outcomes dialect d host = machines_when (Unit {0}) dialect d host

-- The line for the rest host.
abbrev pub rest_host_line : (host : List ℕ) → List ℕ
rest_host_line host = not_emittable (host ++ codes " is the rest host\n")
