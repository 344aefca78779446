-- The result of the search for a topological order of the chains.
use Rattle.std.specs.Prelude.{ℕ, List, Option, Some, None}
use Rattle.ipt_rules.specs.Chain.{Chain}
use Rattle.ipt_rules.specs.Loops.{IsAcyclic, IsFirstOnCycle}
use Rattle.ipt_rules.specs.inner.Ranks.{HasTopologicalOrder}

-- An order of all chains, if no chain is on a cycle, or the least chain that is on a cycle.
abbrev pub IsRanked : List Chain → Option ℕ → Type 0
IsRanked chains None = HasTopologicalOrder chains × IsAcyclic chains
IsRanked chains (Some c) = IsFirstOnCycle chains c
