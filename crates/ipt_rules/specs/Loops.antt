-- Cycles of jumps: paths along the jumps of chains, regardless of which packets the rules match.
use Rattle.std.specs.Prelude.{◌≡◌, ℕ, ◌≤◌, List, [], ◌∷◌, Option, Some, None, Contains}
use Rattle.std.specs.List.{filter_map}
use Rattle.ipt_rules.specs.declared.rule.Rule.{Rule}
use Rattle.ipt_rules.specs.declared.rule.Target.{Target}
use Rattle.ipt_rules.specs.declared.rule.Target.TheVariants.{Jump}
use Rattle.ipt_rules.specs.Chain.{Chain, rules_of}

-- The chain that a target jumps to.
abbrev pub jump_of : Target → Option ℕ
jump_of (Jump d) = Some d
jump_of _ = None

-- The chains that rules jump to, in the order of the rules.
abbrev pub jumps_of : List Rule → List ℕ
jumps_of rules = filter_map (λ r. jump_of r.target) rules

-- The chains that chain c jumps to.
abbrev pub jumps_from : List Chain → ℕ → List ℕ
jumps_from chains c = jumps_of (rules_of chains c)

-- Jumps to the numbers of the list, in order, lead from c to d. `next` has the numbers that each number jumps to.
abbrev pub LeadsAlong : (ℕ → List ℕ) → ℕ → List ℕ → ℕ → Type 0
LeadsAlong next c [] d = c ≡ d
LeadsAlong next c (x ∷ xs) d = Contains (next c) x × LeadsAlong next x xs d

-- A path of one jump or more leads from c to d.
abbrev pub Leads : (ℕ → List ℕ) → ℕ → ℕ → Type 0
Leads next c d = (x : ℕ) × (xs : List ℕ) × LeadsAlong next c (x ∷ xs) d

-- Chain c is on a cycle: a path of jumps leads from chain c back to it.
abbrev pub IsOnCycle : List Chain → ℕ → Type 0
IsOnCycle chains c = Leads (jumps_from chains) c c

-- No chain is on a cycle.
abbrev pub IsAcyclic : List Chain → Type 0
IsAcyclic chains = (c : ℕ) → IsOnCycle chains c → ⊥

-- Chain c is the least chain that is on a cycle.
pub record IsFirstOnCycle (chains : List Chain) (c : ℕ) : Type 0 where
  pub back : IsOnCycle chains c
  pub least : (d : ℕ) → IsOnCycle chains d → c ≤ d
