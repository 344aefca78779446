-- Jumps to user chains.
use Rattle.std.specs.Prelude.{◌≤◌, ◌<◌, ℕ, List, [], ◌∷◌}
use Rattle.ipt_rules.specs.declared.rule.Rule.{Rule}
use Rattle.ipt_rules.specs.declared.rule.Target.{Target}
use Rattle.ipt_rules.specs.declared.rule.Target.TheVariants.{Jump}
use Rattle.ipt_rules.specs.Chain.{Chain}

-- A jump leads to a user chain below the number of chains.
abbrev pub Goes : ℕ → Target → Type 0
Goes count (Jump c) = (3 ≤ c) × (c < count)
Goes count _ = Unit {0}

abbrev pub AllGo : ℕ → List Rule → Type 0
AllGo count [] = Unit {0}
AllGo count (r ∷ rs) = Goes count r.target × AllGo count rs

-- The jumps of all chains lead to user chains.
abbrev pub EachGoes : ℕ → List Chain → Type 0
EachGoes count [] = Unit {0}
EachGoes count (x ∷ xs) = AllGo count x.rules × EachGoes count xs
