-- The number of the first rule of each chain among the rules of all chains.
use Rattle.std.specs.Prelude.{ℕ, ◌+◌, List, [], ◌∷◌, length}
use Rattle.ipt_rules.specs.Chain.{Chain}

-- The number of the first rule of each chain among the rules of all chains, if `before` rules precede them.
abbrev pub starts_from : ℕ → List Chain → List ℕ
starts_from before [] = []
starts_from before (x ∷ xs) = before ∷ starts_from (before + length x.rules) xs
