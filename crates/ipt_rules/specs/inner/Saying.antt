-- The outcome of a block of consecutive rules. A chain can be analyzed block by block.
use Rattle.std.specs.Prelude.{Bool, List, [], ◌∷◌, ◌++◌, Option, Some, None}
use Rattle.std.specs.Option.{option_or}
use Rattle.ipt_rules.specs.declared.rule.Rule.{Rule}
use Rattle.host_net.specs.declared.packet.Verdict.{Verdict}
use Rattle.ipt_rules.specs.Chain.{Chain}
use Rattle.ipt_rules.specs.Semantics.{Gives}

-- The outcome of a block, regardless of the rules that follow: a verdict, or `None` if the block leaves the packet to the rules
-- that follow.
abbrev pub Says : (Rule → Bool) → List Chain → List Rule → Option Verdict → Type 0
Says fits chains rules None =
    (rest : List Rule) (o : Option Verdict) → Gives fits chains rest o → Gives fits chains (rules ++ rest) o
Says fits chains rules (Some v) = (rest : List Rule) → Gives fits chains (rules ++ rest) (Some v)

-- The first verdict in a list.
abbrev pub first_said : {X : Type 0} → (X → Option Verdict) → List X → Option Verdict
first_said said [] = None
first_said said (x ∷ xs) = option_or (said x) (first_said said xs)
