-- Which chains form a rule set, and why other chains are refused.
use Rattle.std.specs.Prelude.{◌≡◌, ℕ, ◌+◌, Bool, false, ◌||◌, nat_lt, nat_le, if◌then◌else◌, List, [], ◌∷◌, Option, Some, None, length}
use Rattle.std.specs.List.{position_from}
use Rattle.ipt_rules.specs.declared.rule.Rule.{Rule}
use Rattle.ipt_rules.specs.declared.rule.Target.{Target}
use Rattle.ipt_rules.specs.declared.rule.Target.TheVariants.{Jump}
use Rattle.ipt_rules.specs.declared.ruleset.BuildRefusal.{BuildRefusal}
use Rattle.ipt_rules.specs.declared.ruleset.BuildRefusal.TheVariants.{TooMany, UnknownChain, Loop, Memory}
use Rattle.ipt_rules.specs.Chain.{Chain}
use Rattle.ipt_rules.specs.ChainTable.{chain_limit, rule_limit, rule_count}
use Rattle.ipt_rules.specs.Loops.{IsFirstOnCycle}

-- With this number of chains, the target is a jump to a built-in chain or to a chain that does not exist: an invalid jump.
abbrev pub has_unknown_target : ℕ → Target → Bool
has_unknown_target count (Jump c) = nat_lt c 3 || nat_le count c
has_unknown_target count _ = false

abbrev pub unknown_at : ℕ → Option ℕ → Option BuildRefusal → Option BuildRefusal
unknown_at c None others = others
unknown_at c (Some k) others = Some (UnknownChain c k)

-- The index of the first rule with an invalid jump.
abbrev pub place_of_unknown : ℕ → List Rule → Option ℕ
place_of_unknown count rules = position_from (λ r. has_unknown_target count r.target) 0 rules

-- The first rule, by chain and index, with an invalid jump. The chains are numbered from c on.
abbrev pub first_unknown : ℕ → ℕ → List Chain → Option BuildRefusal
first_unknown count c [] = None
first_unknown count c (x ∷ xs) =
    unknown_at c (place_of_unknown count x.rules) (first_unknown count (c + 1) xs)

-- The reason why the chains are no rule set: too many chains, else too many rules, else an invalid jump.
unfoldable pub refusal_of : List Chain → Option BuildRefusal
refusal_of chains =
    if nat_lt chain_limit (length chains) then Some (TooMany (length chains))
    else if nat_lt rule_limit (rule_count chains) then Some (TooMany (rule_count chains))
    else first_unknown (length chains) 0 chains

-- The reasons for which chains are refused: the reason above; else a cycle, with the least chain that is on one; or out of
-- memory.
pub data RefusedFor (chains : List Chain) : BuildRefusal → Type 0 where
  at_once : {why : BuildRefusal} → refusal_of chains ≡ Some why → RefusedFor chains why
  loops : {c : ℕ} → refusal_of chains ≡ None → IsFirstOnCycle chains c → RefusedFor chains (Loop c)
  no_memory : RefusedFor chains Memory
