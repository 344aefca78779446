-- The model of the head of a chain: its name and its policy.
use Rattle.std.specs.Prelude.{ℕ, List, Option, Some, None, codes}
use Rattle.ipt_rules.specs.declared.rule.Policy.{Policy}
use Rattle.ipt_rules.specs.declared.chain.Head.{Head}
use Rattle.ipt_rules.specs.declared.chain.Head.TheVariants.{Input, Forward, Output, User}

abbrev pub head_name : Head → List ℕ
head_name (Input policy) = codes "INPUT"
head_name (Forward policy) = codes "FORWARD"
head_name (Output policy) = codes "OUTPUT"
head_name (User name) = name

abbrev pub head_policy : Head → Option Policy
head_policy (Input policy) = Some policy
head_policy (Forward policy) = Some policy
head_policy (Output policy) = Some policy
head_policy (User name) = None
