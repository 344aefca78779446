-- The rules that a packet meets in its traversal of the chains, and the rule that decides (iptables(8), "TARGETS").
use Rattle.std.specs.Prelude.{◌≡◌, ℕ, ◌+◌, Bool, true, IsSome, List, ◌∷◌, Option, Some, None, slice_get}
use Rattle.std.specs.Option.{option_and_then}
use Rattle.host_net.specs.declared.packet.Packet.{Packet}
use Rattle.host_net.specs.declared.packet.CtState.{CtState}
use Rattle.host_net.specs.declared.packet.Verdict.{Verdict}
use Rattle.host_net.specs.declared.packet.Verdict.TheVariants.{Forward as Forwarded, Drop as Dropped}
use Rattle.ipt_rules.specs.declared.marks.Place.{Place}
use Rattle.ipt_rules.specs.declared.rule.Rule.{Rule}
use Rattle.ipt_rules.specs.declared.rule.Target.{Target}
use Rattle.ipt_rules.specs.declared.rule.Target.TheVariants.{Accept, Drop, Reject}
use Rattle.ipt_rules.specs.Chain.{Chain, rules_of, policy_of}
use Rattle.ipt_rules.specs.Matching.{matches}
use Rattle.ipt_rules.specs.Semantics.{Continues, JumpsTo, step_of, Gives, verdict_by}

-- The traversal of rules, which are the rules of chain c from rule n on, meets the rule at a place: the traversal reaches the
-- rule, and the rule matches. The traversal leaves the rules at the first verdict. It enters a chain that a matching rule jumps
-- to, and continues after the jump if that chain returns.
pub data MeetsFrom (fits : Rule → Bool) (chains : List Chain) (place : Place) : ℕ → ℕ → List Rule → Type 0 where
  meets_here : {c n : ℕ} {r : Rule} {rs : List Rule} → place ≡ record { chain = c; rule = n } → fits r ≡ true
      → MeetsFrom fits chains place c n (r ∷ rs)
  meets_later : {c n : ℕ} {r : Rule} {rs : List Rule} → step_of (fits r) r.target ≡ Continues
      → MeetsFrom fits chains place c (n + 1) rs → MeetsFrom fits chains place c n (r ∷ rs)
  meets_inside : {c n d : ℕ} {r : Rule} {rs : List Rule} → step_of (fits r) r.target ≡ JumpsTo d
      → MeetsFrom fits chains place d 0 (rules_of chains d) → MeetsFrom fits chains place c n (r ∷ rs)
  meets_behind : {c n d : ℕ} {r : Rule} {rs : List Rule} → step_of (fits r) r.target ≡ JumpsTo d
      → Gives fits chains (rules_of chains d) None
      → MeetsFrom fits chains place c (n + 1) rs → MeetsFrom fits chains place c n (r ∷ rs)

-- The traversal of chain c from its first rule on meets the rule at a place.
abbrev pub Meets : (Rule → Bool) → List Chain → ℕ → Place → Type 0
Meets fits chains c place = MeetsFrom fits chains place c 0 (rules_of chains c)

-- A packet that enters FORWARD, chain 1, meets the rule at a place.
abbrev pub IsMet : List Chain → Packet → CtState → Place → Type 0
IsMet chains packet state = Meets (matches packet state) chains 1

-- The rule at a place.
abbrev pub rule_at : List Chain → Place → Option Rule
rule_at chains place = slice_get (rules_of chains place.chain) place.rule

-- The verdict with which a target ends the traversal.
abbrev pub target_verdict : Target → Option Verdict
target_verdict Accept = Some Forwarded
target_verdict Drop = Some Dropped
target_verdict Reject = Some Dropped
target_verdict _ = None

-- The verdict of the rule at a place.
abbrev pub verdict_at : List Chain → Place → Option Verdict
verdict_at chains place = option_and_then (λ r. target_verdict r.target) (rule_at chains place)

-- The decider of the traversal of chain c: the place of a rule that is met and whose target is a verdict, or `None`, the
-- policy, if no rule that is met has such a target.
abbrev pub DecidesWalk : (Rule → Bool) → List Chain → ℕ → Option Place → Type 0
DecidesWalk fits chains c None = (place : Place) → Meets fits chains c place → verdict_at chains place ≡ None
DecidesWalk fits chains c (Some place) = Meets fits chains c place × IsSome (verdict_at chains place)

-- The decider of a packet that enters FORWARD.
abbrev pub IsRuleDecider : List Chain → Packet → CtState → Option Place → Type 0
IsRuleDecider chains packet state = DecidesWalk (matches packet state) chains 1

-- The verdict of a decider on a packet that enters FORWARD: the verdict of the rule, or the policy of FORWARD.
abbrev pub decided : List Chain → Option Place → Verdict
decided chains decider = verdict_by (policy_of chains 1) (option_and_then (verdict_at chains) decider)
