-- The verdict on a packet: the traversal of the chains (iptables(8), "TARGETS").
use Rattle.std.specs.Prelude.{◌≡◌, ℕ, Bool, true, false, List, [], ◌∷◌, Option, Some, None}
use Rattle.host_net.specs.declared.packet.Packet.{Packet}
use Rattle.host_net.specs.declared.packet.CtState.{CtState}
use Rattle.host_net.specs.Verdict.{verdict_if}
use Rattle.ipt_rules.specs.declared.rule.Rule.{Rule}
use Rattle.ipt_rules.specs.declared.rule.Target.{Target}
use Rattle.ipt_rules.specs.declared.rule.Target.TheVariants.{Accept, Drop, Reject, Return, Count, Jump}
use Rattle.ipt_rules.specs.declared.rule.Policy.{Policy}
use Rattle.ipt_rules.specs.declared.rule.Policy.TheVariants.{Accept as Accepting, Drop as Dropping}
use Rattle.host_net.specs.declared.packet.Verdict.{Verdict}
use Rattle.host_net.specs.declared.packet.Verdict.TheVariants.{Forward as Forwarded, Drop as Dropped}
use Rattle.ipt_rules.specs.Matching.{matches}
use Rattle.ipt_rules.specs.Chain.{Chain, rules_of, policy_of}

-- The step of a rule on a packet: it continues with the next rule, ends its chain with an outcome, or traverses another chain.
-- The outcome of a chain is a verdict, or `None` if the chain returns.
pub data RuleEffect : Type 0 where
  Continues : RuleEffect
  Ends : Option Verdict → RuleEffect
  JumpsTo : ℕ → RuleEffect

-- The step of a rule, by whether the rule matches. A rule that does not match continues with the next rule, as does a rule that
-- only counts.
abbrev pub step_of : Bool → Target → RuleEffect
step_of false target = Continues
step_of true Accept = Ends (Some Forwarded)
step_of true Drop = Ends (Some Dropped)
step_of true Reject = Ends (Some Dropped)
step_of true Return = Ends None
step_of true Count = Continues
step_of true (Jump c) = JumpsTo c

-- The outcome of the remaining rules. The end of a chain returns. A traversed chain decides by its verdict; if it returns, the
-- traversal continues after the jump.
pub data Gives (fits : Rule → Bool) (chains : List Chain) : List Rule → Option Verdict → Type 0 where
  at_end : Gives fits chains [] None
  goes_on : {r : Rule} {rs : List Rule} {o : Option Verdict} → step_of (fits r) r.target ≡ Continues
      → Gives fits chains rs o → Gives fits chains (r ∷ rs) o
  ends : {r : Rule} {rs : List Rule} {o : Option Verdict} → step_of (fits r) r.target ≡ Ends o → Gives fits chains (r ∷ rs) o
  decides : {r : Rule} {rs : List Rule} {v : Verdict} {c : ℕ} → step_of (fits r) r.target ≡ JumpsTo c
      → Gives fits chains (rules_of chains c) (Some v) → Gives fits chains (r ∷ rs) (Some v)
  comes_back : {r : Rule} {rs : List Rule} {o : Option Verdict} {c : ℕ} → step_of (fits r) r.target ≡ JumpsTo c
      → Gives fits chains (rules_of chains c) None → Gives fits chains rs o → Gives fits chains (r ∷ rs) o

-- The verdict of a policy. A user chain, which has no policy, drops.
abbrev pub policy_verdict : Option Policy → Verdict
policy_verdict None = Dropped
policy_verdict (Some Accepting) = Forwarded
policy_verdict (Some Dropping) = Dropped

-- The verdict of a built-in chain with this outcome: if the chain returns, its policy decides.
abbrev pub verdict_by : Option Policy → Option Verdict → Verdict
verdict_by policy None = policy_verdict policy
verdict_by policy (Some v) = v

-- The chains have this verdict on a packet that enters built-in chain c in this state: the outcome of its rules, or else its policy.
pub record HasVerdictIn (chains : List Chain) (c : ℕ) (packet : Packet) (state : CtState) (v : Verdict) : Type 0 where
  pub outcome : Option Verdict
  pub gives : Gives (matches packet state) chains (rules_of chains c) outcome
  pub verdict : v ≡ verdict_by (policy_of chains c) outcome

-- The chains as a filter: in a state they forward a packet through FORWARD, chain 1, or do not, as `passes` states.
abbrev pub PassesChains : List Chain → CtState → Packet → Bool → Type 0
PassesChains chains state packet passes = HasVerdictIn chains 1 packet state (verdict_if passes)
