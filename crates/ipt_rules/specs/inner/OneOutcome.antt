-- The uniqueness of the outcome of each chain, and the verdict of FORWARD.
use Rattle.std.specs.Prelude.{◌≡◌, ℕ, Bool, List, Option, drop}
use Rattle.ipt_rules.specs.declared.rule.Rule.{Rule}
use Rattle.host_net.specs.declared.packet.Verdict.{Verdict}
use Rattle.ipt_rules.specs.Chain.{Chain, rules_of}
use Rattle.ipt_rules.specs.Semantics.{Gives, HasVerdictIn}
use Rattle.host_net.specs.declared.packet.Packet.{Packet}
use Rattle.host_net.specs.declared.packet.CtState.{CtState}

-- The rules have exactly one outcome.
pub record GivesOne (fits : Rule → Bool) (chains : List Chain) (rules : List Rule) : Type 0 where
  pub outcome : Option Verdict
  pub gives : Gives fits chains rules outcome
  pub only : (o : Option Verdict) → Gives fits chains rules o → o ≡ outcome

-- Regardless of which rules match, each chain has exactly one outcome from each index on.
abbrev pub AreDeterministic : List Chain → Type 0
AreDeterministic chains = (fits : Rule → Bool) (c k : ℕ) → GivesOne fits chains (drop k (rules_of chains c))

-- The verdict on a packet that enters FORWARD is the verdict of FORWARD, chain 1.
abbrev pub HasVerdict : List Chain → Packet → CtState → Verdict → Type 0
HasVerdict chains = HasVerdictIn chains 1
