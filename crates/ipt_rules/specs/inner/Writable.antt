-- The chains that can be written as text: the chains of every rule set. Their text can be read back.
use Rattle.std.specs.Prelude.{◌≡◌, List, None}
use Rattle.ipt_rules.specs.inner.Addresses.{AddressesFit}
use Rattle.ipt_rules.specs.inner.Build.{refusal_of}
use Rattle.ipt_rules.specs.Chain.{Chain}
use Rattle.ipt_rules.specs.inner.ChainTable.{IsTable}
use Rattle.ipt_rules.specs.Loops.{IsAcyclic}
use Rattle.ipt_rules.specs.inner.RuleParts.{AreRules}

-- A table that `Ruleset::build` does not refuse, whose addresses have 32 bits.
pub record IsWritable (chains : List Chain) : Type 0 where
  pub table : IsTable chains
  pub accepted : refusal_of chains ≡ None
  pub acyclic : IsAcyclic chains
  pub addresses : AddressesFit chains
  pub parts : AreRules chains
