-- The tables that are too large for a rule set of iptables.
use Rattle.std.specs.Prelude.{◌<◌, ◌≤◌, length}
use Rattle.ipt_rules.specs.ChainTable.{chain_limit, rule_limit, rule_count}
use Rattle.nft_rules.specs.declared.table.Table.{Table}
use Rattle.nft_chains.specs.declared.refusal.ChainsRefusal.{ChainsRefusal}
use Rattle.nft_chains.specs.declared.refusal.ChainsRefusal.TheVariants.{TooManyChains, TooManyRules}
use Rattle.nft_chains.specs.Translation.{chains_of}

-- The chains of the table are too many, or else their rules are.
abbrev pub IsTooLarge : Table → ChainsRefusal → Type 0
IsTooLarge table TooManyChains = chain_limit < length (chains_of table)
IsTooLarge table TooManyRules = (length (chains_of table) ≤ chain_limit) × (rule_limit < rule_count (chains_of table))
