-- Rules of nftables: the text of a table, and the chains of iptables with the same verdicts, which an audit compares (docs/TEXTS.md).
use Rattle.std.specs.Prelude.{◌≡◌, ◌≤◌, ℕ, List, codes, length}
use Rattle.ipt_rules.specs.Chain.{Chain}
use Rattle.ipt_rules.specs.ChainTable.{chain_limit, rule_count, rule_limit}
use Rattle.nft_chains.specs.Refusals.{IsTooLarge}
use Rattle.nft_chains.specs.Translation.{chains_of}
use Rattle.nft_chains.specs.declared.refusal.ChainsRefusal.{ChainsRefusal}
use Rattle.nft_chains.specs.declared.refusal.ChainsRefusal.TheVariants.{TooManyChains, TooManyRules}
use Rattle.nft_read.specs.Reading.{HasCause, IsTable, byte_limit, name}
use Rattle.nft_read.specs.declared.fault.NftWhy.{NftWhy}
use Rattle.nft_rules.specs.declared.table.Table.{Table}
use Rattle.nft_rules.specs.Semantics.{PassesTable}
use Rattle.nft_text.specs.Text.{table_text}
use Rattle.pkt_core.specs.Filter.{Enforces}
use Rattle.pkt_core.specs.Firewall.{Filter}
use Rattle.pkt_core.specs.FlowPolicy.{FlowPolicy}
use Rattle.run_core.specs.TextFault.{fault_line}
use Rattle.text_core.specs.declared.faults.TextFault.TheVariants.{Refused}

pub record TableRules : Type 0 where
  pub text : List ℕ
  pub chains : List Chain

-- The table can be loaded, and has this text and these chains.
pub record HasRules (table : Table) (rules : TableRules) : Type 0 where
  pub is_table : IsTable table
  pub text : rules.text ≡ table_text table
  pub chains : rules.chains ≡ chains_of table

-- A packet passes in a state, or does not, as a table with the text decides.
abbrev pub passes_text : List ℕ → Filter
passes_text text state packet passes = (table : Table) × IsTable table × (text ≡ table_text table) × PassesTable table state packet passes

-- The chains are within the limits of a rule set.
abbrev pub AreFew : List Chain → Type 0
AreFew chains = (length chains ≤ chain_limit) × (rule_count chains ≤ rule_limit)

-- The text is that of a table with these rules. It is not too long, and its chains are not too many.
pub record IsReadingOfTable (bytes : List ℕ) (rules : TableRules) : Type 0 where
  pub is_text : rules.text ≡ bytes
  pub short : length bytes ≤ byte_limit
  pub few : AreFew rules.chains
  pub table : Table
  pub has_rules : HasRules table rules

-- The reason for too large a table, as it is printed.
abbrev pub size_reason : ChainsRefusal → List ℕ
size_reason TooManyChains = codes "TooManyChains"
size_reason TooManyRules = codes "TooManyRules"

-- Why a text is rejected, and the line that reports it: it is the text of no table; or its table is too large.
pub data RejectsTable (bytes line : List ℕ) : Type 0 where
  NoText : (number : ℕ) (why : NftWhy) → HasCause bytes (Refused number why) → line ≡ fault_line (codes "rules") number (name why) → RejectsTable bytes line
  TooLarge : (table : Table) (why : ChainsRefusal) → IsTable table → bytes ≡ table_text table → IsTooLarge table why
      → line ≡ fault_line (codes "rules") 0 (size_reason why) → RejectsTable bytes line

-- A table with these rules enforces the policy.
pub record IsLayoutTable (policy : FlowPolicy) (rules : TableRules) : Type 0 where
  pub table : Table
  pub has_rules : HasRules table rules
  pub enforces : Enforces (PassesTable table) policy
