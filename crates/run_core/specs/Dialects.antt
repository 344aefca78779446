-- The dialects of rules: their texts, their parsers, the packets that rules forward, and the rules of a policy.
use Rattle.std.specs.Prelude.{◌≡◌, ◌≤◌, ◌<◌, ℕ, List, [], ◌∷◌, ◌++◌, length, codes, decimal}
use Rattle.rules_space.specs.Rules.{AnyRules, Chains, Entries}
use Rattle.emit_core.specs.FlowTable.{flow_entries}
use Rattle.emit_core.specs.EmitRefusals.{rule_limit}
use Rattle.emit_core.specs.FlowTableEvents.{AnswersAreCovered, IsFirstUncovered}
use Rattle.emit_core.specs.FlowTableForwarding.{ForwardsArpAlone}
use Rattle.emit_core.specs.Layout.{layout}
use Rattle.emit_core.specs.OtherStates.{HaveNoOtherState}
use Rattle.emit_core.specs.PortRanges.{HasNoRange, IsFirstRange}
use Rattle.flow_set.specs.declared.flow.Flow.{Flow}
use Rattle.ipt_read.specs.TextLines.{IsReadingOfRules, HasFaultInRules, rules_reason, rules_text}
use Rattle.ipt_rules.specs.Chain.{Chain}
use Rattle.ipt_rules.specs.ChainTable.{rule_count}
use Rattle.ipt_rules.specs.Semantics.{PassesChains}
use Rattle.ipt_rules.specs.Text.{text as chains_text}
use Rattle.nft_read.specs.Reading.{byte_limit as table_limit}
use Rattle.ofp_read.specs.TextLines.{IsReadingOfFlows, HasFaultInFlows, flows_text, flows_reason}
use Rattle.ofp_rules.specs.Ambiguity.{most_entries}
use Rattle.ofp_rules.specs.Semantics.{PassesEntries}
use Rattle.ofp_rules.specs.Text.{text as table_text}
use Rattle.ofp_rules.specs.declared.entry.Entry.{Entry}
use Rattle.pkt_core.specs.Firewall.{Filter}
use Rattle.pkt_core.specs.FlowPolicy.{FlowPolicy}
use Rattle.report_core.specs.Names.{flow_text}
use Rattle.run_core.specs.Reply.{not_emittable}
use Rattle.run_core.specs.Tables.{AreFew, IsLayoutTable, IsReadingOfTable, RejectsTable, TableRules, passes_text}
use Rattle.run_core.specs.TextFault.{ReportsFault}
use Rattle.run_core.specs.declared.dialect.Dialect.{Dialect}
use Rattle.run_core.specs.declared.dialect.Dialect.TheVariants.{Iptables, Nft, OpenFlow}

-- A dialect: its name on the command line, the type of its rules, their text, the size limit of the parser, the rules that a text parses
-- to, and the reasons to reject a text; the packets that rules forward in each state, the rules in the form of an audit, the treatment of
-- other frames, and of states besides NEW and ESTABLISHED; and, for a policy, which rules are its layout, if they can be emitted, and the
-- line that gives the reason otherwise (docs/TEXTS.md). `IsParsed` states that the rules are within the limits of the parser. `IsExact`
-- states that a policy has one layout, and a rejected text one reason.
pub record RuleDialect : Type 1 where
  pub word : List ℕ
  pub Rules : Type 0
  pub text : Rules → List ℕ
  pub byte_limit : ℕ
  pub IsReading : List ℕ → Rules → Type 0
  pub Refuses : (bytes line : List ℕ) → Type 0
  pub filter : Rules → Filter
  pub audited : Rules → AnyRules
  pub OtherFrames : Rules → Type 0
  pub OtherStates : Rules → Type 0
  pub IsLayout : FlowPolicy → Rules → Type 0
  pub IsParsed : Rules → Type 0
  pub IsExact : Type 0
  pub CanWrite : FlowPolicy → Type 0
  pub CannotEmit : (line : List ℕ) → FlowPolicy → Type 0

-- The text is that of a layout of the policy.
abbrev pub IsLayoutText : (language : RuleDialect) → FlowPolicy → (text : List ℕ) → Type 0
IsLayoutText language policy text = (rules : language.Rules) × language.IsLayout policy rules × (text ≡ language.text rules)

-- The chains have too many rules, and the line reports their number.
abbrev pub CannotEmitChains : (line : List ℕ) → FlowPolicy → Type 0
CannotEmitChains line policy =
    (rule_limit < rule_count (layout policy)) × (line ≡ not_emittable (decimal (rule_count (layout policy)) ++ codes " rules exceed 600000\n"))

-- Chains of iptables, which process only IPv4 packets.
abbrev pub iptables : RuleDialect
iptables = record {
  word = codes "iptables";
  Rules = List Chain;
  text = chains_text;
  byte_limit = rules_text.byte_limit;
  IsReading = IsReadingOfRules;
  Refuses = ReportsFault (codes "rules") rules_reason HasFaultInRules;
  filter = PassesChains;
  audited = Chains;
  OtherFrames = λ chains. Unit {0};
  OtherStates = HaveNoOtherState;
  IsLayout = λ policy chains. chains ≡ layout policy;
  IsParsed = λ chains. Unit {0};
  IsExact = Unit {0};
  CanWrite = λ policy. rule_count (layout policy) ≤ rule_limit;
  CannotEmit = CannotEmitChains;
}

-- The reason for no table, and the line that reports it: the first stateful flow whose answers are not covered, since a table is stateless;
-- otherwise the first permitted flow with a range of ports; otherwise too many entries.
pub data CannotEmitTable (line : List ℕ) (policy : FlowPolicy) : Type 0 where
  NeedsState : (flow : Flow) → IsFirstUncovered policy flow
      → line ≡ not_emittable (codes "answers of " ++ (flow_text policy.site.hosts flow ++ codes " need state\n")) → CannotEmitTable line policy
  RangeOfPorts : (flow : Flow) → AnswersAreCovered policy → IsFirstRange policy.site.services policy.permitted flow
      → line ≡ not_emittable (codes "ports of " ++ (flow_text policy.site.hosts flow ++ codes " are a range\n")) → CannotEmitTable line policy
  TooManyFlows : AnswersAreCovered policy → HasNoRange policy.site.services policy.permitted → most_entries < length (flow_entries policy.site policy.permitted)
      → line ≡ not_emittable (decimal (length (flow_entries policy.site policy.permitted)) ++ codes " flows exceed 8192\n") → CannotEmitTable line policy

-- A flow table of OpenFlow. It can be emitted unless there is such a reason.
abbrev pub openflow : RuleDialect
openflow = record {
  word = codes "openflow";
  Rules = List Entry;
  text = table_text;
  byte_limit = flows_text.byte_limit;
  IsReading = IsReadingOfFlows;
  Refuses = ReportsFault (codes "rules") flows_reason HasFaultInFlows;
  filter = PassesEntries;
  audited = Entries;
  OtherFrames = ForwardsArpAlone;
  OtherStates = λ entries. Unit {0};
  IsLayout = λ policy entries. entries ≡ flow_entries policy.site policy.permitted;
  IsParsed = λ entries. Unit {0};
  IsExact = Unit {0};
  CanWrite = λ policy. AnswersAreCovered policy × HasNoRange policy.site.services policy.permitted × (length (flow_entries policy.site policy.permitted) ≤ most_entries);
  CannotEmit = CannotEmitTable;
}

-- A table of nftables, which processes only IPv4 packets and matches only on ESTABLISHED. It can always be emitted. A policy may have several
-- tables, and a rejected text several reasons. A table may be too large to be parsed.
abbrev pub nft : RuleDialect
nft = record {
  word = codes "nft";
  Rules = TableRules;
  text = λ rules. rules.text;
  byte_limit = table_limit;
  IsReading = IsReadingOfTable;
  Refuses = RejectsTable;
  filter = λ rules. passes_text rules.text;
  audited = λ rules. Chains rules.chains;
  OtherFrames = λ rules. Unit {0};
  OtherStates = λ rules. Unit {0};
  IsLayout = IsLayoutTable;
  IsParsed = λ rules. (length rules.text ≤ table_limit) × AreFew rules.chains;
  IsExact = ⊥;
  CanWrite = λ policy. Unit {0};
  CannotEmit = λ line policy. ⊥;
}

-- The definition of each dialect.
abbrev pub rule_dialect_of : Dialect → RuleDialect
rule_dialect_of Iptables = iptables
rule_dialect_of OpenFlow = openflow
rule_dialect_of Nft = nft

-- All dialects.
abbrev pub dialects : List Dialect
dialects = Iptables ∷ OpenFlow ∷ Nft ∷ []
