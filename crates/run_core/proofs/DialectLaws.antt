-- The laws of each dialect: by them rules are parsed in one way, and the rules of a policy have their guarantee.
use Rattle.std.proofs.Common.{◌≡◌, ◌<◌, ◌⊎◌, inl, inr, ℕ, List, length, ◌++◌, Some, codes, refl, ap, subst, sym, ◌∙◌, arith}
use Rattle.rules_space.specs.Rules.{filter_of}
use Rattle.emit_core.specs.FlowTable.{flow_entries}
use Rattle.emit_core.specs.FlowTableForwarding.{ForwardsArpAlone}
use Rattle.emit_core.specs.Layout.{layout}
use Rattle.emit_core.specs.OtherStates.{HaveNoOtherState}
use Rattle.emit_core.proofs.ForwardingLaws.{layout_enforces}
use Rattle.emit_core.proofs.LayoutRulesLaws.{layout_no_other_state}
use Rattle.emit_core.proofs.TableLaws.{first_barred_once, first_range_once, flow_entries_arp, flow_entries_enforce, flow_entries_table, none_barred, none_ranging}
use Rattle.emit_core.proofs.WritableLaws.{layout_short, layout_writable}
use Rattle.flow_set.specs.declared.flow.Flow.{Flow}
use Rattle.host_net.specs.Packet.{IsPacket}
use Rattle.host_net.specs.inner.Site.{IsSite}
use Rattle.ipt_read.proofs.AgainLaws.{text_read_again}
use Rattle.ipt_read.proofs.FaultLaws.{one_reading, one_fault, no_reading_with_fault}
use Rattle.ipt_read.specs.TextLines.{HasFaultInRules, IsReadingOfRules, rules_reason}
use Rattle.ipt_read.specs.declared.fault.IptWhy.TheVariants.{TooLong as RulesTooLong}
use Rattle.nft_read.specs.declared.fault.NftWhy.TheVariants.{TooLong as TableTooLong}
use Rattle.ofp_read.proofs.AgainLaws.{text_read_again as flows_read_again}
use Rattle.ofp_read.proofs.FaultLaws.{one_reading as one_reading_of_flows, reading_is_table, one_fault as one_fault_in_flows, no_reading_with_fault as no_flows_with_fault}
use Rattle.ofp_read.specs.TextLines.{HasFaultInFlows, IsReadingOfFlows, flows_reason}
use Rattle.ofp_read.specs.declared.fault.OfpWhy.TheVariants.{TooLong as FlowsTooLong}
use Rattle.ipt_rules.specs.Chain.{Chain}
use Rattle.ipt_rules.specs.Semantics.{PassesChains}
use Rattle.ipt_rules.specs.Text.{text as chains_text}
use Rattle.ofp_rules.specs.Semantics.{PassesEntries}
use Rattle.ofp_rules.specs.Text.{text as table_text}
use Rattle.ofp_rules.specs.declared.entry.Entry.{Entry}
use Rattle.pkt_core.specs.Filter.{Enforces}
use Rattle.pkt_core.specs.FlowPolicy.{FlowPolicy}
use Rattle.report_core.proofs.TraceLaws.{AnswersOnce, chains_answer_once, table_answers_once}
use Rattle.report_core.specs.Names.{flow_text}
use Rattle.text_core.specs.LineFormat.{too_long}
use Rattle.run_core.specs.Filters.{AreEquivalentFilters}
use Rattle.run_core.specs.Dialects.{RuleDialect, NeedsState, RangeOfPorts, TooManyFlows, iptables, nft, openflow, rule_dialect_of, CannotEmitTable}
use Rattle.run_core.specs.Reply.{not_emittable}
use Rattle.run_core.specs.Tables.{NoText}
use Rattle.run_core.specs.TextFault.{fault_line}
use Rattle.run_core.specs.declared.dialect.Dialect.{Dialect}
use Rattle.run_core.specs.declared.dialect.Dialect.TheVariants.{Iptables, Nft, OpenFlow}
use Rattle.run_core.specs.inner.Forms.{dialect_named}
use Rattle.run_core.proofs.TableLaws.{layout_table_enforces, one_table_reading, read_or_rejected, table_only_reading, table_read_again, text_alike, text_answers_once}
use Rattle.run_core.proofs.TextFaultLaws.{same_line}

-- The laws of a dialect. Bytes parse to unique rules, or are rejected, in an exact dialect with a unique line. Rules forward a packet or do
-- not, in an audit too. A layout of a policy enforces it and is the only parse of its text, or a unique line gives the reason why there is
-- none. In an exact dialect, the layouts of a policy have one text.
pub record IsLawful (language : RuleDialect) : Type 1 where
  pub one_reading : (bytes : List ℕ) (rules others : language.Rules) → language.IsReading bytes rules → language.IsReading bytes others
      → rules ≡ others
  pub reads_or_refuses : (bytes line : List ℕ) (rules : language.Rules) → language.IsReading bytes rules → language.Refuses bytes line → ⊥
  pub refuses_once : language.IsExact → (bytes a b : List ℕ) → language.Refuses bytes a → language.Refuses bytes b → a ≡ b
  pub too_long : (bytes : List ℕ) → language.byte_limit < length bytes → language.Refuses bytes (fault_line (codes "rules") 0 (codes "TooLong"))
  pub answers_once : (bytes : List ℕ) (rules : language.Rules) → language.IsReading bytes rules → AnswersOnce IsPacket (language.filter rules)
  pub audited_alike : (bytes : List ℕ) (rules : language.Rules) → language.IsReading bytes rules
      → AreEquivalentFilters (filter_of (language.audited rules)) (language.filter rules)
  pub enforces : (policy : FlowPolicy) (rules : language.Rules) → IsSite policy.site → language.CanWrite policy → language.IsLayout policy rules
      → Enforces (language.filter rules) policy
  pub other_frames : (policy : FlowPolicy) (rules : language.Rules) → IsSite policy.site → language.CanWrite policy → language.IsLayout policy rules
      → language.OtherFrames rules
  pub other_states : (policy : FlowPolicy) (rules : language.Rules) → IsSite policy.site → language.CanWrite policy → language.IsLayout policy rules
      → language.OtherStates rules
  pub read_again : (policy : FlowPolicy) (rules : language.Rules) → IsSite policy.site → language.CanWrite policy → language.IsLayout policy rules
      → language.IsParsed rules → language.IsReading (language.text rules) rules
  pub only_reading : (policy : FlowPolicy) (rules others : language.Rules) → IsSite policy.site → language.CanWrite policy
      → language.IsLayout policy rules → language.IsReading (language.text rules) others → others ≡ rules
  pub one_text : language.IsExact → (policy : FlowPolicy) (rules others : language.Rules) → language.IsLayout policy rules
      → language.IsLayout policy others → language.text rules ≡ language.text others
  pub one_hindrance : (policy : FlowPolicy) (line other : List ℕ) → language.CannotEmit line policy
      → language.CannotEmit other policy → line ≡ other
  pub apart : (policy : FlowPolicy) (line : List ℕ) → language.CanWrite policy → language.CannotEmit line policy → ⊥

chains_again : (policy : FlowPolicy) (chains : List Chain) → IsSite policy.site → iptables.CanWrite policy → chains ≡ layout policy
    → IsReadingOfRules (chains_text chains) chains
chains_again policy chains known can is =
    subst (λ (rules : List Chain). IsReadingOfRules (chains_text rules) rules) (sym is)
    (text_read_again (layout policy) (layout_writable policy known can) (layout_short policy known can))

iptables_laws : IsLawful iptables
iptables_laws = record {
  one_reading = one_reading;
  reads_or_refuses = λ bytes line chains read refused. no_reading_with_fault bytes chains refused.number refused.why refused.fault read;
  refuses_once = λ exact bytes. same_line (codes "rules") rules_reason HasFaultInRules bytes (one_fault bytes);
  too_long = λ bytes long. record { number = 0; why = RulesTooLong; fault = too_long long; told = refl };
  answers_once = λ bytes chains read state p a b known. chains_answer_once chains state p a b tt;
  audited_alike = λ bytes chains read state p passes is. ((λ said. said), (λ said. said));
  enforces = λ policy chains known can is. subst (λ (rules : List Chain). Enforces (PassesChains rules) policy) (sym is) (layout_enforces policy known.hosts);
  other_frames = λ policy chains known can is. tt;
  other_states = λ policy chains known can is. subst HaveNoOtherState (sym is) (layout_no_other_state policy known.services);
  read_again = λ policy chains known can is parsed. chains_again policy chains known can is;
  only_reading = λ policy chains others known can is read. one_reading (chains_text chains) others chains read (chains_again policy chains known can is);
  one_text = λ exact policy chains others is also. ap chains_text (is ∙ sym also);
  one_hindrance = λ policy line other is also. is.1 ∙ sym also.1;
  apart = λ policy line fits bars. omega (arith, fits, bars.0);
}

one_bar : (policy : FlowPolicy) (a b : List ℕ) → CannotEmitTable a policy → CannotEmitTable b policy → a ≡ b
one_bar policy a b (NeedsState f bar is) (NeedsState g also same) =
    is ∙ ap (λ (h : Flow). not_emittable (codes "answers of " ++ (flow_text policy.site.hosts h ++ codes " need state\n"))) (first_barred_once policy f g bar also) ∙ sym same
one_bar policy a b (NeedsState f bar is) (RangeOfPorts g covered also same) = absurd (none_barred policy f covered bar)
one_bar policy a b (NeedsState f bar is) (TooManyFlows covered none many same) = absurd (none_barred policy f covered bar)
one_bar policy a b (RangeOfPorts f covered range is) (NeedsState g also same) = absurd (none_barred policy g covered also)
one_bar policy a b (RangeOfPorts f covered range is) (RangeOfPorts g both also same) =
    is ∙ ap (λ (h : Flow). not_emittable (codes "ports of " ++ (flow_text policy.site.hosts h ++ codes " are a range\n"))) (first_range_once policy.site.services policy.permitted f g range also) ∙ sym same
one_bar policy a b (RangeOfPorts f covered range is) (TooManyFlows both none many same) = absurd (none_ranging policy.site.services policy.permitted f none range)
one_bar policy a b (TooManyFlows covered none many is) (NeedsState f also same) = absurd (none_barred policy f covered also)
one_bar policy a b (TooManyFlows covered none many is) (RangeOfPorts f both also same) = absurd (none_ranging policy.site.services policy.permitted f none also)
one_bar policy a b (TooManyFlows covered none many is) (TooManyFlows both also too same) = is ∙ sym same

not_both : (policy : FlowPolicy) (line : List ℕ) → openflow.CanWrite policy → CannotEmitTable line policy → ⊥
not_both policy line fits (NeedsState f bar is) = none_barred policy f fits.0 bar
not_both policy line fits (RangeOfPorts f covered range is) = none_ranging policy.site.services policy.permitted f fits.1 range
not_both policy line fits (TooManyFlows covered none many is) = omega (arith, fits.2, many)

entries_again : (policy : FlowPolicy) (entries : List Entry) → IsSite policy.site → openflow.CanWrite policy
    → entries ≡ flow_entries policy.site policy.permitted → IsReadingOfFlows (table_text entries) entries
entries_again policy entries known can is =
    subst (λ (rules : List Entry). IsReadingOfFlows (table_text rules) rules) (sym is)
    (flows_read_again (flow_entries policy.site policy.permitted) (flow_entries_table policy.site policy.permitted known can.1 can.2))

openflow_laws : IsLawful openflow
openflow_laws = record {
  one_reading = one_reading_of_flows;
  reads_or_refuses = λ bytes line entries read refused. no_flows_with_fault bytes entries refused.number refused.why refused.fault read;
  refuses_once = λ exact bytes. same_line (codes "rules") flows_reason HasFaultInFlows bytes (one_fault_in_flows bytes);
  too_long = λ bytes long. record { number = 0; why = FlowsTooLong; fault = too_long long; told = refl };
  answers_once = λ bytes entries read. table_answers_once entries (reading_is_table bytes entries read);
  audited_alike = λ bytes entries read state p passes is. ((λ said. said), (λ said. said));
  enforces = λ policy entries known can is. subst (λ (rules : List Entry). Enforces (PassesEntries rules) policy) (sym is) (flow_entries_enforce policy known can.1 can.0);
  other_frames = λ policy entries known can is. subst ForwardsArpAlone (sym is) (flow_entries_arp policy.site policy.permitted known can.1);
  other_states = λ policy entries known can is. tt;
  read_again = λ policy entries known can is parsed. entries_again policy entries known can is;
  only_reading = λ policy entries others known can is read. one_reading_of_flows (table_text entries) others entries read (entries_again policy entries known can is);
  one_text = λ exact policy entries others is also. ap table_text (is ∙ sym also);
  one_hindrance = one_bar;
  apart = not_both;
}

nft_laws : IsLawful nft
nft_laws = record {
  one_reading = one_table_reading;
  reads_or_refuses = λ bytes line rules read rejects. read_or_rejected bytes line rules read rejects;
  refuses_once = λ exact. absurd exact;
  too_long = λ bytes long. NoText 0 TableTooLong (refl, long) refl;
  answers_once = text_answers_once;
  audited_alike = λ bytes rules read. text_alike read.table rules read.has_rules;
  enforces = λ policy rules known can layout. layout_table_enforces policy rules layout;
  other_frames = λ policy rules known can layout. tt;
  other_states = λ policy rules known can layout. tt;
  read_again = λ policy rules known can layout parsed. table_read_again policy rules layout parsed.0 parsed.1;
  only_reading = λ policy rules others known can layout read. table_only_reading policy rules others layout read;
  one_text = λ exact. absurd exact;
  one_hindrance = λ policy line other none also. absurd none;
  apart = λ policy line can none. none;
}

pub laws_of : (dialect : Dialect) → IsLawful (rule_dialect_of dialect)
laws_of Iptables = iptables_laws
laws_of OpenFlow = openflow_laws
laws_of Nft = nft_laws

-- A dialect is exact or not.
pub exact_or_not : (dialect : Dialect) → (rule_dialect_of dialect).IsExact ⊎ ((rule_dialect_of dialect).IsExact → ⊥)
exact_or_not Iptables = inl tt
exact_or_not OpenFlow = inl tt
exact_or_not Nft = inr (λ exact. exact)

-- The names of the dialects are distinct.
pub named_word : (dialect : Dialect) → dialect_named (rule_dialect_of dialect).word ≡ Some dialect
named_word Iptables = refl
named_word OpenFlow = refl
named_word Nft = refl
