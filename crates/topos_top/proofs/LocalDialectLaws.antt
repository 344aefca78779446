-- The laws of each dialect of the rules for the machines of a host.
use Rattle.std.proofs.Common.{◌≡◌, ℕ, List, IsTrue, refl, sym, ap, subst, ◌∙◌}
use Rattle.host_emit.specs.HostEnforcement.{EnforcesAtHost, PassesOn}
use Rattle.host_emit.specs.LocalEvents.{DeliversAsExpected}
use Rattle.host_emit.specs.LocalLayout.{is_specific, local_layout}
use Rattle.host_emit.proofs.GuardingLaws.{layout_guards}
use Rattle.host_emit.proofs.LocalEventsLaws.{guards_expected}
use Rattle.host_emit.proofs.LocalWritableLaws.{local_no_other_state, local_short, local_writable}
use Rattle.host_net.specs.inner.Site.{IsSite}
use Rattle.emit_core.specs.OtherStates.{HaveNoOtherState}
use Rattle.flow_set.specs.FlowSet.{IsSubset}
use Rattle.ipt_read.proofs.AgainLaws.{text_read_again}
use Rattle.ipt_read.proofs.FaultLaws.{one_reading}
use Rattle.ipt_read.specs.TextLines.{IsReadingOfRules}
use Rattle.ipt_rules.specs.Chain.{Chain}
use Rattle.ipt_rules.specs.Text.{text}
use Rattle.nft_local.proofs.TextLaws.{machine_text_once}
use Rattle.pkt_core.specs.FlowPolicy.{FlowPolicy}
use Rattle.topos_top.specs.Local.{LocalDialect, local_chains, local_table}
use Rattle.topos_top.specs.declared.local.LocalDialect.{LocalDialect as CodeDialect}
use Rattle.topos_top.specs.declared.local.LocalDialect.TheVariants.{Chains, Table}
use Rattle.topos_top.specs.inner.Local.{local_dialect_of}

-- The rules for the machines of a host enforce the policy, their text is read as these rules, and a text is read as one list of rules.
pub record IsLawfulLocal (dialect : LocalDialect) : Type 0 where
  pub enforces : (policy : FlowPolicy) (h : ℕ) (rules : dialect.Rules) → IsSite policy.site → dialect.AreFor policy h rules
      → EnforcesAtHost (dialect.passes rules) policy h
  pub other_states : (policy : FlowPolicy) (h : ℕ) (rules : dialect.Rules) → IsSite policy.site → dialect.AreFor policy h rules → dialect.OtherStates rules
  pub read : (policy : FlowPolicy) (h : ℕ) (rules : dialect.Rules) → IsSite policy.site → dialect.AreFor policy h rules → dialect.IsReading (dialect.text rules) rules
  pub one_reading : (bytes : List ℕ) (rules others : dialect.Rules) → dialect.IsReading bytes rules → dialect.IsReading bytes others → dialect.AreSame rules others

-- If every specific host has such rules, exactly the expected packets pass.
pub all_expected : (dialect : LocalDialect) → IsLawfulLocal dialect → (policy : FlowPolicy) → IsSite policy.site → IsSubset policy.stateful policy.permitted
    → (all : ℕ → dialect.Rules) → ((h : ℕ) → IsTrue (is_specific policy.site.hosts h) → dialect.AreFor policy h (all h))
    → DeliversAsExpected (λ h. dialect.passes (all h)) policy
all_expected dialect laws policy known subset all are_for =
    guards_expected (λ h. dialect.passes (all h)) policy subset (λ h specific. laws.enforces policy h (all h) known (are_for h specific))

-- ---- chains

chains_enforce : (policy : FlowPolicy) (h : ℕ) (chains : List Chain) → IsSite policy.site → chains ≡ local_layout policy h → EnforcesAtHost (PassesOn chains) policy h
chains_enforce policy h chains known is = subst (λ (cs : List Chain). EnforcesAtHost (PassesOn cs) policy h) (sym is) (layout_guards policy h known.hosts)

chains_no_other_state : (policy : FlowPolicy) (h : ℕ) (chains : List Chain) → IsSite policy.site → chains ≡ local_layout policy h → HaveNoOtherState chains
chains_no_other_state policy h chains known is = subst HaveNoOtherState (sym is) (local_no_other_state policy h known)

chains_read : (policy : FlowPolicy) (h : ℕ) (chains : List Chain) → IsSite policy.site → chains ≡ local_layout policy h → IsReadingOfRules (text chains) chains
chains_read policy h chains known is =
    subst (λ (cs : List Chain). IsReadingOfRules (text cs) cs) (sym is) (text_read_again (local_layout policy h) (local_writable policy h known) (local_short policy h known))

lawful_chains : IsLawfulLocal local_chains
lawful_chains = record {
  enforces = chains_enforce;
  other_states = chains_no_other_state;
  read = chains_read;
  one_reading = λ bytes chains others reading other. one_reading bytes others chains other reading;
}

-- ---- tables

lawful_table : IsLawfulLocal local_table
lawful_table = record {
  enforces = λ policy h chains known is. is.enforces;
  other_states = λ policy h chains known is. tt;
  read = λ policy h chains known is. (is.loadable, refl);
  one_reading = λ bytes chains others reading other. machine_text_once others chains other.0 reading.0 (sym other.1 ∙ reading.1);
}

pub local_laws_of : (dialect : CodeDialect) → IsLawfulLocal (local_dialect_of dialect)
local_laws_of Chains = lawful_chains
local_laws_of Table = lawful_table
