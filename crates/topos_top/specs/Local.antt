-- `local FILE HOST` and `local nft FILE HOST`: the rules for the machines of one host, unless the policy was listed and violates an
-- invariant.
use Rattle.std.specs.Prelude.{◌≡◌, ℕ, List, [], ◌∷◌, ◌++◌, None, Some, codes, map, IsTrue}
use Rattle.emit_core.specs.OtherStates.{HaveNoOtherState}
use Rattle.emit_core.specs.declared.direction.Direction.{Direction}
use Rattle.host_emit.specs.HostEnforcement.{EnforcesAtHost, PassesOn}
use Rattle.host_emit.specs.LocalEvents.{DeliversAsExpected}
use Rattle.host_emit.specs.LocalLayout.{is_specific, local_layout}
use Rattle.host_net.specs.Host.{host_named, rest_of}
use Rattle.ipt_read.specs.TextLines.{IsReadingOfRules}
use Rattle.ipt_rules.specs.Chain.{Chain}
use Rattle.ipt_rules.specs.Text.{text}
use Rattle.net_core.specs.Network.{Network}
use Rattle.net_core.specs.Policies.{Policy}
use Rattle.nft_local.specs.HostTable.{CanBeLoaded, IsMachineTable, PassesMachine}
use Rattle.nft_local.specs.MachineText.{machine_text}
use Rattle.nft_read.specs.Shape.{chain_shape}
use Rattle.nft_rules.specs.declared.table.Chain.{Chain as TableChain}
use Rattle.pkt_core.specs.Firewall.{Filter}
use Rattle.pkt_core.specs.FlowPolicy.{FlowPolicy}
use Rattle.report_core.specs.FlowPolicies.{flow_policy_of}
use Rattle.topos_top.specs.Check.{offences_when}
use Rattle.run_core.specs.Outcomes.{Outcomes, says_why}
use Rattle.run_core.specs.Reply.{no_host_line, not_emittable}
use Rattle.topos_top.specs.Rules.{PolicyMeetsInvariants, ListedHolds}
use Rattle.run_core.specs.OfPolicy.{OfPolicy}
use Rattle.run_core.specs.declared.status.Status.TheVariants.{Violated, NotEmittable, Done}

-- ---- the dialects

-- A dialect of the rules for the machines of a host: the type of the rules, and their text; which rules are for the machines of a host, by
-- the policy; which outbound and inbound packets the rules let pass, and how they treat states besides NEW and ESTABLISHED; the rules that a
-- text is read as, and when two lists of rules are the same.
pub record LocalDialect : Type 1 where
  pub Rules : Type 0
  pub text : Rules → List ℕ
  pub AreFor : FlowPolicy → (h : ℕ) → Rules → Type 0
  pub passes : Rules → Direction → Filter
  pub OtherStates : Rules → Type 0
  pub IsReading : List ℕ → Rules → Type 0
  pub AreSame : (rules others : Rules) → Type 0

-- Chains of iptables. A host has one list of them.
abbrev pub local_chains : LocalDialect
local_chains = record {
  Rules = List Chain;
  text = text;
  AreFor = λ policy h chains. chains ≡ local_layout policy h;
  passes = PassesOn;
  OtherStates = HaveNoOtherState;
  IsReading = IsReadingOfRules;
  AreSame = λ chains others. others ≡ chains;
}

-- The chains of a table of nftables, which match only on ESTABLISHED. A host may have several tables. nft reads a text as the chains that it
-- can load and that have this text. Chains with the same contents are the same.
abbrev pub local_table : LocalDialect
local_table = record {
  Rules = List TableChain;
  text = machine_text;
  AreFor = IsMachineTable;
  passes = PassesMachine;
  OtherStates = λ chains. Unit {0};
  IsReading = λ bytes chains. CanBeLoaded chains × (bytes ≡ machine_text chains);
  AreSame = λ chains others. map chain_shape others ≡ map chain_shape chains;
}

-- ---- the outcomes

-- The reason for no rules for a host of that name, and the line that reports it (docs/TEXTS.md): there is no such host, or it is the rest
-- host, which has no prefixes.
pub data CannotEmitLocal (d : Network) (host line : List ℕ) : Type 0 where
  NoHost : host_named d.hosts host ≡ None → line ≡ no_host_line host → CannotEmitLocal d host line
  RestHost : (h : ℕ) → host_named d.hosts host ≡ Some h → rest_of d.hosts ≡ Some h → line ≡ not_emittable (host ++ codes " is the rest host\n") → CannotEmitLocal d host line

-- The host of that name is specific, with this number.
pub record IsSpecific (d : Network) (host : List ℕ) : Type 0 where
  pub number : ℕ
  pub named : host_named d.hosts host ≡ Some number
  pub specific : IsTrue (is_specific d.hosts number)

-- The text is that of rules for the machines of host h, by the policy.
abbrev pub IsMachineText : LocalDialect → FlowPolicy → (h : ℕ) → (bytes : List ℕ) → Type 0
IsMachineText dialect policy h bytes = (rules : dialect.Rules) × dialect.AreFor policy h rules × (bytes ≡ dialect.text rules)

-- The text is that of rules for the machines of that host, for the policy of the network.
abbrev pub IsLocalText : LocalDialect → Network → (host bytes : List ℕ) → Type 0
IsLocalText dialect d host bytes = OfPolicy d (λ policy. (found : IsSpecific d host) × IsMachineText dialect policy found.number bytes)

-- The guarantee of the text of the rules for the machines of a host. They enforce the policy on the host; the policy is that of the network
-- and satisfies its invariants. If every specific host has such rules on its machines, a packet passes if and only if the policy and its
-- answers expect it, for every list of events with valid packets, none of which has both addresses in 127.0.0.0/8. If only some have them,
-- packets between two others pass as well. With any connection tracking only expected packets pass in sound states. No rule matches a state
-- besides ESTABLISHED. The text is read as exactly these rules.
pub record EnforcesPolicyLocally (dialect : LocalDialect) (d : Network) (host bytes : List ℕ) : Type 0 where
  pub policy : Policy
  pub invariants : PolicyMeetsInvariants d policy
  pub found : IsSpecific d host
  pub rules : dialect.Rules
  pub are_for : dialect.AreFor (flow_policy_of d policy) found.number rules
  pub written : bytes ≡ dialect.text rules
  pub enforces_at_host : EnforcesAtHost (dialect.passes rules) (flow_policy_of d policy) found.number
  pub passes : (all : ℕ → dialect.Rules) → ((h : ℕ) → IsTrue (is_specific d.hosts h) → dialect.AreFor (flow_policy_of d policy) h (all h))
      → DeliversAsExpected (λ h. dialect.passes (all h)) (flow_policy_of d policy)
  pub other_states : dialect.OtherStates rules
  pub read : dialect.IsReading bytes rules
  pub only_reading : (others : dialect.Rules) → dialect.IsReading bytes others → dialect.AreSame rules others

-- The rules, if the condition holds and the host is specific; with higher precedence the line with the reason, if the condition holds and
-- the host is not specific.
abbrev pub machines_when : Type 0 → LocalDialect → Network → (host : List ℕ) → Outcomes
machines_when holds dialect d host =
    says_why NotEmittable holds (CannotEmitLocal d host)
    ∷ (record {
      status = Done;
      when = holds × IsSpecific d host;
      is = IsLocalText dialect d host;
      guarantees = EnforcesPolicyLocally dialect d host;
    }
    ∷ [])

-- The same, or the report of `check` if a listed policy violates an invariant.
abbrev pub local_outcomes : LocalDialect → Network → (host : List ℕ) → Outcomes
local_outcomes dialect d host = offences_when Violated (ListedHolds d → ⊥) d ∷ machines_when (ListedHolds d) dialect d host
