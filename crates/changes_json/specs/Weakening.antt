-- What a change of a network weakens: flows that an invariant denied and that none denies any more, and new gaps. A flow is denied given the
-- permitted flows of its network, as `network` reports it.
use Rattle.std.specs.Prelude.{◌↔◌, Bool, not, List, [], ◌∷◌, All, length, map, IsTrue, if◌then◌else◌}
use Rattle.change_core.specs.Weaker.{AreWeaker, IsNewGap}
use Rattle.explain_core.specs.Failing.{AreDenying}
use Rattle.explain_core.specs.Findings.{AreDenials}
use Rattle.explain_core.specs.declared.finding.Finding.{Finding}
use Rattle.flow_set.specs.EveryFlow.{every_flow}
use Rattle.flow_set.specs.FlowSet.{IsOrdered, has}
use Rattle.flow_set.specs.declared.flow.Flow.{Flow}
use Rattle.net_core.specs.Network.{Network, site_of}
use Rattle.net_core.specs.Policies.{Policy, holds_on}
use Rattle.why_json.specs.WhyJson.{is_gap}
use Rattle.json_core.specs.Json.{is_nothing}
use Rattle.why_json.specs.Standings.{standing_of}
use Rattle.changes_json.specs.declared.weakening.Weakening.{Weakening}

-- The flows of the findings that satisfy a condition.
abbrev pub flows_where : (Finding → Bool) → List Finding → List Flow
flows_where wanted [] = []
flows_where wanted (x ∷ xs) = if wanted x then x.flow ∷ flows_where wanted xs else flows_where wanted xs

-- No invariant denies the flow.
abbrev pub is_free : Finding → Bool
is_free x = is_nothing x.by.items

-- An invariant denies the flow.
abbrev pub is_denied : Finding → Bool
is_denied x = not (is_nothing x.by.items)

-- The flow is a gap of the network.
abbrev pub is_gap_of : Network → Policy → Finding → Bool
is_gap_of d policy x = is_gap (standing_of d policy x.flow) x.by.items

-- The findings are of every flow of the network, each with all invariants that deny it given the permitted flows.
abbrev pub AreAllDenials : Network → Policy → List Finding → Type 0
AreAllDenials d policy found = AreDenials holds_on d.invariants (every_flow (length d.hosts)) policy.permitted.flows found

-- The change from an old network to a new one weakens these flows, and has these new gaps: the weaker flows are free in the new network and
-- share a packet with a flow that the old network denies, each with all invariants of the old network that deny this flow; a packet of a new
-- gap was in no gap of the old network.
pub record IsWeakening (old : Network) (before : Policy) (new : Network) (after : Policy) (w : Weakening) : Type 0 where
  pub old_denials : List Finding
  pub are_old_denials : AreAllDenials old before old_denials
  pub denials : List Finding
  pub are_denials : AreAllDenials new after denials
  pub weaker : AreWeaker (site_of old) (flows_where is_denied old_denials) (site_of new) (flows_where is_free denials) (map (λ x. x.flows) w.weaker.items)
  pub denied_by : All (λ x. AreDenying holds_on old.invariants before.permitted.flows x.flows.old x.denied_by.items) w.weaker.items
  pub ordered : IsOrdered w.gaps.flows
  pub gaps : (f : Flow) → (IsTrue (has w.gaps.flows f) ↔
      IsNewGap old.hosts (flows_where (is_gap_of old before) old_denials) new.hosts (flows_where (is_gap_of new after) denials) f)
