-- The part of a policy that concerns one host.
use Rattle.std.specs.Prelude.{ℕ, List, Some, filter}
use Rattle.flow_set.specs.declared.flow.Flow.{Flow}
use Rattle.pkt_core.specs.FlowPolicy.{FlowPolicy, policy_with}
use Rattle.host_emit.specs.Delivery.{is_end}

-- The flows that host h sends or receives.
abbrev pub flows_at : ℕ → List Flow → List Flow
flows_at h flows = filter (λ f. is_end (Some f) h) flows

-- The policy with only the flows of host h.
abbrev pub part_at : ℕ → FlowPolicy → FlowPolicy
part_at h policy = policy_with policy.site (flows_at h policy.permitted) (flows_at h policy.stateful)
