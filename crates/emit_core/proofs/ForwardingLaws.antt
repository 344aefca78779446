-- The layout of a policy enforces it.
use Rattle.std.proofs.Common.{◌≡◌, ℕ, ◌+◌, ◌<◌, zero, suc, Bool, true, false, not, ◌&&◌, ◌||◌, ◌==◌, List, [], ◌∷◌, Option, Some, None, length, refl, sym, ap, subst, ◌∙◌, arith, add-zero}
use Rattle.std.specs.Prelude.{if◌then◌else◌, slice_get, option_map, map}
use Rattle.std.specs.List.{range_with_len}
use Rattle.std.specs.Option.{option_or, option_and_then, option_map_or}
use Rattle.host_net.specs.declared.packet.Packet.{Packet}
use Rattle.host_net.specs.declared.packet.CtState.{CtState}
use Rattle.host_net.specs.declared.packet.Verdict.{Verdict}
use Rattle.host_net.specs.declared.prefix.Prefix.{Prefix}
use Rattle.host_net.specs.Host.{owner_of, prefix_owner_of, rest_of}
use Rattle.host_net.specs.inner.Hosts.{IsHosts}
use Rattle.host_net.specs.Packet.{IsPacket, swap_of}
use Rattle.host_net.specs.Service.{is_served}
use Rattle.host_net.specs.Services.{RestrictedFlow, services_of}
use Rattle.host_net.specs.Site.{Site}
use Rattle.host_net.specs.Verdict.{verdict_if}
use Rattle.host_net.proofs.VerdictLaws.{verdict_if-injective}
use Rattle.flow_set.specs.declared.flow.Flow.{Flow}
use Rattle.flow_set.specs.FlowSet.{has, IsSubset}
use Rattle.ipt_rules.specs.declared.rule.Rule.{Rule}
use Rattle.ipt_rules.specs.declared.rule.Target.TheVariants.{Jump}
use Rattle.ipt_rules.specs.declared.rule.Policy.TheVariants.{Drop as Dropping}
use Rattle.ipt_rules.specs.Chain.{rules_of}
use Rattle.ipt_rules.specs.inner.ChainTable.{rules_in}
use Rattle.ipt_rules.specs.Matching.{matches}
use Rattle.ipt_rules.specs.Semantics.{Gives, PassesChains, verdict_by}
use Rattle.ipt_rules.proofs.MeaningLaws.{verdict_once}
use Rattle.ipt_rules.specs.inner.OneOutcome.{HasVerdict}
use Rattle.ipt_rules.specs.inner.Saying.{Says}
use Rattle.ipt_rules.proofs.SayingLaws.{says_none, says_append, says_jump, gives_said, verdict_said}
use Rattle.pkt_core.specs.Filter.{Enforces, ForwardsAsExpected}
use Rattle.pkt_core.proofs.FilterLaws.{enforced_expected}
use Rattle.pkt_core.specs.Firewall.{is_established}
use Rattle.pkt_core.specs.FlowPolicy.{FlowPolicy, flow_of_owners, lets_pass}
use Rattle.emit_core.specs.declared.direction.Direction.TheVariants.{Outbound, Inbound}
use Rattle.emit_core.proofs.HostChainLaws.{says_for_each, may_link_owner, said_by, host_says}
use Rattle.emit_core.specs.Layout.{for_each_prefix, host_rules, forward_rules, rest_jump, jump_from, from_source, chain_of, layout, host_chain}
use Rattle.emit_core.proofs.OwnerLaws.{IsHeldOnce, hosts_hold_once, rest_below}
use Rattle.emit_core.proofs.RuleFitsLaws.{lies_in, source_fits}
use Rattle.emit_core.specs.Directions.{permits}

-- 1. FORWARD.

-- The chain of host i is in the layout at its number.
host_chain_at : (policy : FlowPolicy) (k n i : ℕ) → i < n
    → slice_get (map (host_chain policy) (range_with_len k n)) i ≡ Some (host_chain policy (k + i))
host_chain_at policy k zero i below = absurd (omega arith)
host_chain_at policy k (suc n) zero below = rw add-zero refl
host_chain_at policy k (suc n) (suc i) below =
    let later : i < n = omega arith in
    let moved : k + 1 + i ≡ k + suc i = omega arith in
    rw (← moved) (host_chain_at policy (k + 1) n i later)

chain_rules : (policy : FlowPolicy) (i : ℕ) → i < length policy.site.hosts
    → rules_of (layout policy) (chain_of i) ≡ host_rules Outbound policy i
chain_rules policy i below =
    let three : i + 3 ≡ suc (suc (suc i)) = omega arith in
    let start : 0 + i ≡ i = omega arith in
    rw three (ap rules_in (host_chain_at policy 0 (length policy.site.hosts) i below) ∙ ap (host_rules Outbound policy) start)

jump_says : (policy : FlowPolicy) (packet : Packet) (state : CtState) (i : ℕ) → IsPacket packet → i < length policy.site.hosts
    → IsHeldOnce packet.dst policy.site.hosts → (q : Option Prefix)
    → Says (matches packet state) (layout policy) (from_source q (Jump (chain_of i)) ∷ [])
    (if lies_in q packet.src then Some (said_by Outbound policy packet state i) else None)
jump_says policy packet state i is below once q =
    let fits = matches packet state in
    let chains = layout policy in
    let v = said_by Outbound policy packet state i in
    subst (λ (x : Bool). Says fits chains (from_source q (Jump (chain_of i)) ∷ []) (if x then Some v else None))
    (source_fits q (Jump (chain_of i)) packet state)
    (says_jump fits chains (from_source q (Jump (chain_of i))) (chain_of i) (Some v) refl
    (subst (λ (x : List Rule). Gives fits chains x (Some v)) (sym (chain_rules policy i below))
    (gives_said fits chains (host_rules Outbound policy i) (Some v) (host_says Outbound chains policy packet state i is once))))

rest_jump_says : (policy : FlowPolicy) (packet : Packet) (state : CtState) (rest : Option ℕ) → IsPacket packet
    → ((r : ℕ) → rest ≡ Some r → r < length policy.site.hosts) → IsHeldOnce packet.dst policy.site.hosts
    → Says (matches packet state) (layout policy) (rest_jump rest) (option_map (said_by Outbound policy packet state) rest)
rest_jump_says policy packet state None is below once = says_none (matches packet state) (layout policy)
rest_jump_says policy packet state (Some r) is below once = jump_says policy packet state r is (below r refl) once None

by_owner : (said : ℕ → Verdict) (owner rest : Option ℕ)
    → option_or (option_and_then (λ i. Some (said i)) owner) (option_map said rest) ≡ option_map said (option_or owner rest)
by_owner said None rest = refl
by_owner said (Some i) rest = refl

-- FORWARD has the verdict of the chain of the host that owns the source.
forward_says : (policy : FlowPolicy) (packet : Packet) (state : CtState) → IsPacket packet
    → IsHeldOnce packet.src policy.site.hosts → IsHeldOnce packet.dst policy.site.hosts
    → Says (matches packet state) (layout policy) (forward_rules policy.site.hosts) (option_map (said_by Outbound policy packet state) (owner_of policy.site.hosts packet.src))
unfolding owner_of
forward_says policy packet state is source destination =
    let fits = matches packet state in
    let chains = layout policy in
    let said = said_by Outbound policy packet state in
    let own = prefix_owner_of policy.site.hosts packet.src in
    subst (λ (x : Option Verdict). Says fits chains (forward_rules policy.site.hosts) x) (by_owner said own (rest_of policy.site.hosts))
    (says_append fits chains (for_each_prefix jump_from 0 policy.site.hosts) (rest_jump (rest_of policy.site.hosts)) _ _
    (says_for_each fits chains packet.src (length policy.site.hosts) (λ i. Some (said i)) jump_from
    (λ i below q. jump_says policy packet state i is below destination (Some q)) 0 policy.site.hosts (omega arith) source)
    (rest_jump_says policy packet state (rest_of policy.site.hosts) is (rest_below policy.site.hosts) destination))

-- 2. The policy.

in_set : (flows : List Flow) (f : Flow) (same served : Bool)
    → ((not same && has flows f) && served) ≡ option_map_or (λ g. has flows g && served) (if same then None else Some f) false
in_set flows f true served = refl
in_set flows f false served = refl

answered : (flows : List Flow) (f : Flow) (same served established : Bool)
    → ((not same && has flows f) && (served && established)) ≡ (option_map_or (λ g. has flows g && served) (if same then None else Some f) false && established)
answered flows f true served established = refl
answered flows f false served established = together (has flows f) served established
  where
    together : (a b c : Bool) → (a && (b && c)) ≡ ((a && b) && c)
    together true b c = refl
    together false b c = refl

-- The flow that is found is the requested one, with its services.
of_found : (services : List RestrictedFlow) (flows : List Flow) (f : Flow) (packet : Packet) (same : Bool)
    → option_map_or (λ g. has flows g && is_served (services_of services f.from f.to) packet) (if same then None else Some f) false
    ≡ option_map_or (λ g. has flows g && is_served (services_of services g.from g.to) packet) (if same then None else Some f) false
of_found services flows f packet true = refl
of_found services flows f packet false = refl

-- The flow between two owners is in the set and matches the packet.
to_one : (site : Site) (p : List Flow) (packet : Packet) (i j : ℕ)
    → (permits p i j && is_served (services_of site.services i j) packet)
    ≡ option_map_or (λ f. has p f && is_served (services_of site.services f.from f.to) packet) (flow_of_owners (Some i) (Some j)) false
to_one site p packet i j =
    let f : Flow = record { from = i; to = j } in
    in_set p f (i == j) (is_served (services_of site.services i j) packet) ∙ of_found site.services p f packet (i == j)

back_to_one : (site : Site) (s : List Flow) (packet : Packet) (established : Bool) (i j : ℕ)
    → (permits s j i && (is_served (services_of site.services j i) (swap_of packet) && established))
    ≡ (option_map_or (λ f. has s f && is_served (services_of site.services f.from f.to) (swap_of packet)) (flow_of_owners (Some j) (Some i)) false && established)
back_to_one site s packet established i j =
    let f : Flow = record { from = j; to = i } in
    answered s f (j == i) (is_served (services_of site.services j i) (swap_of packet)) established
    ∙ ap (λ b. b && established) (of_found site.services s f (swap_of packet) (j == i))

-- A policy allows a packet if and only if the owner of its source may send to the owner of its destination.
pub owners_send : (policy : FlowPolicy) (packet : Packet) (established : Bool) (from to : Option ℕ)
    → option_map_or (λ i. may_link_owner Outbound policy packet established i to) from false
    ≡ (option_map_or (λ f. has policy.permitted f && is_served (services_of policy.site.services f.from f.to) packet) (flow_of_owners from to) false
    || (option_map_or (λ f. has policy.stateful f && is_served (services_of policy.site.services f.from f.to) (swap_of packet)) (flow_of_owners to from) false && established))
owners_send policy packet established None None = refl
owners_send policy packet established None (Some j) = refl
owners_send policy packet established (Some i) None = refl
owners_send policy packet established (Some i) (Some j) = λ k. to_one policy.site policy.permitted packet i j k || back_to_one policy.site policy.stateful packet established i j k

-- Equivalently, if the owner of its destination may receive from the owner of its source.
pub owners_receive : (policy : FlowPolicy) (packet : Packet) (established : Bool) (from to : Option ℕ)
    → option_map_or (λ j. may_link_owner Inbound policy packet established j from) to false
    ≡ (option_map_or (λ f. has policy.permitted f && is_served (services_of policy.site.services f.from f.to) packet) (flow_of_owners from to) false
    || (option_map_or (λ f. has policy.stateful f && is_served (services_of policy.site.services f.from f.to) (swap_of packet)) (flow_of_owners to from) false && established))
owners_receive policy packet established None None = refl
owners_receive policy packet established None (Some j) = refl
owners_receive policy packet established (Some i) None = refl
owners_receive policy packet established (Some i) (Some j) = λ k. to_one policy.site policy.permitted packet i j k || back_to_one policy.site policy.stateful packet established i j k

-- A chain that drops packets which no rule decides.
by_default : (sends : ℕ → Bool) (owner : Option ℕ)
    → verdict_if (option_map_or sends owner false) ≡ verdict_by (Some Dropping) (option_map (λ i. verdict_if (sends i)) owner)
by_default sends None = refl
by_default sends (Some i) = refl

-- Each packet has the verdict of the policy.
layout_verdict : (policy : FlowPolicy) (packet : Packet) (state : CtState) → IsPacket packet
    → IsHeldOnce packet.src policy.site.hosts → IsHeldOnce packet.dst policy.site.hosts
    → HasVerdict (layout policy) packet state (verdict_if (lets_pass policy packet state))
layout_verdict policy packet state is source destination =
    let owner = owner_of policy.site.hosts packet.src in
    let to = owner_of policy.site.hosts packet.dst in
    let said = option_map (said_by Outbound policy packet state) owner in
    let same : verdict_by (Some Dropping) said ≡ verdict_if (lets_pass policy packet state) =
    sym (by_default (λ i. may_link_owner Outbound policy packet (is_established state) i to) owner) ∙ ap verdict_if (owners_send policy packet (is_established state) owner to) in
    subst (HasVerdict (layout policy) packet state) same
    (verdict_said (layout policy) 1 packet state said (forward_says policy packet state is source destination))

-- In every state the chains accept exactly the packets that the policy allows.
pub layout_enforces : (policy : FlowPolicy) → IsHosts policy.site.hosts → Enforces (PassesChains (layout policy)) policy
layout_enforces policy known =
    let once = hosts_hold_once policy.site.hosts known in
    record {
      given = λ packet state is. layout_verdict policy packet state is (once packet.src) (once packet.dst);
      only = λ packet state passes is has. verdict_if-injective passes _ (verdict_once has (layout_verdict policy packet state is (once packet.src) (once packet.dst)));
    }

-- So they forward exactly what is expected.
pub layout_expected : (policy : FlowPolicy) → IsHosts policy.site.hosts → IsSubset policy.stateful policy.permitted → ForwardsAsExpected (PassesChains (layout policy)) policy
layout_expected policy known subset = enforced_expected (PassesChains (layout policy)) policy subset (layout_enforces policy known)
