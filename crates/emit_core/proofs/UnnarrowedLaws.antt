-- If all flows are unrestricted, services change nothing: the flow of a packet depends only on its hosts, and a chain has for a host one
-- rule that accepts everything, one that accepts only answers, or none.
use Rattle.std.proofs.Common.{◌≡◌, ℕ, Bool, true, false, not, ◌&&◌, List, [], ◌∷◌, ◌++◌, Option, Some, None, refl, ap}
use Rattle.std.specs.Prelude.{if◌then◌else◌}
use Rattle.std.specs.Option.{option_map_or}
use Rattle.std.proofs.Math.Bool.{and-true}
use Rattle.std.proofs.lemmas.List.{append-nil}
use Rattle.host_net.specs.declared.packet.Packet.{Packet}
use Rattle.host_net.specs.declared.prefix.Prefix.{Prefix}
use Rattle.host_net.specs.Host.{Host, rest_of}
use Rattle.host_net.specs.Service.{is_served}
use Rattle.host_net.specs.inner.Site.{unnarrowed}
use Rattle.flow_set.specs.declared.flow.Flow.{Flow}
use Rattle.flow_set.specs.FlowSet.{has}
use Rattle.ipt_rules.specs.declared.rule.Rule.{Rule}
use Rattle.ipt_rules.specs.declared.rule.Target.TheVariants.{Accept, Drop}
use Rattle.pkt_core.specs.FlowPolicy.{FlowPolicy, flow_of, is_of}
use Rattle.emit_core.specs.declared.direction.Direction.{Direction}
use Rattle.emit_core.specs.Layout.{for_each_prefix, match_peer, match_established, accepts, is_open, drops, to_rest, host_rules}
use Rattle.emit_core.specs.Directions.{connects, other_direction}
use Rattle.emit_core.specs.inner.UnnarrowedLayout.{whole_accepts, whole_drops, whole_host_rules, whole_to_rest, without_services}

of_flow : (flows : List Flow) (o : Option Flow) (packet : Packet)
    → option_map_or (λ f. has flows f && is_served [] packet) o false ≡ option_map_or (λ f. has flows f) o false
of_flow flows None packet = refl
of_flow flows (Some f) packet = and-true (has flows f)

-- The flow of a packet depends only on its hosts.
pub is_of-unnarrowed : (hosts : List Host) (flows : List Flow) (packet : Packet)
    → is_of (unnarrowed hosts) flows packet ≡ option_map_or (λ f. has flows f) (flow_of hosts packet) false
is_of-unnarrowed hosts flows packet = of_flow flows (flow_of hosts packet) packet

accepted : (flow answer : List Rule) (b c : Bool) → (if b then flow else []) ++ (if c && not (b && true) then answer else [])
    ≡ (if b then flow else (if c then answer else []))
accepted flow answer true true = append-nil flow
accepted flow answer true false = append-nil flow
accepted flow answer false true = refl
accepted flow answer false false = refl

pub accepts-unnarrowed : (side : Direction) (policy : FlowPolicy) (i j : ℕ) (q : Option Prefix)
    → accepts side (without_services policy) i j q ≡ whole_accepts side policy i j q
accepts-unnarrowed side policy i j q =
    accepted (match_peer side q None Accept ∷ []) (match_peer side q match_established Accept ∷ []) (connects side policy.permitted i j) (connects (other_direction side) policy.stateful i j)

pub drops-unnarrowed : (side : Direction) (policy : FlowPolicy) (i : ℕ) (rest : Option ℕ) (j : ℕ) (q : Prefix)
    → drops side (without_services policy) i rest j q ≡ whole_drops side policy i rest j q
drops-unnarrowed side policy i rest j q =
    ap (λ b. if is_open side policy i rest && not b then match_peer side (Some q) None Drop ∷ [] else []) (and-true (connects side policy.permitted i j))

rest_same : (side : Direction) (policy : FlowPolicy) (i : ℕ) (rest : Option ℕ)
    → to_rest side (without_services policy) i rest ≡ whole_to_rest side policy i rest
rest_same side policy i None = refl
rest_same side policy i (Some r) = accepts-unnarrowed side policy i r None

-- The chain of a host.
pub host_rules-unnarrowed : (side : Direction) (policy : FlowPolicy) (i : ℕ)
    → host_rules side (without_services policy) i ≡ whole_host_rules side policy i
host_rules-unnarrowed side policy i =
    λ k. for_each_prefix (λ j q. accepts-unnarrowed side policy i j (Some q) k ++ drops-unnarrowed side policy i (rest_of policy.site.hosts) j q k) 0 policy.site.hosts
    ++ (rest_same side policy i (rest_of policy.site.hosts) k ++ match_peer side None None Drop ∷ [])
