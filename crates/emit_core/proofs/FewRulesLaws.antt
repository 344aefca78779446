-- The greatest number of rules of the chain of a host: at each prefix one for each service, as many for answers, and a
-- drop.
use Rattle.std.proofs.Common.{ℕ, ◌*◌, ◌≤◌, Bool, true, false, not, ◌&&◌, List, [], ◌∷◌, ◌++◌, Option, Some, None, length, map, arith, length-append}
use Rattle.std.specs.Prelude.{if◌then◌else◌}
use Rattle.std.proofs.lemmas.List.{length-map}
use Rattle.host_net.specs.declared.prefix.Prefix.{Prefix}
use Rattle.host_net.specs.declared.service.Service.{Service}
use Rattle.host_net.specs.Host.{rest_of}
use Rattle.host_net.specs.Service.{service_matches}
use Rattle.host_net.specs.Services.{service_limit}
use Rattle.host_net.specs.inner.Services.{AreServices}
use Rattle.host_net.specs.Site.{Site}
use Rattle.host_net.specs.inner.Site.{IsSite}
use Rattle.pkt_core.specs.FlowPolicy.{FlowPolicy}
use Rattle.ipt_rules.specs.declared.rule.Rule.{Rule}
use Rattle.ipt_rules.specs.declared.rule.Target.TheVariants.{Drop}
use Rattle.emit_core.specs.declared.direction.Direction.{Direction}
use Rattle.emit_core.specs.Directions.{connects, other_direction, services_on, flow_on}
use Rattle.emit_core.specs.Layout.{for_each_prefix, match_peer, to_service, from_service, connects_unrestricted, accepts_flow, accepts_answers, accepts, drops, is_open, to_prefix, to_rest, host_rules}
use Rattle.emit_core.proofs.LayoutLaws.{few_for_all}

few_narrowings : (ss : List Service) → length ss ≤ service_limit → length (service_matches ss) ≤ service_limit
few_narrowings [] few = omega arith
few_narrowings (s ∷ ss) few = omega (arith, length-map (s ∷ ss) (λ t. Some t))

few_if : (b : Bool) (rules : List Rule) (most : ℕ) → length rules ≤ most → length (if b then rules else []) ≤ most
few_if true rules most few = few
few_if false rules most few = omega arith

few_services : (side : Direction) (site : Site) (i j : ℕ) (rule : Option Service → Rule) → AreServices site.services
    → length (map rule (service_matches (services_on side site.services i j))) ≤ service_limit
few_services side site i j rule are =
    let ss = services_on side site.services i j in
    omega (arith, length-map (service_matches ss) rule, few_narrowings ss (are.few (flow_on side i j).from (flow_on side i j).to))

few_accepts : (side : Direction) (policy : FlowPolicy) (i j : ℕ) (q : Option Prefix) → AreServices policy.site.services
    → length (accepts side policy i j q) ≤ 2 * service_limit
few_accepts side policy i j q are =
    omega (
      arith,
      few_if (connects side policy.permitted i j) (map (to_service side q) (service_matches (services_on side policy.site.services i j))) service_limit
          (few_services side policy.site i j (to_service side q) are),
      few_if (connects (other_direction side) policy.stateful i j && not (connects_unrestricted side policy i j)) (map (from_service side q) (service_matches (services_on (other_direction side) policy.site.services i j)))
          service_limit (few_services (other_direction side) policy.site i j (from_service side q) are),
      length-append (accepts_flow side policy i j q) (accepts_answers side policy i j q),
    )

few_to_prefix : (side : Direction) (policy : FlowPolicy) (i : ℕ) (rest : Option ℕ) → AreServices policy.site.services
    → (j : ℕ) (q : Prefix) → length (to_prefix side policy i rest j q) ≤ 33
few_to_prefix side policy i rest are j q =
    omega (
      arith,
      few_accepts side policy i j (Some q) are,
      few_if (is_open side policy i rest && not (connects_unrestricted side policy i j)) (match_peer side (Some q) None Drop ∷ []) 1 (omega arith),
      length-append (accepts side policy i j (Some q)) (drops side policy i rest j q),
    )

few_to_rest : (side : Direction) (policy : FlowPolicy) (i : ℕ) (rest : Option ℕ) → AreServices policy.site.services
    → length (to_rest side policy i rest) ≤ 32
few_to_rest side policy i None are = omega arith
few_to_rest side policy i (Some r) are = few_accepts side policy i r None are

pub few_to_hosts : (side : Direction) (policy : FlowPolicy) (i : ℕ) (rest : Option ℕ) → IsSite policy.site
    → length (for_each_prefix (to_prefix side policy i rest) 0 policy.site.hosts) ≤ 33 * 1024
few_to_hosts side policy i rest is =
    let few = is.hosts.few_prefixes in
    omega (arith, few, few_for_all 33 (to_prefix side policy i rest) (few_to_prefix side policy i rest is.services) 0 policy.site.hosts)

-- The chain of a host for outbound or for inbound packets.
pub few_host_rules : (side : Direction) (policy : FlowPolicy) (i : ℕ) → IsSite policy.site → length (host_rules side policy i) ≤ 33825
few_host_rules side policy i is =
    omega (
      arith,
      few_to_hosts side policy i (rest_of policy.site.hosts) is,
      few_to_rest side policy i (rest_of policy.site.hosts) is.services,
      length-append (for_each_prefix (to_prefix side policy i (rest_of policy.site.hosts)) 0 policy.site.hosts) (to_rest side policy i (rest_of policy.site.hosts) ++ match_peer side None None Drop ∷ []),
      length-append (to_rest side policy i (rest_of policy.site.hosts)) (match_peer side None None Drop ∷ []),
    )
