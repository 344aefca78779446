-- The chain of a host if all flows are unrestricted: each rule accepts or drops all packets at a prefix, or accepts only answers.
use Rattle.std.specs.Prelude.{ℕ, not, ◌&&◌, if◌then◌else◌, List, [], ◌∷◌, ◌++◌, Option, Some, None}
use Rattle.host_net.specs.declared.prefix.Prefix.{Prefix}
use Rattle.host_net.specs.Host.{rest_of}
use Rattle.host_net.specs.inner.Site.{unnarrowed}
use Rattle.ipt_rules.specs.declared.rule.Rule.{Rule}
use Rattle.ipt_rules.specs.declared.rule.Target.TheVariants.{Accept, Drop}
use Rattle.pkt_core.specs.FlowPolicy.{FlowPolicy}
use Rattle.emit_core.specs.declared.direction.Direction.{Direction}
use Rattle.emit_core.specs.Layout.{for_each_prefix, match_peer, match_established, is_open}
use Rattle.emit_core.specs.Directions.{connects, other_direction}

-- The policy with all flows unrestricted.
abbrev pub without_services : FlowPolicy → FlowPolicy
without_services policy = record policy { site = unnarrowed policy.site.hosts }

-- The rule that accepts at the prefix q of host j: all packets if the flow is permitted; only answers if its reverse is stateful; otherwise
-- there is no rule.
abbrev pub whole_accepts : Direction → FlowPolicy → ℕ → ℕ → Option Prefix → List Rule
whole_accepts side policy i j q =
    if connects side policy.permitted i j then match_peer side q None Accept ∷ []
    else (if connects (other_direction side) policy.stateful i j then match_peer side q match_established Accept ∷ [] else [])

-- The rule of an open chain that drops all packets at the prefix q of host j, unless the flow is permitted.
abbrev pub whole_drops : Direction → FlowPolicy → ℕ → Option ℕ → ℕ → Prefix → List Rule
whole_drops side policy i rest j q =
    if is_open side policy i rest && not (connects side policy.permitted i j) then match_peer side (Some q) None Drop ∷ [] else []

-- The rule that accepts packets to the rest host, or from it.
abbrev pub whole_to_rest : Direction → FlowPolicy → ℕ → Option ℕ → List Rule
whole_to_rest side policy i None = []
whole_to_rest side policy i (Some r) = whole_accepts side policy i r None

-- The chain of host i has these rules at the prefixes of each host, then the rule for the rest host, and a last rule that drops all packets.
abbrev pub whole_host_rules : Direction → FlowPolicy → ℕ → List Rule
whole_host_rules side policy i =
    for_each_prefix (λ j q. whole_accepts side policy i j (Some q) ++ whole_drops side policy i (rest_of policy.site.hosts) j q) 0 policy.site.hosts
    ++ (whole_to_rest side policy i (rest_of policy.site.hosts) ++ match_peer side None None Drop ∷ [])
