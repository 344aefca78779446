-- The layout for the machines of one host as iptables chains (docs/TEXTS.md, the rules for the machines of one host). Hosts are identified
-- by their numbers.
use Rattle.std.specs.Prelude.{ℕ, Bool, true, not, ◌==◌, List, [], ◌∷◌, Some, None, codes, slice_get}
use Rattle.std.specs.List.{flat_map}
use Rattle.std.specs.Option.{option_map_or}
use Rattle.host_net.specs.declared.prefix.Prefix.{Prefix}
use Rattle.host_net.specs.Host.{Host, rest_of}
use Rattle.host_net.specs.Prefix.{prefix_with}
use Rattle.pkt_core.specs.FlowPolicy.{FlowPolicy}
use Rattle.ipt_rules.specs.declared.rule.Rule.{Rule}
use Rattle.ipt_rules.specs.declared.rule.Target.TheVariants.{Accept, Jump}
use Rattle.ipt_rules.specs.declared.rule.Policy.TheVariants.{Drop as Dropping}
use Rattle.ipt_rules.specs.Chain.{Chain}
use Rattle.emit_core.specs.declared.direction.Direction.{Direction}
use Rattle.emit_core.specs.declared.direction.Direction.TheVariants.{Outbound, Inbound}
use Rattle.emit_core.specs.Layout.{match_peer, host_rules, match_prefix}
use Rattle.emit_core.specs.Directions.{other_direction}

-- Every host except the rest host is specific.
abbrev pub is_specific : List Host → ℕ → Bool
is_specific hosts h = option_map_or (λ r. not (r == h)) (rest_of hosts) true

-- The prefixes of host h.
abbrev pub prefixes_of : List Host → ℕ → List Prefix
prefixes_of hosts h = option_map_or (λ x. x.prefixes) (slice_get hosts h) []

-- 127.0.0.0/8, the loopback addresses of a machine (RFC 1122, section 3.2.1.3).
abbrev pub loopback : Prefix
loopback = prefix_with 2130706432 8

-- The rule that accepts loopback packets.
abbrev pub loopback_rule : Rule
loopback_rule = record {
  src = match_prefix (Some loopback);
  dst = match_prefix (Some loopback);
  proto = None;
  sport = None;
  dport = None;
  state = None;
  target = Accept;
}

-- A machine sends through OUTPUT, and receives through INPUT.
abbrev pub entry_of : Direction → ℕ
entry_of Outbound = 2
entry_of Inbound = 0

-- OUT is the user chain for outbound packets, and IN the one for inbound packets.
abbrev pub chain_for : Direction → ℕ
chain_for Outbound = 4
chain_for Inbound = 3

-- A jump to the user chain for an address of the host itself.
abbrev pub own_jump : Direction → Prefix → List Rule
own_jump side q = match_peer (other_direction side) (Some q) None (Jump (chain_for side)) ∷ []

-- The rules of INPUT or OUTPUT: for loopback packets, and for packets with an address of the host itself.
abbrev pub entry_rules : Direction → List Prefix → List Rule
entry_rules side prefixes = loopback_rule ∷ flat_map (own_jump side) prefixes

-- The chains of a machine, given their rules: the policy of the built-in chains is DROP, and FORWARD is empty.
abbrev pub machine_chains : (input output incoming outgoing : List Rule) → List Chain
machine_chains input output incoming outgoing =
    record { name = codes "INPUT"; policy = Some Dropping; rules = input }
    ∷ record { name = codes "FORWARD"; policy = Some Dropping; rules = [] }
    ∷ record { name = codes "OUTPUT"; policy = Some Dropping; rules = output }
    ∷ record { name = codes "IN"; policy = None; rules = incoming }
    ∷ record { name = codes "OUT"; policy = None; rules = outgoing }
    ∷ []

-- The layout for host h: OUT has the rules of its chain on a firewall between the hosts, and IN has the rules for the
-- reverse direction.
abbrev pub local_layout : FlowPolicy → ℕ → List Chain
local_layout policy h =
    machine_chains (entry_rules Inbound (prefixes_of policy.site.hosts h)) (entry_rules Outbound (prefixes_of policy.site.hosts h))
    (host_rules Inbound policy h) (host_rules Outbound policy h)
