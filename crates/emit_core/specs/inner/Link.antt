-- The policy facts about a host and another, computed once, and the rules for the two in terms of them. They are the
-- rules of the layout.
use Rattle.std.specs.Prelude.{ℕ, Bool, false, not, ◌&&◌, ◌||◌, is_some, if◌then◌else◌, List, [], ◌∷◌, ◌++◌, Option, Some, None, map}
use Rattle.std.specs.Option.{option_map_or}
use Rattle.host_net.specs.declared.prefix.Prefix.{Prefix}
use Rattle.host_net.specs.declared.service.Service.{Service}
use Rattle.host_net.specs.Service.{is_whole, service_matches}
use Rattle.pkt_core.specs.FlowPolicy.{FlowPolicy}
use Rattle.ipt_rules.specs.declared.rule.Rule.{Rule}
use Rattle.ipt_rules.specs.declared.rule.Target.TheVariants.{Drop}
use Rattle.emit_core.specs.declared.parts.Accepted.{Accepted}
use Rattle.emit_core.specs.declared.parts.Accepted.TheVariants.{Answers, Flow as OfFlow}
use Rattle.emit_core.specs.declared.direction.Direction.{Direction}
use Rattle.emit_core.specs.Layout.{match_peer, from_service, to_service}
use Rattle.emit_core.specs.Directions.{connects, other_direction, services_on}

-- The rule that accepts packets to a service, or answers from it.
abbrev pub accepting : Accepted → Direction → Option Prefix → Option Service → Rule
accepting OfFlow side q n = to_service side q n
accepting Answers side q n = from_service side q n

-- The services of the flow in this direction, if it is permitted, and the services of the answered flow, if answers pass.
pub record Link : Type 0 where
  pub side : Direction
  pub flow : Option (List Service)
  pub answers : Option (List Service)

abbrev pub served : Bool → List Service → Option (List Service)
served there ss = if there then Some ss else None

abbrev pub link_of : Direction → FlowPolicy → ℕ → ℕ → Link
link_of side policy i j = record {
  side = side;
  flow = served (connects side policy.permitted i j) (services_on side policy.site.services i j);
  answers = served (connects (other_direction side) policy.stateful i j) (services_on (other_direction side) policy.site.services i j);
}

-- Some packet passes.
abbrev pub is_open_link : Link → Bool
is_open_link link = is_some link.flow || is_some link.answers

-- Every packet passes.
abbrev pub is_whole_link : Link → Bool
is_whole_link link = option_map_or is_whole link.flow false

abbrev pub flow_rules : Link → Option Prefix → List Rule
flow_rules link q = option_map_or (λ ss. map (to_service link.side q) (service_matches ss)) link.flow []

abbrev pub answer_rules : Link → Option Prefix → List Rule
answer_rules link q =
    option_map_or (λ ss. if not (is_whole_link link) then map (from_service link.side q) (service_matches ss) else []) link.answers []

abbrev pub accept_rules : Link → Option Prefix → List Rule
accept_rules link q = flow_rules link q ++ answer_rules link q

-- The drop rules of an open chain.
abbrev pub drop_rules : Link → Bool → Prefix → List Rule
drop_rules link opened q = if opened && not (is_whole_link link) then match_peer link.side (Some q) None Drop ∷ [] else []

abbrev pub prefix_rules : Link → Bool → Prefix → List Rule
prefix_rules link opened q = accept_rules link (Some q) ++ drop_rules link opened q
