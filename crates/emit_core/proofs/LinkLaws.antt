-- The rules that are built from the facts about two hosts are those of the layout.
use Rattle.std.proofs.Common.{◌≡◌, ℕ, Bool, true, false, not, ◌&&◌, ◌||◌, List, [], ◌∷◌, ◌++◌, Option, Some, None, map, refl}
use Rattle.std.specs.Prelude.{if◌then◌else◌}
use Rattle.host_net.specs.declared.prefix.Prefix.{Prefix}
use Rattle.host_net.specs.declared.service.Service.{Service}
use Rattle.host_net.specs.Service.{is_whole, service_matches}
use Rattle.pkt_core.specs.FlowPolicy.{FlowPolicy}
use Rattle.ipt_rules.specs.declared.rule.Target.TheVariants.{Drop}
use Rattle.emit_core.specs.declared.direction.Direction.{Direction}
use Rattle.emit_core.specs.Layout.{accepts, match_peer, from_service, is_open, to_prefix, to_service}
use Rattle.emit_core.specs.Directions.{connects, other_direction, services_on}
use Rattle.emit_core.specs.inner.Link.{accept_rules, is_open_link, link_of, prefix_rules, served}

open_by : (side : Direction) (b c : Bool) (ss ts : List Service) → is_open_link (record { side = side; flow = served b ss; answers = served c ts }) ≡ (b || c)
open_by side true c ss ts = refl
open_by side false true ss ts = refl
open_by side false false ss ts = refl

pub link_open : (side : Direction) (policy : FlowPolicy) (i j : ℕ) → is_open_link (link_of side policy i j) ≡ (connects side policy.permitted i j || connects (other_direction side) policy.stateful i j)
link_open side policy i j =
    open_by side (connects side policy.permitted i j) (connects (other_direction side) policy.stateful i j) (services_on side policy.site.services i j) (services_on (other_direction side) policy.site.services i j)

accepts_by : (side : Direction) (b c : Bool) (ss ts : List Service) (q : Option Prefix)
    → accept_rules (record { side = side; flow = served b ss; answers = served c ts }) q
    ≡ (if b then map (to_service side q) (service_matches ss) else []) ++ (if c && not (b && is_whole ss) then map (from_service side q) (service_matches ts) else [])
accepts_by side true true ss ts q = refl
accepts_by side true false ss ts q = refl
accepts_by side false true ss ts q = refl
accepts_by side false false ss ts q = refl

pub link_accepts : (side : Direction) (policy : FlowPolicy) (i j : ℕ) (q : Option Prefix) → accept_rules (link_of side policy i j) q ≡ accepts side policy i j q
link_accepts side policy i j q =
    accepts_by side (connects side policy.permitted i j) (connects (other_direction side) policy.stateful i j) (services_on side policy.site.services i j) (services_on (other_direction side) policy.site.services i j) q

prefix_by : (side : Direction) (b c o : Bool) (ss ts : List Service) (q : Prefix)
    → prefix_rules (record { side = side; flow = served b ss; answers = served c ts }) o q
    ≡ ((if b then map (to_service side (Some q)) (service_matches ss) else []) ++ (if c && not (b && is_whole ss) then map (from_service side (Some q)) (service_matches ts) else []))
    ++ (if o && not (b && is_whole ss) then match_peer side (Some q) None Drop ∷ [] else [])
prefix_by side true true o ss ts q = refl
prefix_by side true false o ss ts q = refl
prefix_by side false true o ss ts q = refl
prefix_by side false false o ss ts q = refl

pub link_prefix : (side : Direction) (policy : FlowPolicy) (i : ℕ) (rest : Option ℕ) (j : ℕ)
    → prefix_rules (link_of side policy i j) (is_open side policy i rest) ≡ to_prefix side policy i rest j
link_prefix side policy i rest j =
    λ k q. prefix_by side (connects side policy.permitted i j) (connects (other_direction side) policy.stateful i j) (is_open side policy i rest) (services_on side policy.site.services i j)
    (services_on (other_direction side) policy.site.services i j) q k
