-- The verdicts of the rules that accept packets from a host to another, or in the reverse direction.
use Rattle.std.proofs.Common.{◌≡◌, ℕ, Bool, true, false, not, ◌&&◌, ◌||◌, List, [], ◌∷◌, Option, Some, None, map, refl, sym, ap, subst, ◌∙◌}
use Rattle.std.specs.Prelude.{if◌then◌else◌}
use Rattle.std.specs.List.{list_any}
use Rattle.std.specs.Option.{option_or}
use Rattle.host_net.specs.declared.packet.Packet.{Packet}
use Rattle.host_net.specs.declared.packet.CtState.{CtState}
use Rattle.host_net.specs.declared.packet.Verdict.{Verdict}
use Rattle.host_net.specs.declared.packet.Verdict.TheVariants.{Forward as Forwarded}
use Rattle.host_net.specs.declared.prefix.Prefix.{Prefix}
use Rattle.host_net.specs.declared.service.Service.{Service}
use Rattle.host_net.specs.Packet.{IsPacket, swap_of}
use Rattle.host_net.specs.Service.{is_served, is_whole, service_matches}
use Rattle.ipt_rules.specs.declared.rule.Rule.{Rule}
use Rattle.ipt_rules.specs.declared.rule.Target.TheVariants.{Accept}
use Rattle.ipt_rules.specs.Chain.{Chain}
use Rattle.ipt_rules.specs.Matching.{matches}
use Rattle.ipt_rules.specs.Semantics.{step_of}
use Rattle.ipt_rules.specs.inner.Saying.{Says}
use Rattle.ipt_rules.proofs.SayingLaws.{says_none, says_append, says_one}
use Rattle.pkt_core.specs.Firewall.{is_established}
use Rattle.pkt_core.specs.FlowPolicy.{FlowPolicy}
use Rattle.emit_core.specs.declared.direction.Direction.{Direction}
use Rattle.emit_core.specs.Layout.{to_service, from_service, connects_unrestricted, accepts_flow, accepts_answers, accepts}
use Rattle.emit_core.proofs.NarrowingLaws.{lets, is_served-service_matches}
use Rattle.emit_core.specs.OtherAddress.{other_address}
use Rattle.emit_core.proofs.RuleFitsLaws.{lies_in, to_service_fits, from_service_fits}
use Rattle.emit_core.specs.Directions.{connects, other_direction, services_on}

abbrev pub pass : Bool → Option Verdict
pass b = if b then Some Forwarded else None

-- 1. Rules with the same verdict for each service.

-- Rules without a verdict, regardless of whether the address is in the prefix.
pub none_within : (w : Bool) → None ≡ (if w then pass false else None)
none_within true = refl
none_within false = refl

one_more : (w t u : Bool) → option_or (pass (w && t)) (if w then pass u else None) ≡ (if w then pass (t || u) else None)
one_more true true u = refl
one_more true false true = refl
one_more true false false = refl
one_more false t u = refl

rules_say : (fits : Rule → Bool) (chains : List Chain) (rule : Option Service → Rule) (w : Bool) (test : Option Service → Bool)
    → ((n : Option Service) → (fits (rule n) ≡ (w && test n)) × ((rule n).target ≡ Accept))
    → (ns : List (Option Service)) → Says fits chains (map rule ns) (if w then pass (list_any test ns) else None)
rules_say fits chains rule w test each [] = subst (λ (o : Option Verdict). Says fits chains [] o) (none_within w) (says_none fits chains)
rules_say fits chains rule w test each (n ∷ ns) =
    subst (λ (o : Option Verdict). Says fits chains (rule n ∷ map rule ns) o)
    (ap (λ b. option_or (pass b) (if w then pass (list_any test ns) else None)) (each n).0 ∙ one_more w (test n) (list_any test ns))
    (says_append fits chains (rule n ∷ []) (map rule ns) _ _ (says_one fits chains (rule n) Forwarded (ap (step_of true) (each n).1))
    (rules_say fits chains rule w test each ns))

any_and : (test : Option Service → Bool) (e : Bool) (ns : List (Option Service)) → list_any (λ n. test n && e) ns ≡ (list_any test ns && e)
any_and test e [] = refl
any_and test e (n ∷ ns) = ap (λ b. (test n && e) || b) (any_and test e ns) ∙ shared (test n) (list_any test ns) e
  where
    shared : (a b e : Bool) → ((a && e) || (b && e)) ≡ ((a || b) && e)
    shared true b true = refl
    shared true true false = refl
    shared true false false = refl
    shared false b e = refl

-- 2. Rules for each service of a flow, and for the answers to each.

when : (w b x : Bool) (rules : List Rule) (fits : Rule → Bool) (chains : List Chain) → Says fits chains rules (if w then pass x else None)
    → Says fits chains (if b then rules else []) (if w then pass (b && x) else None)
when w true x rules fits chains says = says
when w false x rules fits chains says = subst (λ (o : Option Verdict). Says fits chains [] o) (none_within w) (says_none fits chains)

flow_say : (side : Direction) (chains : List Chain) (policy : FlowPolicy) (packet : Packet) (state : CtState) (i j : ℕ) (q : Option Prefix) → IsPacket packet
    → Says (matches packet state) chains (accepts_flow side policy i j q)
    (if lies_in q (other_address side packet) then pass (connects side policy.permitted i j && is_served (services_on side policy.site.services i j) packet) else None)
flow_say side chains policy packet state i j q is =
    let w = lies_in q (other_address side packet) in
    let ss = services_on side policy.site.services i j in
    let fits = matches packet state in
    when w (connects side policy.permitted i j) (is_served ss packet) (map (to_service side q) (service_matches ss)) fits chains
    (subst (λ (b : Bool). Says fits chains (map (to_service side q) (service_matches ss)) (if w then pass b else None)) (sym (is_served-service_matches packet ss))
    (rules_say fits chains (to_service side q) w (lets packet) (λ n. (to_service_fits side q n packet state is, refl)) (service_matches ss)))

answers_say : (side : Direction) (chains : List Chain) (policy : FlowPolicy) (packet : Packet) (state : CtState) (i j : ℕ) (q : Option Prefix) → IsPacket packet
    → Says (matches packet state) chains (accepts_answers side policy i j q)
    (if lies_in q (other_address side packet)
    then pass ((connects (other_direction side) policy.stateful i j && not (connects_unrestricted side policy i j))
    && (is_served (services_on (other_direction side) policy.site.services i j) (swap_of packet) && is_established state)) else None)
answers_say side chains policy packet state i j q is =
    let w = lies_in q (other_address side packet) in
    let ss = services_on (other_direction side) policy.site.services i j in
    let e = is_established state in
    let fits = matches packet state in
    let test : Option Service → Bool = λ n. lets (swap_of packet) n && e in
    when w (connects (other_direction side) policy.stateful i j && not (connects_unrestricted side policy i j)) (is_served ss (swap_of packet) && e)
    (map (from_service side q) (service_matches ss)) fits chains
    (subst (λ (b : Bool). Says fits chains (map (from_service side q) (service_matches ss)) (if w then pass b else None))
    (any_and (lets (swap_of packet)) e (service_matches ss) ∙ ap (λ b. b && e) (sym (is_served-service_matches (swap_of packet) ss)))
    (rules_say fits chains (from_service side q) w test (λ n. (from_service_fits side q n packet state is, refl)) (service_matches ss)))

both_say : (w x y : Bool) → option_or (if w then pass x else None) (if w then pass y else None) ≡ (if w then pass (x || y) else None)
both_say true true y = refl
both_say true false y = refl
both_say false x y = refl

-- The answers that are omitted pass anyway.
left_out : (b c z : Bool) (ss : List Service) (packet : Packet)
    → ((b && is_served ss packet) || ((c && not (b && is_whole ss)) && z)) ≡ ((b && is_served ss packet) || (c && z))
left_out true c z [] packet = refl
left_out false true z [] packet = refl
left_out false false z [] packet = refl
left_out true true z (s ∷ ss) packet = refl
left_out true false z (s ∷ ss) packet = refl
left_out false true z (s ∷ ss) packet = refl
left_out false false z (s ∷ ss) packet = refl

-- The packets that pass: packets of the flow by its services, and on established connections those that answer a packet of the reversed
-- flow by its services.
abbrev pub may_link : Direction → FlowPolicy → Packet → Bool → ℕ → ℕ → Bool
may_link side policy packet established i j =
    (connects side policy.permitted i j && is_served (services_on side policy.site.services i j) packet)
    || (connects (other_direction side) policy.stateful i j && (is_served (services_on (other_direction side) policy.site.services i j) (swap_of packet) && established))

pub accepts_say : (side : Direction) (chains : List Chain) (policy : FlowPolicy) (packet : Packet) (state : CtState) (i j : ℕ) (q : Option Prefix)
    → IsPacket packet
    → Says (matches packet state) chains (accepts side policy i j q)
    (if lies_in q (other_address side packet) then pass (may_link side policy packet (is_established state) i j) else None)
accepts_say side chains policy packet state i j q is =
    let w = lies_in q (other_address side packet) in
    let z = is_served (services_on (other_direction side) policy.site.services i j) (swap_of packet) && is_established state in
    subst (λ (o : Option Verdict). Says (matches packet state) chains (accepts side policy i j q) o)
    (both_say w (connects side policy.permitted i j && is_served (services_on side policy.site.services i j) packet) ((connects (other_direction side) policy.stateful i j && not (connects_unrestricted side policy i j)) && z)
    ∙ ap (λ b. if w then pass b else None) (left_out (connects side policy.permitted i j) (connects (other_direction side) policy.stateful i j) z (services_on side policy.site.services i j) packet))
    (says_append (matches packet state) chains (accepts_flow side policy i j q) (accepts_answers side policy i j q) _ _
    (flow_say side chains policy packet state i j q is) (answers_say side chains policy packet state i j q is))
