-- The verdict of the chain of a host on a packet.
use Rattle.std.proofs.Common.{◌≡◌, ℕ, ◌+◌, ◌<◌, ◌≤◌, Bool, true, false, not, ◌&&◌, ◌||◌, List, [], ◌∷◌, ◌++◌, Option, Some, None, length, refl, ap, subst, ◌∙◌, arith}
use Rattle.std.specs.Prelude.{if◌then◌else◌}
use Rattle.std.specs.List.{flat_map, position_from}
use Rattle.std.specs.Option.{option_or, option_and_then}
use Rattle.std.proofs.lemmas.Bool.{and_parts}
use Rattle.host_net.specs.declared.packet.Packet.{Packet}
use Rattle.host_net.specs.declared.packet.CtState.{CtState}
use Rattle.host_net.specs.declared.packet.Verdict.{Verdict}
use Rattle.host_net.specs.declared.packet.Verdict.TheVariants.{Drop as Dropped}
use Rattle.host_net.specs.declared.prefix.Prefix.{Prefix}
use Rattle.host_net.specs.declared.service.Service.{Service}
use Rattle.host_net.specs.Host.{Host, owner_of, prefix_owner_of, rest_of, covers_any}
use Rattle.host_net.specs.Packet.{IsPacket, swap_of}
use Rattle.host_net.specs.Prefix.{covers}
use Rattle.host_net.specs.Service.{is_served, is_whole}
use Rattle.host_net.specs.Verdict.{verdict_if}
use Rattle.ipt_rules.specs.declared.rule.Rule.{Rule}
use Rattle.ipt_rules.specs.declared.rule.Target.TheVariants.{Drop}
use Rattle.ipt_rules.specs.Chain.{Chain}
use Rattle.ipt_rules.specs.Matching.{matches}
use Rattle.ipt_rules.specs.inner.Saying.{Says, first_said}
use Rattle.ipt_rules.proofs.SayingLaws.{says_none, says_append, says_one, says_flat_map}
use Rattle.pkt_core.specs.Firewall.{is_established}
use Rattle.pkt_core.specs.FlowPolicy.{FlowPolicy}
use Rattle.emit_core.specs.declared.direction.Direction.{Direction}
use Rattle.emit_core.proofs.AcceptsLaws.{pass, none_within, may_link, accepts_say}
use Rattle.emit_core.specs.Layout.{for_each_prefix, match_peer, connects_unrestricted, accepts, is_open, drops, to_prefix, to_rest, host_rules}
use Rattle.emit_core.specs.OtherAddress.{other_address}
use Rattle.emit_core.proofs.OwnerLaws.{IsHeldOnce}
use Rattle.emit_core.proofs.RuleFitsLaws.{lies_in, whole_fits}
use Rattle.emit_core.specs.Directions.{connects, other_direction, services_on}

-- 1. Rules for each host and prefix.

either : (b c : Bool) (o : Option Verdict) → option_or (if b then o else None) (if c then o else None) ≡ (if b || c then o else None)
either true true None = refl
either true true (Some v) = refl
either true false None = refl
either true false (Some v) = refl
either false c o = refl

-- Rules for each prefix that have the same verdict if the prefix covers the address.
pub said_by_any : (a : ℕ) (o : Option Verdict) (qs : List Prefix)
    → first_said (λ q. if covers q a then o else None) qs ≡ (if covers_any qs a then o else None)
said_by_any a o [] = refl
said_by_any a o (q ∷ qs) =
    ap (option_or (if covers q a then o else None)) (said_by_any a o qs) ∙ either (covers q a) (covers_any qs a) o

before_none : (b : Bool) (x y : Option Verdict) → (b ≡ true → y ≡ None) → option_or (if b then x else None) y ≡ (if b then x else y)
before_none true None y none = none refl
before_none true (Some v) y none = refl
before_none false x y none = refl

found_first : (b : Bool) (k : ℕ) (later : Option ℕ) (said : ℕ → Option Verdict)
    → (if b then said k else option_and_then said later) ≡ option_and_then said (if b then Some k else later)
found_first true k later said = refl
found_first false k later said = refl

-- The verdict of rules by host and prefix is that of the host that owns the address.
pub says_for_each : (fits : Rule → Bool) (chains : List Chain) (a n : ℕ) (said : ℕ → Option Verdict) (written : ℕ → Prefix → List Rule)
    → ((j : ℕ) → j < n → (q : Prefix) → Says fits chains (written j q) (if covers q a then said j else None))
    → (k : ℕ) (hs : List Host) → k + length hs ≤ n → IsHeldOnce a hs
    → Says fits chains (for_each_prefix written k hs) (option_and_then said (position_from (λ h. covers_any h.prefixes a) k hs))
says_for_each fits chains a n said written each k [] within once = says_none fits chains
says_for_each fits chains a n said written each k (h ∷ hs) within once =
    let here : k < n = omega arith in
    let later : k + 1 + length hs ≤ n = omega arith in
    let found = position_from (λ x. covers_any x.prefixes a) (k + 1) hs in
    let gone : covers_any h.prefixes a ≡ true → option_and_then said found ≡ None = λ own. ap (λ (x : Option ℕ). option_and_then said x) (once.0 own (k + 1)) in
    subst (λ (x : Option Verdict). Says fits chains (for_each_prefix written k (h ∷ hs)) x)
    (before_none (covers_any h.prefixes a) (said k) (option_and_then said found) gone ∙ found_first (covers_any h.prefixes a) k found said)
    (says_append fits chains _ _ _ _
    (subst (λ (x : Option Verdict). Says fits chains (flat_map (written k) h.prefixes) x) (said_by_any a (said k) h.prefixes)
    (says_flat_map fits chains (written k) (λ q. if covers q a then said k else None) (each k here) h.prefixes))
    (says_for_each fits chains a n said written each (k + 1) hs later once.1))

-- 2. The rules for one prefix, and the rules for the rest host.

abbrev fail : Bool → Option Verdict
fail b = if b then Some Dropped else None

drops_say : (side : Direction) (chains : List Chain) (packet : Packet) (state : CtState) (q : Option Prefix) (b : Bool)
    → Says (matches packet state) chains (if b then match_peer side q None Drop ∷ [] else [])
    (if lies_in q (other_address side packet) then fail b else None)
drops_say side chains packet state q true =
    subst (λ (x : Bool). Says (matches packet state) chains (match_peer side q None Drop ∷ []) (fail x))
    (whole_fits side q Drop packet state)
    (says_one (matches packet state) chains (match_peer side q None Drop) Dropped refl)
drops_say side chains packet state q false =
    subst (λ (x : Option Verdict). Says (matches packet state) chains [] x) (none_within (lies_in q (other_address side packet)))
    (says_none (matches packet state) chains)

said_both : (w : Bool) (x y : Option Verdict) → option_or (if w then x else None) (if w then y else None) ≡ (if w then option_or x y else None)
said_both true x y = refl
said_both false x y = refl

-- The verdict of the rules of host i on packets to host j, before those of the rest host.
abbrev pair_said : Direction → FlowPolicy → Packet → Bool → ℕ → Option ℕ → ℕ → Option Verdict
pair_said side policy packet established i rest j =
    option_or (pass (may_link side policy packet established i j)) (fail (is_open side policy i rest && not (connects_unrestricted side policy i j)))

pair_says : (side : Direction) (chains : List Chain) (policy : FlowPolicy) (packet : Packet) (state : CtState) (i : ℕ) (rest : Option ℕ) (j : ℕ)
    (q : Prefix) → IsPacket packet
    → Says (matches packet state) chains (to_prefix side policy i rest j q)
    (if covers q (other_address side packet) then pair_said side policy packet (is_established state) i rest j else None)
pair_says side chains policy packet state i rest j q is =
    subst (λ (x : Option Verdict). Says (matches packet state) chains (to_prefix side policy i rest j q) x)
    (said_both (covers q (other_address side packet)) _ _)
    (says_append (matches packet state) chains (accepts side policy i j (Some q)) (drops side policy i rest j q) _ _
    (accepts_say side chains policy packet state i j (Some q) is)
    (drops_say side chains packet state (Some q) (is_open side policy i rest && not (connects_unrestricted side policy i j))))

-- The verdict of the rules of host i on packets to the rest host.
abbrev rest_said : Direction → FlowPolicy → Packet → Bool → ℕ → Option ℕ → Option Verdict
rest_said side policy packet established i None = None
rest_said side policy packet established i (Some r) = pass (may_link side policy packet established i r)

rest_says : (side : Direction) (chains : List Chain) (policy : FlowPolicy) (packet : Packet) (state : CtState) (i : ℕ) (rest : Option ℕ) → IsPacket packet
    → Says (matches packet state) chains (to_rest side policy i rest) (rest_said side policy packet (is_established state) i rest)
rest_says side chains policy packet state i None is = says_none (matches packet state) chains
rest_says side chains policy packet state i (Some r) is = accepts_say side chains policy packet state i r None is

-- 3. The entire chain.

-- An unrestricted flow accepts all its packets.
whole_serves : (ss : List Service) (packet : Packet) → is_whole ss ≡ true → is_served ss packet ≡ true
whole_serves [] packet whole = refl
whole_serves (s ∷ ss) packet whole = cc

whole_links : (side : Direction) (policy : FlowPolicy) (packet : Packet) (established : Bool) (i j : ℕ)
    → connects_unrestricted side policy i j ≡ true → may_link side policy packet established i j ≡ true
whole_links side policy packet established i j whole =
    let parts = and_parts (connects side policy.permitted i j) (is_whole (services_on side policy.site.services i j)) whole in
    rw (parts.0, whole_serves (services_on side policy.site.services i j) packet parts.1) refl

-- A packet to host j traverses the rules of host j, then those of the rest host, then the last rule.
before_rest : (m whole b c x y : Bool) → (whole ≡ true → m ≡ true)
    → option_or (option_or (pass m) (fail ((b || c) && not whole))) (option_or (pass ((b && x) || (c && y))) (Some Dropped)) ≡ Some (verdict_if m)
before_rest true whole b c x y holds = refl
before_rest false true b c x y holds = let never : false ≡ true = holds refl in cc
before_rest false false true c x y holds = refl
before_rest false false false true x y holds = refl
before_rest false false false false x y holds = refl

without_rest : (m whole : Bool) → option_or (option_or (pass m) (fail (false && not whole))) (Some Dropped) ≡ Some (verdict_if m)
without_rest true whole = refl
without_rest false whole = refl

of_rest : (m : Bool) → option_or (pass m) (Some Dropped) ≡ Some (verdict_if m)
of_rest true = refl
of_rest false = refl

-- Whether packets between host i and the owner of an address may pass.
abbrev pub may_link_owner : Direction → FlowPolicy → Packet → Bool → ℕ → Option ℕ → Bool
may_link_owner side policy packet established i None = false
may_link_owner side policy packet established i (Some j) = may_link side policy packet established i j

decided : (side : Direction) (policy : FlowPolicy) (packet : Packet) (established : Bool) (i : ℕ) (rest owner : Option ℕ)
    → option_or (option_and_then (pair_said side policy packet established i rest) owner) (option_or (rest_said side policy packet established i rest) (Some Dropped))
    ≡ Some (verdict_if (may_link_owner side policy packet established i (option_or owner rest)))
decided side policy packet established i None None = refl
decided side policy packet established i None (Some j) =
    without_rest (may_link side policy packet established i j) (connects_unrestricted side policy i j)
decided side policy packet established i (Some r) None = of_rest (may_link side policy packet established i r)
decided side policy packet established i (Some r) (Some j) =
    before_rest (may_link side policy packet established i j) (connects_unrestricted side policy i j) (connects side policy.permitted i r) (connects (other_direction side) policy.stateful i r)
    (is_served (services_on side policy.site.services i r) packet) (is_served (services_on (other_direction side) policy.site.services i r) (swap_of packet) && established)
    (whole_links side policy packet established i j)

-- The verdict on the packet in the chain of host i.
abbrev pub said_by : Direction → FlowPolicy → Packet → CtState → ℕ → Verdict
said_by side policy packet state i = verdict_if (may_link_owner side policy packet (is_established state) i (owner_of policy.site.hosts (other_address side packet)))

-- The chain of host i forwards the packets that the host may send, or receive, and drops all others.
pub host_says : (side : Direction) (chains : List Chain) (policy : FlowPolicy) (packet : Packet) (state : CtState) (i : ℕ) → IsPacket packet
    → IsHeldOnce (other_address side packet) policy.site.hosts
    → Says (matches packet state) chains (host_rules side policy i) (Some (said_by side policy packet state i))
unfolding owner_of
host_says side chains policy packet state i is once =
    let fits = matches packet state in
    let rest = rest_of policy.site.hosts in
    let established = is_established state in
    subst (λ (x : Option Verdict). Says fits chains (host_rules side policy i) x)
    (decided side policy packet established i rest (prefix_owner_of policy.site.hosts (other_address side packet)))
    (says_append fits chains (for_each_prefix (to_prefix side policy i rest) 0 policy.site.hosts) (to_rest side policy i rest ++ match_peer side None None Drop ∷ []) _ _
    (says_for_each fits chains (other_address side packet) (length policy.site.hosts) (pair_said side policy packet established i rest) (to_prefix side policy i rest)
    (λ j below q. pair_says side chains policy packet state i rest j q is) 0 policy.site.hosts (omega arith) once)
    (says_append fits chains (to_rest side policy i rest) (match_peer side None None Drop ∷ []) _ _
    (rest_says side chains policy packet state i rest is)
    (drops_say side chains packet state None true)))
