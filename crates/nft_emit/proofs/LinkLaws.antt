-- The rules of a chain accept what may pass from a host to another.
use Rattle.std.proofs.Common.{◌≡◌, ℕ, Bool, true, false, ◌&&◌, ◌||◌, ◌==◌, List, [], ◌∷◌, ◌++◌, Option, Some, None, map, refl, sym, ap, ◌∙◌}
use Rattle.std.specs.Prelude.{if◌then◌else◌, nat_le}
use Rattle.std.specs.List.{list_any, list_all}
use Rattle.std.proofs.lemmas.Bool.{and_parts}
use Rattle.host_net.specs.declared.packet.Packet.{Packet}
use Rattle.host_net.specs.declared.packet.CtState.{CtState}
use Rattle.host_net.specs.declared.packet.CtState.TheVariants.{New, Established}
use Rattle.host_net.specs.declared.service.Service.{Service}
use Rattle.host_net.specs.Packet.{IsPacket, swap_of}
use Rattle.host_net.specs.Service.{is_served, is_whole, service_matches, has_all_ports, has_name, has_ports, icmp, max_port}
use Rattle.host_net.specs.inner.Service.{is_service}
use Rattle.pkt_core.specs.Firewall.{is_established}
use Rattle.emit_core.proofs.NarrowingLaws.{lets, is_served-service_matches, all_ports}
use Rattle.emit_core.specs.inner.Link.{served}
use Rattle.nft_rules.specs.declared.table.End.{End}
use Rattle.nft_rules.specs.declared.table.End.TheVariants.{Source, Destination}
use Rattle.nft_rules.specs.declared.table.MatchRule.{MatchRule}
use Rattle.nft_rules.specs.Loadable.{are_ports}
use Rattle.nft_rules.specs.Semantics.{fits, ports_fit, service_fits}
use Rattle.nft_emit.specs.inner.Building.{AreAccepting}
use Rattle.nft_emit.specs.inner.Links.{accept, accepts, is_all, port_match}

pub matches_some : (ss : List Service) → is_whole ss ≡ false → service_matches ss ≡ map (λ (t : Service). Some t) ss
matches_some [] some = cc
matches_some (s ∷ ss) some = refl

pub matches_none : (ss : List Service) → is_whole ss ≡ true → service_matches ss ≡ None ∷ []
matches_none [] none = refl
matches_none (s ∷ ss) none = cc

-- 1. A service match.

-- The packet whose service counts: the packet itself, or the packet that it answers.
abbrev seen_at : End → Packet → Packet
seen_at Destination packet = packet
seen_at Source packet = swap_of packet

ports_same : (end : End) (s : Service) (packet : Packet) → IsPacket packet
    → ports_fit (port_match end s) packet ≡ (nat_le s.low (seen_at end packet).dport && nat_le (seen_at end packet).dport s.high)
ports_same Destination s packet is = by_test (has_all_ports s) refl
  where
    by_test : (b : Bool) → has_all_ports s ≡ b → ports_fit (if b then None else Some (record { end = Destination; low = s.low; high = s.high })) packet ≡ (nat_le s.low packet.dport && nat_le packet.dport s.high)
    by_test true all = sym (all_ports s packet.dport is.4 all)
    by_test false some = refl
ports_same Source s packet is = by_test (has_all_ports s) refl
  where
    by_test : (b : Bool) → has_all_ports s ≡ b → ports_fit (if b then None else Some (record { end = Source; low = s.low; high = s.high })) packet ≡ (nat_le s.low packet.sport && nat_le packet.sport s.high)
    by_test true all = sym (all_ports s packet.sport is.3 all)
    by_test false some = refl

same_proto : (end : End) (packet : Packet) → (seen_at end packet).proto ≡ packet.proto
same_proto Destination packet = refl
same_proto Source packet = refl

match_lets : (end : End) (n : Option Service) (packet : Packet) → IsPacket packet → service_fits (accept false end n).service packet ≡ lets (seen_at end packet) n
match_lets end None packet is = refl
match_lets end (Some s) packet is =
    (λ k. (s.proto == sym (same_proto end packet) k) && ports_same end s packet is k)

and_false : (b : Bool) → (b && false) ≡ false
and_false true = refl
and_false false = refl

and_true : (b : Bool) → (b && true) ≡ b
and_true true = refl
and_true false = refl

-- 2. The rules of a flow, and those of the answers to it.

flow_fits : (packet : Packet) (state : CtState) → IsPacket packet → (ns : List (Option Service))
    → list_any (fits state packet) (map (accept false Destination) ns) ≡ list_any (lets packet) ns
flow_fits packet state is [] = refl
flow_fits packet state is (n ∷ ns) = λ k. match_lets Destination n packet is k || flow_fits packet state is ns k

new_fits : (packet : Packet) (ns : List (Option Service)) → list_any (fits New packet) (map (accept true Source) ns) ≡ false
new_fits packet [] = refl
new_fits packet (n ∷ ns) = new_fits packet ns

answers_fit : (packet : Packet) → IsPacket packet → (ns : List (Option Service))
    → list_any (fits Established packet) (map (accept true Source) ns) ≡ list_any (lets (swap_of packet)) ns
answers_fit packet is [] = refl
answers_fit packet is (n ∷ ns) = λ k. match_lets Source n packet is k || answers_fit packet is ns k

flow_accepts : (packet : Packet) (state : CtState) (there : Bool) (ss : List Service) → IsPacket packet
    → list_any (fits state packet) (accepts false Destination (served there ss)) ≡ (there && is_served ss packet)
flow_accepts packet state true ss is = flow_fits packet state is (service_matches ss) ∙ sym (is_served-service_matches packet ss)
flow_accepts packet state false ss is = refl

answers_accept : (packet : Packet) (state : CtState) (there : Bool) (ss : List Service) → IsPacket packet
    → list_any (fits state packet) (accepts true Source (served there ss)) ≡ (there && (is_served ss (swap_of packet) && is_established state))
answers_accept packet New true ss is = new_fits packet (service_matches ss) ∙ sym (and_false (is_served ss (swap_of packet)))
answers_accept packet Established true ss is =
    answers_fit packet is (service_matches ss) ∙ sym (is_served-service_matches (swap_of packet) ss) ∙ sym (and_true (is_served ss (swap_of packet)))
answers_accept packet state false ss is = refl

any_append : (test : MatchRule → Bool) (xs ys : List MatchRule) → list_any test (xs ++ ys) ≡ (list_any test xs || list_any test ys)
any_append test [] ys = refl
any_append test (x ∷ xs) ys = ap (λ b. test x || b) (any_append test xs ys) ∙ grouped (test x) (list_any test xs) (list_any test ys)
  where
    grouped : (a b c : Bool) → (a || (b || c)) ≡ ((a || b) || c)
    grouped true b c = refl
    grouped false b c = refl

pub both_accept : (packet : Packet) (state : CtState) (there back : Bool) (ss rs : List Service) → IsPacket packet
    → list_any (fits state packet) (accepts false Destination (served there ss) ++ accepts true Source (served back rs))
    ≡ ((there && is_served ss packet) || (back && (is_served rs (swap_of packet) && is_established state)))
both_accept packet state there back ss rs is =
    any_append (fits state packet) (accepts false Destination (served there ss)) (accepts true Source (served back rs))
    ∙ (λ k. flow_accepts packet state there ss is k || answers_accept packet state back rs is k)

-- 3. Without flow and answers no packet passes. All packets of an unrestricted flow pass.

pub none_pass : (there back : Bool) (ss rs : List Service) (x y : Bool) → served there ss ≡ None → served back rs ≡ None
    → ((there && x) || (back && y)) ≡ false
none_pass true back ss rs x y none also = cc
none_pass false true ss rs x y none also = cc
none_pass false false ss rs x y none also = refl

whole_served : (ss : List Service) (packet : Packet) → is_whole ss ≡ true → is_served ss packet ≡ true
whole_served [] packet whole = refl
whole_served (s ∷ ss) packet whole = cc

pub all_pass : (there : Bool) (ss : List Service) (packet : Packet) (y : Bool) → is_all (served there ss) ≡ true
    → ((there && is_served ss packet) || y) ≡ true
all_pass true ss packet y all = ap (λ b. b || y) (whole_served ss packet all)
all_pass false ss packet y all = cc

-- 4. The rules accept, and their services are valid.

accept_append : (xs ys : List MatchRule) → AreAccepting xs → AreAccepting ys → AreAccepting (xs ++ ys)
accept_append [] ys left right = right
accept_append (x ∷ xs) ys left right = (left.0, left.1, accept_append xs ys left.2 right)

named_ports : (proto : ℕ) → has_ports proto ≡ true → has_name proto ≡ true
named_ports proto has = by_test (proto == icmp)
  where
    by_test : (b : Bool) → (b || has_ports proto) ≡ true
    by_test true = refl
    by_test false = has

valid_match : (end : End) (s : Service) → is_service s ≡ true → are_ports s.proto (port_match end s) ≡ true
valid_match end s is =
    let parts = and_parts (nat_le s.low s.high) (nat_le s.high max_port && (has_ports s.proto || ((s.proto == icmp) && has_all_ports s))) is in
    let later = and_parts (nat_le s.high max_port) (has_ports s.proto || ((s.proto == icmp) && has_all_ports s)) parts.1 in
    by_test (has_ports s.proto) (s.proto == icmp) (has_all_ports s) refl refl refl parts.0 later.1
  where
    by_test : (p i a : Bool) → has_ports s.proto ≡ p → (s.proto == icmp) ≡ i → has_all_ports s ≡ a → nat_le s.low s.high ≡ true → (p || (i && a)) ≡ true
        → are_ports s.proto (if a then None else Some (record { end = end; low = s.low; high = s.high })) ≡ true
    by_test true i true ports is_icmp all some valid = named_ports s.proto ports
    by_test true i false ports is_icmp all some valid = λ k. ports k && some k
    by_test false true true ports is_icmp all some valid = ap (λ b. b || has_ports s.proto) is_icmp
    by_test false true false ports is_icmp all some valid = cc
    by_test false false a ports is_icmp all some valid = cc

some_accept : (established : Bool) (end : End) (ss : List Service) → list_all is_service ss ≡ true
    → AreAccepting (map (accept established end) (map (λ (t : Service). Some t) ss))
some_accept established end [] all = tt
some_accept established end (s ∷ ss) all =
    let parts = and_parts (is_service s) (list_all is_service ss) all in
    (refl, valid_match end s parts.0, some_accept established end ss parts.1)

each_accept : (established : Bool) (end : End) (ss : List Service) → list_all is_service ss ≡ true
    → AreAccepting (map (accept established end) (service_matches ss))
each_accept established end [] all = (refl, refl, tt)
each_accept established end (s ∷ ss) all = some_accept established end (s ∷ ss) all

flow_accepting : (established : Bool) (end : End) (there : Bool) (ss : List Service) → list_all is_service ss ≡ true
    → AreAccepting (accepts established end (served there ss))
flow_accepting established end true ss all = each_accept established end ss all
flow_accepting established end false ss all = tt

pub both_accepting : (there back : Bool) (ss rs : List Service) → list_all is_service ss ≡ true → list_all is_service rs ≡ true
    → AreAccepting (accepts false Destination (served there ss) ++ accepts true Source (served back rs))
both_accepting there back ss rs all also =
    accept_append (accepts false Destination (served there ss)) (accepts true Source (served back rs))
    (flow_accepting false Destination there ss all) (flow_accepting true Source back rs also)
