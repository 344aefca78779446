-- If answers are covered, an answer to a packet of a stateful flow belongs to a permitted flow. So the policy expects the same as one
-- without stateful flows.
use Rattle.std.proofs.Common.{◌≡◌, inl, inr, ℕ, ◌<◌, ◌^◌, ◌==◌, ◌&&◌, ◌||◌, not, Bool, true, false, List, [], ◌∷◌, Option, Some, None, take, sym, subst, refl, arith, true≢false}
use Rattle.std.specs.Prelude.{if◌then◌else◌, nat_le}
use Rattle.std.specs.List.{list_all, list_any}
use Rattle.std.proofs.lemmas.Bool.{and_parts, and_from, or_left, or_right}
use Rattle.std.proofs.lemmas.Bool.Decides.{nat_tests}
use Rattle.host_net.specs.declared.packet.Packet.{Packet}
use Rattle.host_net.specs.declared.service.Service.{Service}
use Rattle.host_net.specs.Packet.{swap_of, IsPacket}
use Rattle.host_net.specs.Host.{owner_of}
use Rattle.host_net.specs.Service.{has_all_ports, is_served, serves, is_whole}
use Rattle.host_net.specs.Services.{services_of}
use Rattle.host_net.specs.Site.{Site}
use Rattle.flow_set.specs.declared.flow.Flow.{Flow}
use Rattle.flow_set.specs.FlowSet.{has}
use Rattle.pkt_core.specs.declared.event.Event.{Event}
use Rattle.pkt_core.specs.Expected.{AreExpected, Expected}
use Rattle.pkt_core.specs.Filter.{ArePackets}
use Rattle.pkt_core.specs.FlowPolicy.{FlowPolicy, flow_of_owners, is_of, permits, permits_reply_to, policy_with}
use Rattle.emit_core.specs.FlowTableEvents.{AnswersAreCovered, has_all_of}
use Rattle.emit_core.proofs.FlowTableLaws.{belongs}
use Rattle.emit_core.proofs.NarrowingLaws.{all_ports}

-- A service with all ports matches every packet of its protocol.
serves_all : (u : Service) (packet : Packet) → packet.dport < 2 ^ 16 → (u.proto == packet.proto) ≡ true → has_all_ports u ≡ true → serves u packet ≡ true
serves_all u packet fits same all = and_from (u.proto == packet.proto) (nat_le u.low packet.dport && nat_le packet.dport u.high) same (all_ports u packet.dport fits all)

same_protocol : (a b c : ℕ) → (a == b) ≡ true → (a == c) ≡ true → (b == c) ≡ true
same_protocol a b c first second = grind (arith, nat_tests)

served_all : (bs : List Service) (t : Service) (packet : Packet) → packet.dport < 2 ^ 16 → has_all_of bs t ≡ true → (t.proto == packet.proto) ≡ true
    → list_any (λ u. serves u packet) bs ≡ true
served_all [] t packet fits all same = all
served_all (u ∷ bs) t packet fits all same = by ((t.proto == u.proto) && has_all_ports u) refl (λ h. served_all bs t packet fits h same) all
  where
    by : (b : Bool) → ((t.proto == u.proto) && has_all_ports u) ≡ b → (has_all_of bs t ≡ true → list_any (λ v. serves v packet) bs ≡ true)
        → (b || has_all_of bs t) ≡ true → (serves u packet || list_any (λ v. serves v packet) bs) ≡ true
    by true holds later h =
        let parts = and_parts (t.proto == u.proto) (has_all_ports u) holds in
        or_left (serves u packet) (list_any (λ v. serves v packet) bs)
        (serves_all u packet fits (same_protocol t.proto u.proto packet.proto parts.0 same) parts.1)
    by false holds later h = or_right (serves u packet) (list_any (λ v. serves v packet) bs) (later h)

answered_by : (ss bs : List Service) (packet : Packet) → packet.dport < 2 ^ 16 → list_all (has_all_of bs) ss ≡ true
    → list_any (λ t. serves t (swap_of packet)) ss ≡ true → list_any (λ u. serves u packet) bs ≡ true
answered_by [] bs packet fits all served = cc
answered_by (t ∷ ss) bs packet fits all served =
    by (serves t (swap_of packet)) refl (answered_by ss bs packet fits (and_parts (has_all_of bs t) (list_all (has_all_of bs) ss) all).1) served
  where
    by : (b : Bool) → serves t (swap_of packet) ≡ b → (list_any (λ u. serves u (swap_of packet)) ss ≡ true → list_any (λ u. serves u packet) bs ≡ true)
        → (b || list_any (λ u. serves u (swap_of packet)) ss) ≡ true → list_any (λ u. serves u packet) bs ≡ true
    by true holds later h =
        served_all bs t packet fits (and_parts (has_all_of bs t) (list_all (has_all_of bs) ss) all).0
        (and_parts (t.proto == packet.proto) (nat_le t.low packet.sport && nat_le packet.sport t.high) holds).0
    by false holds later h = later h

-- An answer to a packet of some services matches the services of the reverse flow, if the answers are covered.
back_served : (ss bs : List Service) (packet : Packet) → packet.dport < 2 ^ 16
    → (is_whole bs || (not (is_whole ss) && list_all (has_all_of bs) ss)) ≡ true → is_served ss (swap_of packet) ≡ true → is_served bs packet ≡ true
back_served ss [] packet fits covered served = refl
back_served [] (b ∷ bs) packet fits covered served = cc
back_served (s ∷ ss) (b ∷ bs) packet fits covered served = answered_by (s ∷ ss) (b ∷ bs) packet fits covered served

equal_back : (i j : ℕ) → (j == i) ≡ (i == j)
equal_back i j = grind (arith, nat_tests)

answer_by : (same : Bool) (policy : FlowPolicy) (i j : ℕ) (packet : Packet) → packet.dport < 2 ^ 16 → AnswersAreCovered policy
    → belongs policy.site.services policy.stateful (swap_of packet) (if same then None else Some (record { from = j; to = i })) ≡ true
    → belongs policy.site.services policy.permitted packet (if same then None else Some (record { from = i; to = j })) ≡ true
answer_by true policy i j packet fits covered h = h
answer_by false policy i j packet fits covered h =
    let f : Flow = record { from = j; to = i } in
    let g : Flow = record { from = i; to = j } in
    let there = services_of policy.site.services j i in
    let back = services_of policy.site.services i j in
    let parts = and_parts (has policy.stateful f) (is_served there (swap_of packet)) h in
    let cover = and_parts (has policy.permitted g) (is_whole back || (not (is_whole there) && list_all (has_all_of back) there)) (covered f parts.0) in
    and_from (has policy.permitted g) (is_served back packet) cover.0 (back_served there back packet fits cover.1 parts.1)

-- An answer to a packet of a stateful flow belongs to a permitted flow.
pub answer_is : (policy : FlowPolicy) (from to : Option ℕ) (packet : Packet) → packet.dport < 2 ^ 16 → AnswersAreCovered policy
    → belongs policy.site.services policy.stateful (swap_of packet) (flow_of_owners to from) ≡ true
    → belongs policy.site.services policy.permitted packet (flow_of_owners from to) ≡ true
answer_is policy None None packet fits covered h = h
answer_is policy None (Some j) packet fits covered h = h
answer_is policy (Some i) None packet fits covered h = h
answer_is policy (Some i) (Some j) packet fits covered h =
    answer_by (i == j) policy i j packet fits covered
    (subst (λ (b : Bool). belongs policy.site.services policy.stateful (swap_of packet) (if b then None else Some (record { from = j; to = i })) ≡ true)
    (equal_back i j) h)

-- A policy whose answers are covered expects only the permitted packets.
expected_is : (policy : FlowPolicy) (past : List Event) (packet : Packet) → IsPacket packet → AnswersAreCovered policy
    → Expected (permits policy) (permits_reply_to policy) past packet → permits policy packet ≡ true
expected_is policy past packet is covered (inl permitted) = permitted
expected_is policy past packet is covered (inr answer) =
    answer_is policy (owner_of policy.site.hosts packet.src) (owner_of policy.site.hosts packet.dst) packet is.4 covered answer.0

none_covered : (site : Site) (p : List Flow) → AnswersAreCovered (policy_with site p [])
none_covered site p = λ f none. absurd (true≢false (sym none))

-- So it expects the same as a policy without stateful flows.
pub same_expected : (policy : FlowPolicy) (events : List Event) (answers : List (Option Bool)) → ArePackets events → AnswersAreCovered policy
    → AreExpected (permits policy) (is_of policy.site []) events answers → AreExpected (permits policy) (permits_reply_to policy) events answers
same_expected policy events answers packets covered all = record {
  as_many = all.as_many;
  seen = λ k packet there.
      let now = all.seen k packet there in (
        now.0,
        now.1,
        (
          λ passed. inl (expected_is (policy_with policy.site policy.permitted []) (take k events) packet (packets k packet there) (none_covered policy.site policy.permitted) (now.2.0 passed)),
          λ expected. now.2.1 (inl (expected_is policy (take k events) packet (packets k packet there) covered expected)),
        ),
      );
  forgotten = all.forgotten;
}
