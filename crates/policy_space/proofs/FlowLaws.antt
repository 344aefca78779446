-- Flows of packets: their hosts, and the flow of the answers to the packets of a box.
use Rattle.std.proofs.Common.{◌≡◌, ℕ, suc, ◌+◌, ◌<◌, Bool, true, false, cond, ◌==◌, List, [], ◌∷◌, Option, Some, None, length, refl, sym, ap, ◌∙◌, arith, true≢false}
use Rattle.std.specs.Prelude.{if◌then◌else◌}
use Rattle.std.specs.List.{position_from}
use Rattle.std.specs.Option.{option_map, option_map_or, option_or}
use Rattle.std.proofs.lemmas.Bool.Decides.{nat_tests}
use Rattle.host_net.specs.declared.packet.Packet.{Packet}
use Rattle.host_net.specs.Host.{Host, covers_any, owner_of, prefix_owner_of, rest_of}
use Rattle.host_net.specs.Packet.{swap_of}
use Rattle.flow_set.specs.declared.flow.Flow.{Flow}
use Rattle.flow_set.specs.Flow.{IsFlow, reverse_of}
use Rattle.header_space.specs.declared.packet_box.PacketBox.{PacketBox}
use Rattle.header_space.specs.Boxes.{swapped}
use Rattle.header_space.proofs.BoxLaws.{in_swapped}
use Rattle.pkt_core.specs.FlowPolicy.{flow_of, flow_of_owners}
use Rattle.policy_space.specs.inner.Flows.{HaveFlow}

place_below : (test : Host → Bool) (k : ℕ) (hs : List Host) (i : ℕ) → position_from test k hs ≡ Some i → i < k + length hs
place_below test k [] i found = cc
place_below test k (h ∷ hs) i found = by_test (test h) (place_below test (k + 1) hs i) found
  where
    by_test : (b : Bool) → (position_from test (k + 1) hs ≡ Some i → i < k + 1 + length hs) → cond b (Some k) (position_from test (k + 1) hs) ≡ Some i
        → i < k + suc (length hs)
    by_test true later found = let same : k ≡ i = cc in omega arith
    by_test false later found = let below = later found in omega arith

-- An owner is one of the hosts.
pub owner_below : (hosts : List Host) (a i : ℕ) → owner_of hosts a ≡ Some i → i < length hosts
unfolding owner_of
owner_below hosts a i owned = by_holder (prefix_owner_of hosts a) refl owned
  where
    by_holder : (o : Option ℕ) → prefix_owner_of hosts a ≡ o → option_or o (rest_of hosts) ≡ Some i → i < length hosts
    by_holder None is found = let below = place_below (λ h. h.rest) 0 hosts i found in omega arith
    by_holder (Some j) is found = let below = place_below (λ h. covers_any h.prefixes a) 0 hosts i (is ∙ found) in omega arith

-- The flow of a packet is a flow between hosts.
pub flow_is_one : (hosts : List Host) (p : Packet) (f : Flow) → flow_of hosts p ≡ Some f → IsFlow (length hosts) f
flow_is_one hosts p f is = by_owners (owner_of hosts p.src) (owner_of hosts p.dst) refl refl is
  where
    by_test : (i j : ℕ) (b : Bool) → (i == j) ≡ b → i < length hosts → j < length hosts → (if b then None else Some (record { from = i; to = j })) ≡ Some f
        → IsFlow (length hosts) f
    by_test i j true test low high is = let no : ⊥ = cc in absurd no
    by_test i j false test low high is =
        let from : i ≡ f.from = ap (λ (o : Option Flow). option_map_or (λ g. g.from) o 0) is in
        let to : j ≡ f.to = ap (λ (o : Option Flow). option_map_or (λ g. g.to) o 0) is in
        (omega (arith, from, low), omega (arith, to, high), (λ same. true≢false (sym (equal (from ∙ same ∙ sym to)) ∙ test)))
      where
        equal : i ≡ j → (i == j) ≡ true
        equal e = grind (arith, nat_tests)

    by_owners : (from to : Option ℕ) → owner_of hosts p.src ≡ from → owner_of hosts p.dst ≡ to → flow_of_owners from to ≡ Some f → IsFlow (length hosts) f
    by_owners None to here there is = let no : ⊥ = cc in absurd no
    by_owners (Some i) None here there is = let no : ⊥ = cc in absurd no
    by_owners (Some i) (Some j) here there is = by_test i j (i == j) refl (owner_below hosts p.src i here) (owner_below hosts p.dst j there) is

back_between : (a b : Option ℕ) → flow_of_owners b a ≡ option_map reverse_of (flow_of_owners a b)
back_between None None = refl
back_between None (Some j) = refl
back_between (Some i) None = refl
back_between (Some i) (Some j) = by_test (j == i) (i == j) (grind (arith, nat_tests))
  where
    by_test : (b c : Bool) → b ≡ c
        → (if b then None else Some (record { from = j; to = i })) ≡ option_map reverse_of (if c then None else Some (record { from = i; to = j }))
    by_test true true same = refl
    by_test false false same = refl
    by_test true false same = absurd (true≢false same)
    by_test false true same = absurd (true≢false (sym same))

-- The answers to the packets of a box have the reverse flow.
pub answers_have : (hosts : List Host) (b : PacketBox) (flow : Option Flow) → HaveFlow hosts b flow → HaveFlow hosts (swapped b) (option_map reverse_of flow)
answers_have hosts b flow have = λ p inside.
    back_between (owner_of hosts p.dst) (owner_of hosts p.src) ∙ ap (option_map reverse_of) (have (swap_of p) (in_swapped (swapped b) p inside))
