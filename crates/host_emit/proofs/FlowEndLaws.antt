-- The ends of a packet's flow, and the packets that a host sends or receives.
use Rattle.std.proofs.Common.{◌≡◌, inl, inr, ℕ, Bool, true, false, not, ◌&&◌, ◌==◌, Some, None, refl, ap, subst, ◌∙◌, true≢false, arith}
use Rattle.std.specs.Prelude.{if◌then◌else◌, List, Option}
use Rattle.std.specs.Option.{option_map_or}
use Rattle.std.proofs.Math.Bool.{and-false}
use Rattle.std.proofs.lemmas.Bool.{or_cases, or_left, or_right}
use Rattle.std.proofs.lemmas.Bool.Decides.{nat_tests}
use Rattle.host_net.specs.declared.packet.Packet.{Packet}
use Rattle.host_net.specs.Packet.{swap_of}
use Rattle.host_net.specs.Host.{Host, owner_of, rest_of}
use Rattle.flow_set.specs.declared.flow.Flow.{Flow}
use Rattle.flow_set.specs.Flow.{reverse_of}
use Rattle.pkt_core.specs.FlowPolicy.{flow_of, flow_of_owners}
use Rattle.emit_core.specs.declared.direction.Direction.{Direction}
use Rattle.emit_core.specs.declared.direction.Direction.TheVariants.{Outbound, Inbound}
use Rattle.host_emit.specs.LocalLayout.{is_specific}
use Rattle.host_emit.specs.Delivery.{at_host, is_end}
use Rattle.host_emit.specs.inner.Passing.{host_on}

pub same_number : (i : ℕ) → (i == i) ≡ true
same_number i = grind (arith, nat_tests)

pub apart_numbers : (i j : ℕ) → (i == j) ≡ false → (j == i) ≡ false
apart_numbers i j h = grind (arith, nat_tests)

some_flow : (i j : ℕ) (b c : Bool) (f : Flow) → b ≡ c → (if b then None else Some (record { from = i; to = j })) ≡ Some f →
    (if c then None else Some (record { from = j; to = i })) ≡ Some (reverse_of f)
some_flow i j true c f same is = cc
some_flow i j false true f same is = cc
some_flow i j false false f same is = ap (λ (o : Option Flow). option_back o) is
  where
    option_back : Option Flow → Option Flow
    option_back None = None
    option_back (Some g) = Some (reverse_of g)

turned_test : (i j : ℕ) → (i == j) ≡ (j == i)
turned_test i j = grind (arith, nat_tests)

between_back : (from to : Option ℕ) (f : Flow) → flow_of_owners from to ≡ Some f → flow_of_owners to from ≡ Some (reverse_of f)
between_back None to f is = cc
between_back (Some i) None f is = cc
between_back (Some i) (Some j) f is = some_flow i j (i == j) (j == i) f (turned_test i j) is

-- The answer to a packet belongs to the reversed flow.
flow_back : (hosts : List Host) (p : Packet) (f : Flow) → flow_of hosts p ≡ Some f → flow_of hosts (swap_of p) ≡ Some (reverse_of f)
flow_back hosts p f is = between_back (owner_of hosts p.src) (owner_of hosts p.dst) f is

pub no_flow_back : (from to : Option ℕ) → flow_of_owners from to ≡ None → flow_of_owners to from ≡ None
no_flow_back None None is = refl
no_flow_back None (Some j) is = refl
no_flow_back (Some i) None is = refl
no_flow_back (Some i) (Some j) is = by_tests (i == j) (j == i) (turned_test i j) is
  where
    unless : Bool → Flow → Option Flow
    unless b f = if b then None else Some f

    by_tests : (b c : Bool) → b ≡ c → unless b (record { from = i; to = j }) ≡ None → unless c (record { from = j; to = i }) ≡ None
    by_tests true true same is = refl
    by_tests true false same is = absurd (true≢false same)
    by_tests false c same is = absurd (some_is_not (record { from = i; to = j }) is)
      where
        some_is_not : (f : Flow) → Some f ≡ None → ⊥
        some_is_not f h = cc

between_apart : (from to : Option ℕ) (f : Flow) → flow_of_owners from to ≡ Some f → (f.from == f.to) ≡ false
between_apart None to f is = cc
between_apart (Some i) None f is = cc
between_apart (Some i) (Some j) f is = by_test (i == j) refl is
  where
    of_flow : (g : Flow) → Some g ≡ Some f → g ≡ f
    of_flow g h = cc

    by_test : (b : Bool) → (i == j) ≡ b → (if b then None else Some (record { from = i; to = j })) ≡ Some f → (f.from == f.to) ≡ false
    by_test true test is = cc
    by_test false test is = subst (λ (g : Flow). (g.from == g.to) ≡ false) (of_flow (record { from = i; to = j }) is) test

-- A flow is between different hosts.
pub flow_apart : (hosts : List Host) (p : Packet) (f : Flow) → flow_of hosts p ≡ Some f → (f.from == f.to) ≡ false
flow_apart hosts p f is = between_apart (owner_of hosts p.src) (owner_of hosts p.dst) f is

-- Only one host is not specific.
pub one_rest : (hosts : List Host) (i j : ℕ) → is_specific hosts i ≡ false → is_specific hosts j ≡ false → (i == j) ≡ true
one_rest hosts i j first second = by_rest (rest_of hosts) first second
  where
    by_rest : (rest : Option ℕ) → option_map_or (λ r. not (r == i)) rest true ≡ false → option_map_or (λ r. not (r == j)) rest true ≡ false → (i == j) ≡ true
    by_rest None first second = absurd (true≢false first)
    by_rest (Some r) first second = grind (arith, nat_tests)

-- Either end of a flow.
pub end_on : (side : Direction) (f : Flow) → is_end (Some f) (host_on side f) ≡ true
end_on Outbound f = or_left (f.from == f.from) _ (same_number f.from)
end_on Inbound f = or_right (f.from == f.to) _ (same_number f.to)

end_back : (f : Flow) (h : ℕ) → is_end (Some f) h ≡ true → is_end (Some (reverse_of f)) h ≡ true
end_back f h is = elim (or_cases (f.from == h) (f.to == h) is) [ inl a ↦ or_right (f.to == h) _ a | inr b ↦ or_left (f.to == h) _ b ]

-- At an end of its flow a packet belongs to the host.
pub at_end : (hosts : List Host) (test : Packet → Bool) (p : Packet) (f : Flow) (h : ℕ) → flow_of hosts p ≡ Some f → is_end (Some f) h ≡ true → at_host hosts test h p ≡ test p
at_end hosts test p f h is there = ap (λ (o : Option Flow). is_end o h && test p) is ∙ ap (λ (b : Bool). b && test p) there

pub at_end_back : (hosts : List Host) (test : Packet → Bool) (p : Packet) (f : Flow) (h : ℕ) → flow_of hosts p ≡ Some f → is_end (Some f) h ≡ true → at_host hosts test h (swap_of p) ≡ test (swap_of p)
at_end_back hosts test p f h is there = at_end hosts test (swap_of p) (reverse_of f) h (flow_back hosts p f is) (end_back f h there)

-- Elsewhere it does not.
pub off_end : (hosts : List Host) (test : Packet → Bool) (p : Packet) (o : Option Flow) (h : ℕ) → flow_of hosts p ≡ o → is_end o h ≡ false → at_host hosts test h p ≡ false
off_end hosts test p o h is away = ap (λ (x : Option Flow). is_end x h && test p) is ∙ ap (λ (b : Bool). b && test p) away

pub at_barred : (hosts : List Host) (test : Packet → Bool) (p : Packet) (h : ℕ) → test p ≡ false → at_host hosts test h p ≡ false
at_barred hosts test p h barred = ap (λ (b : Bool). is_end (flow_of hosts p) h && b) barred ∙ and-false (is_end (flow_of hosts p) h)
