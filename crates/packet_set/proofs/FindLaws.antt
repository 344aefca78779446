-- Laws of the search for a packet of a set.
use Rattle.std.proofs.Common.{◌≡◌, ◌⊎◌, inl, inr, ℕ, zero, suc, ◌<◌, ◌≤◌, true, false, List, Option, Some, None, is_some, length, refl, sym, subst, ◌∙◌, arith}
use Rattle.std.specs.Prelude.{◌==◌, if◌then◌else◌}
use Rattle.host_net.specs.declared.packet.Packet.{Packet}
use Rattle.header_space.specs.declared.packet_box.PacketBox.{PacketBox}
use Rattle.header_space.specs.Boxes.{IsBox, IsIn, IsNoHigher}
use Rattle.packet_set.specs.declared.field.Field.{Field}
use Rattle.packet_set.specs.declared.field.Field.TheVariants.{Proto, Dport, Src, Dst, Sport}
use Rattle.packet_set.specs.declared.find.Found.{Found}
use Rattle.packet_set.specs.declared.node.Node.{Node}
use Rattle.packet_set.specs.Finding.{AreFellows, IsFound, IsOneOrNone, IsUpTo}
use Rattle.packet_set.specs.Nodes.{AreNodes, has, node_at, number_of}
use Rattle.packet_set.specs.inner.Searching.{IsService}
use Rattle.packet_set.proofs.BranchLaws.{high_side, low_side, sides_of}
use Rattle.packet_set.proofs.HasLaws.{has_empty, has_every}

-- ---- numbers of fields

pub no_higher : (field : Field) (p q : Packet) → IsNoHigher p q → number_of field p ≤ number_of field q
no_higher Proto p q h = h.proto
no_higher Dport p q h = h.dport
no_higher Src p q h = h.src
no_higher Dst p q h = h.dst
no_higher Sport p q h = h.sport

pub self_higher : (p : Packet) → IsNoHigher p p
self_higher p = record { src = omega arith; dst = omega arith; proto = omega arith; sport = omega arith; dport = omega arith }

-- A fellow of a packet of a box, with a service of the box, has no greater numbers than the box.
fellow_number : (field : Field) (b : PacketBox) (f : Found) (q p : Packet) → IsIn b q → AreFellows q p → p.proto ≤ f.proto → p.dport ≤ f.dport
    → f.proto ≤ b.greatest.proto → f.dport ≤ b.greatest.dport → number_of field p ≤ number_of field b.greatest
fellow_number Proto b f q p inside fellows proto dport proto_most dport_most = omega (arith, proto, proto_most)
fellow_number Dport b f q p inside fellows proto dport proto_most dport_most = omega (arith, dport, dport_most)
fellow_number Src b f q p inside fellows proto dport proto_most dport_most = let a = fellows.src in let x = inside.below.src in omega (arith, a, x)
fellow_number Dst b f q p inside fellows proto dport proto_most dport_most = let a = fellows.dst in let x = inside.below.dst in omega (arith, a, x)
fellow_number Sport b f q p inside fellows proto dport proto_most dport_most = let a = fellows.sport in let x = inside.below.sport in omega (arith, a, x)

service_number : (field : Field) (b : PacketBox) (f : Found) (p : Packet) → IsService field → p.proto ≤ f.proto → p.dport ≤ f.dport
    → f.proto ≤ b.greatest.proto → f.dport ≤ b.greatest.dport → number_of field p ≤ number_of field b.greatest
service_number Proto b f p service proto dport proto_most dport_most = omega (arith, proto, proto_most)
service_number Dport b f p service proto dport proto_most dport_most = omega (arith, dport, dport_most)
service_number Src b f p service proto dport proto_most dport_most = absurd service
service_number Dst b f p service proto dport proto_most dport_most = absurd service
service_number Sport b f p service proto dport proto_most dport_most = absurd service

same_number : (field : Field) (p q : Packet) → (IsService field → ⊥) → AreFellows q p → number_of field p ≡ number_of field q
same_number Proto p q not fellows = absurd (not tt)
same_number Dport p q not fellows = absurd (not tt)
same_number Src p q not fellows = fellows.src
same_number Dst p q not fellows = fellows.dst
same_number Sport p q not fellows = fellows.sport

-- ---- a set without a node

pub found_all : (nodes : List Node) (set : ℕ) (b : PacketBox) (f : Found) → set < 2 → IsBox b
    → f.packet ≡ (if set == 1 then Some b.least else None) → f.proto ≡ b.greatest.proto → f.dport ≡ b.greatest.dport → IsFound nodes set b f
found_all nodes zero b f low is_box packet proto dport = record {
  proto = let x = is_box.proto in omega (arith, x, proto);
  dport = let x = is_box.dport in omega (arith, x, dport);
  proto_most = omega (arith, proto);
  dport_most = omega (arith, dport);
  packet = subst (IsOneOrNone nodes 0 b f) (sym packet) (λ p up. has_empty nodes p);
}
found_all nodes (suc zero) b f low is_box packet proto dport = record {
  proto = let x = is_box.proto in omega (arith, x, proto);
  dport = let x = is_box.dport in omega (arith, x, dport);
  proto_most = omega (arith, proto);
  dport_most = omega (arith, dport);
  packet = subst (IsOneOrNone nodes 1 b f) (sym packet) (record {
    inside = record { above = self_higher b.least; below = is_box };
    proto = refl;
    dport = refl;
    fellows = λ p up fellows. has_every nodes p;
  });
}
found_all nodes (suc (suc n)) b f low is_box packet proto dport = absurd (omega (arith, low))

-- ---- a set with a node

one_by : (nodes : List Node) (set other : ℕ) (b : PacketBox) (f : Found) (o : Option Packet) → ((p : Packet) → IsUpTo b f p → has nodes other p ≡ has nodes set p)
    → IsOneOrNone nodes other b f o → IsOneOrNone nodes set b f o
one_by nodes set other b f None same none = λ p up. sym (same p up) ∙ none p up
one_by nodes set other b f (Some q) same one =
    record { inside = one.inside; proto = one.proto; dport = one.dport; fellows = λ p up fellows. sym (same p up) ∙ one.fellows p up fellows }

module _ (nodes : List Node) (set : ℕ) (node : Node) (b : PacketBox) (are : AreNodes nodes) (some : 2 ≤ set) (there : set < length nodes)
    (is : node ≡ node_at nodes set) where
  -- All packets of the box are beyond the test.
  pub found_high : (f : Found) → node.last < number_of node.field b.least → IsFound nodes node.high b f → IsFound nodes set b f
  found_high f beyond found = record {
    proto = found.proto;
    dport = found.dport;
    proto_most = found.proto_most;
    dport_most = found.dport_most;
    packet = one_by nodes set node.high b f f.packet
        (λ p up. high_side nodes set node p are some there is
        (let x = no_higher node.field b.least p up.inside.above in omega (arith, x, beyond))) found.packet;
  }

  module _ (part : PacketBox) (is_part : IsBox part) (least : part.least ≡ b.least) (greatest : number_of node.field part.greatest ≤ node.last)
      (inside : (p : Packet) → IsIn b p → number_of node.field p ≤ node.last → IsIn part p) (within : (p : Packet) → IsIn part p → IsIn b p)
      (first : Found) (lows : IsFound nodes node.low part first) where
    last_in : IsIn b part.greatest
    last_in = within part.greatest (record { above = is_part; below = self_higher part.greatest })

    pub proto_from : b.least.proto ≤ first.proto
    proto_from = subst (λ (p : Packet). p.proto ≤ first.proto) least lows.proto

    pub dport_from : b.least.dport ≤ first.dport
    dport_from = subst (λ (p : Packet). p.dport ≤ first.dport) least lows.dport

    pub proto_to : first.proto ≤ b.greatest.proto
    proto_to = let x = lows.proto_most in let y = last_in.below.proto in omega (arith, x, y)

    pub dport_to : first.dport ≤ b.greatest.dport
    dport_to = let x = lows.dport_most in let y = last_in.below.dport in omega (arith, x, y)

    low_same : (p : Packet) → number_of node.field p ≤ node.last → has nodes node.low p ≡ has nodes set p
    low_same p at_most = low_side nodes set node p are some there is at_most

    up_to_part : (p : Packet) → IsUpTo b first p → number_of node.field p ≤ node.last → IsUpTo part first p
    up_to_part p up at_most = record { inside = inside p up.inside at_most; proto = up.proto; dport = up.dport }

    low_packet : (o : Option Packet) → (is_some o ≡ true) ⊎ ((number_of node.field b.greatest ≤ node.last) ⊎ IsService node.field)
        → IsOneOrNone nodes node.low part first o → IsOneOrNone nodes set b first o
    low_packet None (inl some) none = absurd (cc)
    low_packet None (inr (inl most)) none = λ p up.
        let at_most : number_of node.field p ≤ node.last = let x = no_higher node.field p b.greatest up.inside.below in omega (arith, x, most) in
        sym (low_same p at_most) ∙ none p (up_to_part p up at_most)
    low_packet None (inr (inr service)) none = λ p up.
        let at_most : number_of node.field p ≤ node.last =
        let x = service_number node.field part first p service up.proto up.dport lows.proto_most lows.dport_most in omega (arith, x, greatest) in
        sym (low_same p at_most) ∙ none p (up_to_part p up at_most)
    low_packet (Some q) why one = record {
      inside = within q one.inside;
      proto = subst (λ (p : Packet). q.proto ≡ p.proto) least one.proto;
      dport = subst (λ (p : Packet). q.dport ≡ p.dport) least one.dport;
      fellows = λ p up fellows.
          let at_most : number_of node.field p ≤ node.last =
          let x = fellow_number node.field part first q p one.inside fellows up.proto up.dport lows.proto_most lows.dport_most in omega (arith, x, greatest) in
          sym (low_same p at_most) ∙ one.fellows p (up_to_part p up at_most) fellows;
    }

    pub found_low : (is_some first.packet ≡ true) ⊎ ((number_of node.field b.greatest ≤ node.last) ⊎ IsService node.field) → IsFound nodes set b first
    found_low why = record {
      proto = proto_from;
      dport = dport_from;
      proto_most = proto_to;
      dport_most = dport_to;
      packet = low_packet first.packet why lows.packet;
    }

    module _ (rest : PacketBox) (no_service : IsService node.field → ⊥)
        (rest_proto : (rest.least.proto ≡ b.least.proto) × (rest.greatest.proto ≡ first.proto))
        (rest_dport : (rest.least.dport ≡ b.least.dport) × (rest.greatest.dport ≡ first.dport))
        (into : (p : Packet) → IsUpTo b first p → node.last < number_of node.field p → IsIn rest p)
        (from : (p : Packet) → IsIn rest p → IsUpTo b first p × (node.last < number_of node.field p))
        (second : Found) (highs : IsFound nodes node.high rest second) where
      up_to_first : (p : Packet) → IsUpTo b second p → IsUpTo b first p
      up_to_first p up = record {
        inside = up.inside;
        proto = let x = up.proto in let y = highs.proto_most in let z = rest_proto.1 in omega (arith, x, y, z);
        dport = let x = up.dport in let y = highs.dport_most in let z = rest_dport.1 in omega (arith, x, y, z);
      }

      up_to_rest : (p : Packet) → IsUpTo b second p → node.last < number_of node.field p → IsUpTo rest second p
      up_to_rest p up beyond = record { inside = into p (up_to_first p up) beyond; proto = up.proto; dport = up.dport }

      high_same : (p : Packet) → node.last < number_of node.field p → has nodes node.high p ≡ has nodes set p
      high_same p beyond = high_side nodes set node p are some there is beyond

      none_low : (o : Option Packet) → is_some o ≡ false → IsOneOrNone nodes node.low part first o → (p : Packet) → IsUpTo part first p → has nodes node.low p ≡ false
      none_low None lacks none = none
      none_low (Some q) lacks one = absurd (cc)

      high_packet : (o : Option Packet) → is_some first.packet ≡ false → IsOneOrNone nodes node.high rest second o → IsOneOrNone nodes set b second o
      high_packet None lacks none = λ p up. elim (sides_of (number_of node.field p) node.last) [
        | inl at_most ↦ sym (low_same p at_most) ∙ none_low first.packet lacks lows.packet p (up_to_part p (up_to_first p up) at_most)
        | inr beyond ↦ sym (high_same p beyond) ∙ none p (up_to_rest p up beyond)
      ]
      high_packet (Some q) lacks one = record {
        inside = (from q one.inside).0.inside;
        proto = let x = one.proto in let y = rest_proto.0 in x ∙ y;
        dport = let x = one.dport in let y = rest_dport.0 in x ∙ y;
        fellows = λ p up fellows.
            let beyond : node.last < number_of node.field p =
            let x = (from q one.inside).1 in let y = same_number node.field p q no_service fellows in omega (arith, x, y) in
            sym (high_same p beyond) ∙ one.fellows p (up_to_rest p up beyond) fellows;
      }

      pub found_rest : is_some first.packet ≡ false → IsFound nodes set b second
      found_rest lacks = record {
        proto = let x = highs.proto in let y = rest_proto.0 in omega (arith, x, y);
        dport = let x = highs.dport in let y = rest_dport.0 in omega (arith, x, y);
        proto_most = let x = highs.proto_most in let y = rest_proto.1 in let z = proto_to in omega (arith, x, y, z);
        dport_most = let x = highs.dport_most in let y = rest_dport.1 in let z = dport_to in omega (arith, x, y, z);
        packet = high_packet second.packet lacks highs.packet;
      }
