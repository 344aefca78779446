-- Laws of the search for any packet of a set.
use Rattle.std.proofs.Common.{◌≡◌, ◌⊎◌, inl, inr, ℕ, zero, suc, ◌<◌, ◌≤◌, true, false, List, Option, Some, None, is_some, length, sym, subst, ◌∙◌, arith}
use Rattle.std.specs.Prelude.{◌==◌, if◌then◌else◌}
use Rattle.host_net.specs.declared.packet.Packet.{Packet}
use Rattle.header_space.specs.declared.packet_box.PacketBox.{PacketBox}
use Rattle.header_space.specs.Boxes.{IsBox, IsIn}
use Rattle.packet_set.specs.declared.node.Node.{Node}
use Rattle.packet_set.specs.Finding.{IsMember}
use Rattle.packet_set.specs.Nodes.{AreNodes, has, node_at, number_of}
use Rattle.packet_set.proofs.BranchLaws.{high_side, low_side, sides_of}
use Rattle.packet_set.proofs.FindLaws.{no_higher, self_higher}
use Rattle.packet_set.proofs.HasLaws.{has_empty, has_every}

pub member_all : (nodes : List Node) (set : ℕ) (b : PacketBox) (o : Option Packet) → set < 2 → IsBox b → o ≡ (if set == 1 then Some b.least else None)
    → IsMember nodes set b o
member_all nodes zero b o low is_box is = subst (IsMember nodes 0 b) (sym is) (λ p inside. has_empty nodes p)
member_all nodes (suc zero) b o low is_box is =
    subst (IsMember nodes 1 b) (sym is) (record { above = self_higher b.least; below = is_box }, has_every nodes b.least)
member_all nodes (suc (suc n)) b o low is_box is = absurd (omega (arith, low))

module _ (nodes : List Node) (set : ℕ) (node : Node) (b : PacketBox) (are : AreNodes nodes) (some : 2 ≤ set) (there : set < length nodes)
    (is : node ≡ node_at nodes set) where
  low_same : (p : Packet) → number_of node.field p ≤ node.last → has nodes node.low p ≡ has nodes set p
  low_same p at_most = low_side nodes set node p are some there is at_most

  high_same : (p : Packet) → node.last < number_of node.field p → has nodes node.high p ≡ has nodes set p
  high_same p beyond = high_side nodes set node p are some there is beyond

  -- All packets of the box are beyond the test.
  pub member_high : (o : Option Packet) → node.last < number_of node.field b.least → IsMember nodes node.high b o → IsMember nodes set b o
  member_high None beyond none = λ p inside.
      sym (high_same p (let x = no_higher node.field b.least p inside.above in omega (arith, x, beyond))) ∙ none p inside
  member_high (Some q) beyond found = (
    found.0,
    sym (high_same q (let x = no_higher node.field b.least q found.0.above in omega (arith, x, beyond))) ∙ found.1,
  )

  module _ (part : PacketBox) (is_part : IsBox part) (greatest : number_of node.field part.greatest ≤ node.last)
      (inside_part : (p : Packet) → IsIn b p → number_of node.field p ≤ node.last → IsIn part p) (within : (p : Packet) → IsIn part p → IsIn b p)
      (low : Option Packet) (lows : IsMember nodes node.low part low) where
    at_most_last : (p : Packet) → IsIn part p → number_of node.field p ≤ node.last
    at_most_last p inside = let x = no_higher node.field p part.greatest inside.below in omega (arith, x, greatest)

    low_by : (o : Option Packet) → IsMember nodes node.low part o → (is_some o ≡ true) ⊎ (number_of node.field b.greatest ≤ node.last)
        → IsMember nodes set b o
    low_by None none (inl wrong) = absurd (cc)
    low_by None none (inr all) = λ p inside.
        let at_most : number_of node.field p ≤ node.last = let x = no_higher node.field p b.greatest inside.below in omega (arith, x, all) in
        sym (low_same p at_most) ∙ none p (inside_part p inside at_most)
    low_by (Some q) found why = (within q found.0, sym (low_same q (at_most_last q found.0)) ∙ found.1)

    pub member_low : (is_some low ≡ true) ⊎ (number_of node.field b.greatest ≤ node.last) → IsMember nodes set b low
    member_low why = low_by low lows why

    none_low : (o : Option Packet) → is_some o ≡ false → IsMember nodes node.low part o → (p : Packet) → IsIn part p → has nodes node.low p ≡ false
    none_low None lacks none = none
    none_low (Some q) lacks found = absurd (cc)

    pub member_rest : (rest : PacketBox) (o : Option Packet) → is_some low ≡ false → ((p : Packet) → IsIn b p → node.last < number_of node.field p → IsIn rest p)
        → ((p : Packet) → IsIn rest p → IsIn b p × (node.last < number_of node.field p)) → IsMember nodes node.high rest o → IsMember nodes set b o
    member_rest rest None lacks into from none = λ p inside. elim (sides_of (number_of node.field p) node.last) [
      | inl at_most ↦ sym (low_same p at_most) ∙ none_low low lacks lows p (inside_part p inside at_most)
      | inr beyond ↦ sym (high_same p beyond) ∙ none p (into p inside beyond)
    ]
    member_rest rest (Some q) lacks into from found = let w = from q found.0 in (w.0, sym (high_same q w.1) ∙ found.1)
