-- Laws of branches: what a node says of its set, and the set that an operation makes of branches.
use Rattle.std.proofs.Common.{◌≡◌, ◌⊎◌, inl, inr, ℕ, zero, suc, ◌<◌, ◌≤◌, Bool, List, length, refl, sym, ap, subst, ◌∙◌, arith}
use Rattle.std.specs.Prelude.{if◌then◌else◌, nat_le}
use Rattle.host_net.specs.declared.packet.Packet.{Packet}
use Rattle.packet_set.specs.declared.field.Field.{Field}
use Rattle.packet_set.specs.declared.field.Field.TheVariants.{Src, Dst, Proto, Sport, Dport}
use Rattle.packet_set.specs.declared.node.Node.{Node}
use Rattle.packet_set.specs.declared.combine.Branches.{Branches}
use Rattle.packet_set.specs.declared.combine.Operation.{Operation}
use Rattle.packet_set.specs.declared.combine.Test.{Test}
use Rattle.packet_set.specs.Nodes.{AreNodes, has, next_of, node_at, number_of, rank_of}
use Rattle.packet_set.specs.Sets.{IsSet, Keeps, combined}
use Rattle.packet_set.specs.inner.Branching.{IsBranched}
use Rattle.packet_set.proofs.HasLaws.{has_next}

pub taken_low : (n last low high : ℕ) → n ≤ last → (if nat_le n last then low else high) ≡ low
taken_low n last low high holds = grind arith

pub taken_high : (n last low high : ℕ) → last < n → (if nat_le n last then low else high) ≡ high
taken_high n last low high holds = grind arith

-- Where the number is at most the last of the node, the low set has the packets of the set.
pub low_side : (nodes : List Node) (set : ℕ) (node : Node) (p : Packet) → AreNodes nodes → 2 ≤ set → set < length nodes → node ≡ node_at nodes set
    → number_of node.field p ≤ node.last → has nodes node.low p ≡ has nodes set p
low_side nodes set node p are some there is holds =
    sym (has_next nodes set p are some there
    ∙ (ap (λ (x : Node). has nodes (next_of x p) p) (sym is) ∙ ap (λ (n : ℕ). has nodes n p) (taken_low (number_of node.field p) node.last node.low node.high holds)))

pub high_side : (nodes : List Node) (set : ℕ) (node : Node) (p : Packet) → AreNodes nodes → 2 ≤ set → set < length nodes → node ≡ node_at nodes set
    → node.last < number_of node.field p → has nodes node.high p ≡ has nodes set p
high_side nodes set node p are some there is holds =
    sym (has_next nodes set p are some there
    ∙ (ap (λ (x : Node). has nodes (next_of x p) p) (sym is) ∙ ap (λ (n : ℕ). has nodes n p) (taken_high (number_of node.field p) node.last node.low node.high holds)))

pub rank_same : (f g : Field) → rank_of f ≡ rank_of g → f ≡ g
rank_same Src Src e = refl
rank_same Dst Dst e = refl
rank_same Proto Proto e = refl
rank_same Sport Sport e = refl
rank_same Dport Dport e = refl
rank_same f g e = absurd (omega (arith, e))

pub both_branches : (nodes : List Node) (set : ℕ) (node : Node) (test : Test) → AreNodes nodes → 2 ≤ set → set < length nodes → node ≡ node_at nodes set
    → node.field ≡ test.field → node.last ≡ test.last → IsBranched nodes set test (record { low = node.low; high = node.high })
both_branches nodes set node test are some there is field last = record {
  low_most = let l : node.low < set = subst (λ (x : Node). x.low < set) (sym is) (are.low set some there) in omega arith;
  high_most = let l : node.high < set = subst (λ (x : Node). x.high < set) (sym is) (are.high set some there) in omega arith;
  low = λ p holds. low_side nodes set node p are some there is
      (subst (λ (f : Field). number_of f p ≤ node.last) (sym field) (subst (λ (n : ℕ). number_of test.field p ≤ n) (sym last) holds));
  high = λ p holds. high_side nodes set node p are some there is
      (subst (λ (f : Field). node.last < number_of f p) (sym field) (subst (λ (n : ℕ). n < number_of test.field p) (sym last) holds));
}

pub one_branch : (nodes : List Node) (set : ℕ) (node : Node) (test : Test) → AreNodes nodes → 2 ≤ set → set < length nodes → node ≡ node_at nodes set
    → node.field ≡ test.field → test.last ≤ node.last → IsBranched nodes set test (record { low = node.low; high = set })
one_branch nodes set node test are some there is field last = record {
  low_most = let l : node.low < set = subst (λ (x : Node). x.low < set) (sym is) (are.low set some there) in omega arith;
  high_most = omega arith;
  low = λ p holds. low_side nodes set node p are some there is
      (subst (λ (f : Field). number_of f p ≤ node.last) (sym field) (omega (arith, holds, last)));
  high = λ p holds. refl;
}

pub keeps_both : (old one two : List Node) → Keeps old one → Keeps one two → Keeps old two
keeps_both old one two a b = record {
  longer = let x = a.longer in let y = b.longer in omega (arith, x, y);
  same = λ set there p. let x = a.longer in b.same set (omega (arith, there, x)) p ∙ a.same set there p;
}

pub sides_of : (n last : ℕ) → (n ≤ last) ⊎ (last < n)
sides_of zero last = inl (omega arith)
sides_of (suc n) zero = inr (omega arith)
sides_of (suc n) (suc last) = elim (sides_of n last) [ inl low ↦ inl (omega (arith, low)) | inr high ↦ inr (omega (arith, high)) ]

pub two_of : (operation : Operation) {x y s t : Bool} → x ≡ s → y ≡ t → combined operation x y ≡ combined operation s t
two_of operation {x} {y} {s} {t} a b = ap (λ (v : Bool). combined operation v y) a ∙ ap (combined operation s) b

pub combined_by : (operation : Operation) (old one two new : List Node) (test : Test) (left right low high set : ℕ) (of_left of_right : Branches)
    → Keeps old one → Keeps one two → left < length old → right < length old → IsBranched old left test of_left → IsBranched old right test of_right
    → IsSet one low (λ p. combined operation (has old of_left.low p) (has old of_right.low p))
    → IsSet two high (λ p. combined operation (has one of_left.high p) (has one of_right.high p))
    → IsSet new set (λ p. has two (next_of (record { field = test.field; last = test.last; low = low; high = high }) p) p)
    → IsSet new set (λ p. combined operation (has old left p) (has old right p))
combined_by operation old one two new test left right low high set of_left of_right first second left_there right_there lefts rights lows highs made = record {
  there = made.there;
  exact = λ p. made.exact p ∙ elim (sides_of (number_of test.field p) test.last) [
    | inl holds ↦
        ap (λ (n : ℕ). has two n p) (taken_low (number_of test.field p) test.last low high holds)
        ∙ (second.same low lows.there p ∙ (lows.exact p ∙ two_of operation (lefts.low p holds) (rights.low p holds)))
    | inr fails ↦
        let a = lefts.high_most in
        let b = rights.high_most in
        ap (λ (n : ℕ). has two n p) (taken_high (number_of test.field p) test.last low high fails)
        ∙ (highs.exact p ∙ two_of operation
        (first.same of_left.high (omega (arith, a, left_there)) p ∙ lefts.high p fails)
        (first.same of_right.high (omega (arith, b, right_there)) p ∙ rights.high p fails))
  ];
}

pub known_there : (nodes : List Node) (left right set : ℕ) → AreNodes nodes → left < length nodes → right < length nodes
    → (set < 2) ⊎ ((set ≡ left) ⊎ (set ≡ right)) → set < length nodes
known_there nodes left right set are left_there right_there (inl low) = let some = are.some in omega (arith, some, low)
known_there nodes left right set are left_there right_there (inr (inl same)) = subst (λ (n : ℕ). n < length nodes) (sym same) left_there
known_there nodes left right set are left_there right_there (inr (inr same)) = subst (λ (n : ℕ). n < length nodes) (sym same) right_there
