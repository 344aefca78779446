-- Laws of the results that are kept.
use Rattle.std.proofs.Common.{◌≡◌, ℕ, ◌<◌, ◌≤◌, List, [], ◌∷◌, ◌++◌, length, refl, sym, ap, subst, ◌∙◌, arith, get_or}
use Rattle.std.proofs.Math.ListN.{replicate}
use Rattle.std.proofs.lemmas.List.{get_or-replicate, length-replicate}
use Rattle.packet_set.specs.declared.node.Node.{Node}
use Rattle.packet_set.specs.declared.diagrams.Entry.{Entry}
use Rattle.packet_set.specs.Nodes.{AreNodes, has, next_of, node_at}
use Rattle.packet_set.specs.Sets.{IsSet, Keeps}
use Rattle.packet_set.specs.inner.Kept.{AreKept, IsRight, no_entry}
use Rattle.packet_set.proofs.HasLaws.{are_pushed, has_empty, has_next, keeps_pushed}
use Rattle.packet_set.proofs.BranchLaws.{two_of}

pub right_still : (nodes new : List Node) (e : Entry) → IsRight nodes e → Keeps nodes new → IsRight new e
right_still nodes new e right keeps = record {
  left = let a = right.left in let b = keeps.longer in omega (arith, a, b);
  right = let a = right.right in let b = keeps.longer in omega (arith, a, b);
  is = record {
    there = let a = right.is.there in let b = keeps.longer in omega (arith, a, b);
    exact = λ p. keeps.same e.set right.is.there p ∙ (right.is.exact p
        ∙ sym (two_of e.operation (keeps.same e.left right.left p) (keeps.same e.right right.right p)));
  };
}

pub kept_pushed : (items new : List Node) (memo : List Entry) (node : Node) → AreKept items memo → new ≡ items ++ node ∷ []
    → node.low < length items → node.high < length items → AreKept new memo
kept_pushed items new memo node kept is low high = subst (λ (xs : List Node). AreKept xs memo) (sym is) (record {
  nodes_too = are_pushed items node kept.nodes_too low high;
  right = λ k there. right_still items (items ++ node ∷ []) (get_or memo k no_entry) (kept.right k there) (keeps_pushed items node kept.nodes_too);
})

-- A node that there is already.
pub set_found : (nodes : List Node) (set : ℕ) (node : Node) → AreNodes nodes → 2 ≤ set → set < length nodes → node_at nodes set ≡ node
    → IsSet nodes set (λ p. has nodes (next_of node p) p)
set_found nodes set node are some there is = record {
  there = there;
  exact = λ p. has_next nodes set p are some there ∙ ap (λ (x : Node). has nodes (next_of x p) p) is;
}

pub keeps_self : (nodes : List Node) → Keeps nodes nodes
keeps_self nodes = record { longer = omega arith; same = λ set there p. refl }

right_nothing : (nodes : List Node) → 2 ≤ length nodes → IsRight nodes no_entry
right_nothing nodes some = record {
  left = omega (arith, some);
  right = omega (arith, some);
  is = record { there = omega (arith, some); exact = λ p. rw (has_empty nodes p) refl };
}

pub kept_new : (nodes : List Node) (memo : List Entry) (n : ℕ) → length nodes ≡ 2 → memo ≡ replicate n no_entry → AreKept nodes memo
kept_new nodes memo n two is = record {
  nodes_too = record { some = omega (arith, two); low = λ set some there. absurd (omega (arith, two, some, there)); high = λ set some there. absurd (omega (arith, two, some, there)) };
  right = λ k there. subst (IsRight nodes)
      (sym (ap (λ (xs : List Entry). get_or xs k no_entry) is ∙ get_or-replicate n k no_entry no_entry (let e = ap length is ∙ length-replicate n no_entry in omega (arith, there, e))))
      (right_nothing nodes (omega (arith, two)));
}

pub two_by : (x y z : List Node) (a b : Node) → x ≡ [] → y ≡ x ++ a ∷ [] → z ≡ y ++ b ∷ [] → length z ≡ 2
two_by x y z a b none one two = rw (two, one, none) refl
