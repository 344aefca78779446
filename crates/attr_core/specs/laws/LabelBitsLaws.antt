-- The set of the labels that a table lists has the bits of their indices. So one set is a subset of another if and only if each label of
-- the former is listed for the latter.
use Rattle.std.proofs.Common.{◌≡◌, ◌≤◌, ◌<◌, ◌↔◌, ℕ, ◌+◌, ◌^◌, max, min, nat_lt, bit_and, bit_or, ◌⊎◌, inl, inr, Bool, true, false, List, [], ◌∷◌, ◌++◌, append_assoc, append-nil, length, Option, Some, None, refl, sym, ap, ◌∙◌, subst, arith}
use Rattle.std.proofs.lemmas.Bool.{and_parts, cases_eq, false≢true, or_cases, or_left, or_right}
use Rattle.std.proofs.lemmas.Bool.Decides.{nat_tests}
use Rattle.std.proofs.lemmas.Nat.Bits.{bit_at-lt, bit_at-pow_other, bit_at-pow_same, bit_at-zero, bit_at_and, bit_at_or, same_from_bits}
use Rattle.std.proofs.lemmas.Option.{option_and_then_some}
use Rattle.std.proofs.lemmas.Slice.Eq.{bytes_eq-Decides}
use Rattle.std.specs.Int.{bit_at}
use Rattle.std.specs.List.{list_all, position_from}
use Rattle.std.specs.Prelude.{if◌then◌else◌, unwrap_or}
use Rattle.std.specs.Str.{bytes_eq}
use Rattle.table_core.specs.Listing.{each}
use Rattle.table_core.specs.inner.Listing.{grow}
use Rattle.table_core.specs.Tables.{list_or_empty}
use Rattle.toml.specs.Data.{Data, Members}
use Rattle.attr_core.specs.inner.LabelWalk.{Known, LabelSet, all_labels, and_label, are_among, known_or_new, labels_at, new_label, numbered}
use Rattle.attr_core.specs.Tainting.{bits_of, is_listed, label_in, labels_in}

-- The index of a label, from 0.
abbrev pub place_of : List (List ℕ) → List ℕ → Option ℕ
place_of labels label = position_from (bytes_eq label) 0 labels

-- Some labels, followed by more.
abbrev pub Extends : List (List ℕ) → List (List ℕ) → Type 0
Extends all labels = (more : List (List ℕ)) × (all ≡ labels ++ more)

pub extends_self : (labels : List (List ℕ)) → Extends labels labels
extends_self labels = ([], sym (append-nil labels))

pub extends_both : (all some first : List (List ℕ)) → Extends all some → Extends some first → Extends all first
extends_both all some first (behind, is) (between, was) = (between ++ behind, is ∙ ap (λ labels. labels ++ behind) was ∙ append_assoc first between behind)

-- A label keeps its index.
further_by : (b : Bool) (n k : ℕ) (later further : Option ℕ) → (later ≡ Some k → further ≡ Some k)
    → (if b then Some n else later) ≡ Some k → (if b then Some n else further) ≡ Some k
further_by true n k later further behind is = is
further_by false n k later further behind is = behind is

found_further : (p : List ℕ → Bool) (n k : ℕ) (xs ys : List (List ℕ)) → position_from p n xs ≡ Some k
    → position_from p n (xs ++ ys) ≡ Some k
found_further p n k [] ys is = cc
found_further p n k (x ∷ xs) ys is = further_by (p x) n k (position_from p (n + 1) xs) (position_from p (n + 1) (xs ++ ys)) (found_further p (n + 1) k xs ys) is

pub keeps_place : (all labels : List (List ℕ)) (label : List ℕ) (k : ℕ) → Extends all labels → place_of labels label ≡ Some k
    → place_of all label ≡ Some k
keeps_place all labels label k (more, is) found = ap (position_from (bytes_eq label) 0) is ∙ found_further (bytes_eq label) 0 k labels more found

-- A new label has the next index.
next_by : (b : Bool) (n k : ℕ) (later further : Option ℕ) → (later ≡ None → further ≡ Some k) → (if b then Some n else later) ≡ None
    → (if b then Some n else further) ≡ Some k
next_by true n k later further behind is = cc
next_by false n k later further behind is = behind is

found_last : (p : List ℕ → Bool) (n k : ℕ) (x : List ℕ) (xs : List (List ℕ)) → p x ≡ true → k ≡ n + length xs
    → position_from p n xs ≡ None → position_from p n (xs ++ x ∷ []) ≡ Some k
found_last p n k x [] here place is = let same : n ≡ k = omega (arith, place) in rw here (ap Some same)
found_last p n k x (y ∷ ys) here place is =
    next_by (p y) n k (position_from p (n + 1) ys) (position_from p (n + 1) (ys ++ x ∷ [])) (found_last p (n + 1) k x ys here (omega (arith, place))) is

new_by : (b : Bool) (labels : List (List ℕ)) (label : List ℕ) (known : Known) → place_of labels label ≡ None
    → (if b then Some (record { labels = labels ++ label ∷ []; number = length labels }) else None) ≡ Some known
    → Extends known.labels labels × (place_of known.labels label ≡ Some known.number)
new_by false labels label known none is = cc
new_by true labels label known none is =
    let same_labels : labels ++ label ∷ [] ≡ known.labels = cc in
    let same_number : length labels ≡ known.number = cc in
    let place : known.number ≡ 0 + length labels = omega (arith, same_number) in (
      (label ∷ [], sym same_labels),
      ap (position_from (bytes_eq label) 0) (sym same_labels) ∙ found_last (bytes_eq label) 0 known.number label labels ((bytes_eq-Decides label label).1 refl) place none,
    )

numbered_by : (labels : List (List ℕ)) (label : List ℕ) (known : Known) (o : Option ℕ) → place_of labels label ≡ o
    → known_or_new labels label o ≡ Some known
    → Extends known.labels labels × (place_of known.labels label ≡ Some known.number)
unfolding new_label
numbered_by labels label known None none is = new_by (nat_lt (length labels) 64) labels label known none is
numbered_by labels label known (Some number) found is =
    let same_labels : labels ≡ known.labels = cc in
    let same_number : number ≡ known.number = cc in
    (([], sym same_labels ∙ sym (append-nil labels)), ap (position_from (bytes_eq label) 0) (sym same_labels) ∙ found ∙ ap Some same_number)

is_numbered : (labels : List (List ℕ)) (label : List ℕ) (known : Known) → numbered labels label ≡ Some known
    → Extends known.labels labels × (place_of known.labels label ≡ Some known.number)
unfolding numbered
is_numbered labels label known is = numbered_by labels label known (place_of labels label) refl is

-- No two labels have the same index.
not_before : (p : List ℕ → Bool) (n k : ℕ) (xs : List (List ℕ)) → position_from p n xs ≡ Some k → n ≤ k
not_before p n k [] is = cc
not_before p n k (x ∷ xs) is = by_test (p x) (not_before p (n + 1) k xs) is
  where
    by_test : (b : Bool) → (position_from p (n + 1) xs ≡ Some k → n + 1 ≤ k)
        → (if b then Some n else position_from p (n + 1) xs) ≡ Some k → n ≤ k
    by_test true behind found = let same : n ≡ k = cc in omega (arith, same)
    by_test false behind found = let later = behind found in omega (arith, later)

pub one_place : (a b : List ℕ) (n k : ℕ) (xs : List (List ℕ)) → position_from (bytes_eq a) n xs ≡ Some k
    → position_from (bytes_eq b) n xs ≡ Some k → a ≡ b
one_place a b n k [] first second = cc
one_place a b n k (x ∷ xs) first second = by_tests (bytes_eq a x) (bytes_eq b x) refl refl (one_place a b (n + 1) k xs) first second
  where
    by_tests : (p q : Bool) → bytes_eq a x ≡ p → bytes_eq b x ≡ q
        → (position_from (bytes_eq a) (n + 1) xs ≡ Some k → position_from (bytes_eq b) (n + 1) xs ≡ Some k → a ≡ b)
        → (if p then Some n else position_from (bytes_eq a) (n + 1) xs) ≡ Some k
        → (if q then Some n else position_from (bytes_eq b) (n + 1) xs) ≡ Some k → a ≡ b
    by_tests true true is_a is_b behind one other = (bytes_eq-Decides a x).0 is_a ∙ sym ((bytes_eq-Decides b x).0 is_b)
    by_tests true false is_a is_b behind one other = let same : n ≡ k = cc in let later = not_before (bytes_eq b) (n + 1) k xs other in absurd (omega (arith, same, later))
    by_tests false true is_a is_b behind one other = let same : n ≡ k = cc in let later = not_before (bytes_eq a) (n + 1) k xs one in absurd (omega (arith, same, later))
    by_tests false false is_a is_b behind one other = behind one other

-- One more bit.
bit_more : (bits number k : ℕ) → (bit_at (bit_or bits (2 ^ number)) k ≡ 1) ↔ ((bit_at bits k ≡ 1) ⊎ (number ≡ k))
bit_more bits number k = elim (cases_eq number k) [
  | inl same ↦ (
    λ is. inr same,
    λ either.
        let one : bit_at (2 ^ number) k ≡ 1 = subst (λ i. bit_at (2 ^ number) i ≡ 1) same (bit_at-pow_same number) in
        bit_at_or bits (2 ^ number) k ∙ ap (max (bit_at bits k)) one ∙ omega (arith, bit_at-lt bits k),
  )
  | inr other ↦
      let none : bit_at (2 ^ number) k ≡ 0 = bit_at-pow_other number k (λ same. other (sym same)) in
      let kept : bit_at (bit_or bits (2 ^ number)) k ≡ bit_at bits k = bit_at_or bits (2 ^ number) k ∙ ap (max (bit_at bits k)) none ∙ omega arith in (
        λ is. inl (sym kept ∙ is),
        λ either. elim either [
          | inl had ↦ kept ∙ had
          | inr same ↦ absurd (other same)
        ],
      )
]

-- Some listed label has the index.
abbrev pub Marks : List (List ℕ) → List (List ℕ) → ℕ → Type 0
Marks all ls k = (l : List ℕ) × (is_listed ls l ≡ true) × (place_of all l ≡ Some k)

pub record AreBits (labels : List (List ℕ)) (bits : ℕ) (t : LabelSet) (ls : List (List ℕ)) : Type 0 where
  pub grown : Extends t.labels labels
  pub placed : (all : List (List ℕ)) → Extends all t.labels → (l : List ℕ) → is_listed ls l ≡ true → (k : ℕ) × (place_of all l ≡ Some k)
  pub marked : (all : List (List ℕ)) → Extends all t.labels → (k : ℕ) → (bit_at t.bits k ≡ 1) ↔ ((bit_at bits k ≡ 1) ⊎ Marks all ls k)

one_label : (s : LabelSet) (d : Data) (u : LabelSet) → and_label s d ≡ Some u
    → (label : List ℕ) ×
    (number : ℕ) × (label_in d ≡ Some label) × Extends u.labels s.labels × (place_of u.labels label ≡ Some number) × (bit_or s.bits (2 ^ number) ≡ u.bits)
unfolding and_label
one_label s d u is =
    option_and_then_some _ (label_in d) u is (λ label is_label rest.
    option_and_then_some _ (numbered s.labels label) u rest (λ known is_known last.
    let (grown, found) = is_numbered s.labels label known is_known in
    let same_labels : known.labels ≡ u.labels = cc in
    let same_bits : bit_or s.bits (2 ^ known.number) ≡ u.bits = cc in
    (label, known.number, is_label, subst (λ labels. Extends labels s.labels) same_labels grown, subst (λ labels. place_of labels label ≡ Some known.number) same_labels found, same_bits)))

and_more : (s u t : LabelSet) (label : List ℕ) (number : ℕ) (ls : List (List ℕ)) → Extends u.labels s.labels
    → place_of u.labels label ≡ Some number → bit_or s.bits (2 ^ number) ≡ u.bits
    → AreBits u.labels u.bits t ls → AreBits s.labels s.bits t (label ∷ ls)
and_more s u t label number ls grown found bits rest = record {
  grown = extends_both t.labels u.labels s.labels rest.grown grown;
  placed = λ all extends l listed. elim (or_cases (bytes_eq l label) (is_listed ls l) listed) [
    | inl same ↦
        let here : place_of all label ≡ Some number = keeps_place all u.labels label number (extends_both all t.labels u.labels extends rest.grown) found in
        (number, ap (place_of all) ((bytes_eq-Decides l label).0 same) ∙ here)
    | inr later ↦ rest.placed all extends l later
  ];
  marked = λ all extends k.
      let here : place_of all label ≡ Some number = keeps_place all u.labels label number (extends_both all t.labels u.labels extends rest.grown) found in
      let more : (bit_at u.bits k ≡ 1) ↔ ((bit_at s.bits k ≡ 1) ⊎ (number ≡ k)) = subst (λ n. (bit_at n k ≡ 1) ↔ ((bit_at s.bits k ≡ 1) ⊎ (number ≡ k))) bits (bit_more s.bits number k) in (
        λ is. elim ((rest.marked all extends k).0 is) [
          | inl had ↦ elim (more.0 had) [
            | inl old ↦ inl old
            | inr same ↦ inr (label, or_left (bytes_eq label label) (is_listed ls label) ((bytes_eq-Decides label label).1 refl), here ∙ ap Some same)
          ]
          | inr (l, listed, place) ↦ inr (l, or_right (bytes_eq l label) (is_listed ls l) listed, place)
        ],
        λ either. elim either [
          | inl old ↦ (rest.marked all extends k).1 (inl (more.1 (inl old)))
          | inr (l, listed, place) ↦ elim (or_cases (bytes_eq l label) (is_listed ls l) listed) [
            | inl same ↦
                let whole : Some number ≡ Some k = sym here ∙ ap (place_of all) (sym ((bytes_eq-Decides l label).0 same)) ∙ place in
                let is_k : number ≡ k = cc in
                (rest.marked all extends k).1 (inl (more.1 (inr is_k)))
            | inr later ↦ (rest.marked all extends k).1 (inr (l, later, place))
          ]
        ],
      );
}

all_bits : (s : LabelSet) (ds : List Data) (t : LabelSet) → grow and_label s ds ≡ Some t
    → (ls : List (List ℕ)) × (each label_in ds ≡ Some ls) × AreBits s.labels s.bits t ls
all_bits s [] t is =
    let same : s ≡ t = cc in (
      [],
      refl,
      subst (λ (u : LabelSet). AreBits s.labels s.bits u []) same (record {
        grown = extends_self s.labels;
        placed = λ all extends l listed. absurd (false≢true listed);
        marked = λ all extends k. (
          λ had. inl had,
          λ either. elim either [
            | inl had ↦ had
            | inr (l, listed, place) ↦ absurd (false≢true listed)
          ],
        );
      }),
    )
all_bits s (d ∷ ds) t is =
    option_and_then_some _ (and_label s d) t is (λ u is_u rest.
    let (label, number, here, grown, found, bits) = one_label s d u is_u in
    let (ls, listed, more) = all_bits u ds t rest in
    (label ∷ ls, rw (here, listed) refl, and_more s u t label number ls grown found bits more))

pub key_bits : (key : List ℕ) (labels : List (List ℕ)) (table : Members) (t : LabelSet) → labels_at key labels table ≡ Some t
    → (ls : List (List ℕ)) × (labels_in key table ≡ Some ls) × AreBits labels 0 t ls
unfolding labels_at all_labels
key_bits key labels table t is =
    option_and_then_some _ (list_or_empty key table) t is (λ ds is_ds rest.
    let (ls, listed, are) = all_bits (record { labels = labels; bits = 0 }) ds t rest in
    (ls, rw is_ds listed, are))

-- One set is a subset of another.
within_bits : (u t : ℕ) → are_among u t ≡ true → (k : ℕ) → bit_at u k ≡ 1 → bit_at t k ≡ 1
within_bits u t among k has =
    let same : bit_and u t ≡ u = grind (arith, nat_tests) in
    let masked : min (bit_at u k) (bit_at t k) ≡ bit_at u k = sym (bit_at_and u t k) ∙ ap (λ n. bit_at n k) same in
    omega (arith, has, masked, bit_at-lt t k)

bits_within : (u t : ℕ) → ((k : ℕ) → bit_at u k ≡ 1 → bit_at t k ≡ 1) → are_among u t ≡ true
bits_within u t each =
    let same : bit_and u t ≡ u = same_from_bits (bit_and u t) u (λ i. bit_at_and u t i ∙ elim (cases_eq (bit_at u i) 1) [
      | inl has ↦ let other = each i has in omega (arith, has, other)
      | inr none ↦ omega (arith, none, bit_at-lt u i)
    ]) in
    grind (arith, nat_tests)

zero_has : (k : ℕ) {C : Type 0} → bit_at 0 k ≡ 1 → C
zero_has k has = let none = bit_at-zero k in absurd (omega (arith, has, none))

pub all_listed : (ts us : List (List ℕ)) → ((l : List ℕ) → is_listed us l ≡ true → is_listed ts l ≡ true) → list_all (is_listed ts) us ≡ true
all_listed ts [] each = refl
all_listed ts (l ∷ us) each =
    rw (each l (or_left (bytes_eq l l) (is_listed us l) ((bytes_eq-Decides l l).1 refl)), all_listed ts us (λ m listed. each m (or_right (bytes_eq m l) (is_listed us m) listed))) refl

pub each_listed : (ts us : List (List ℕ)) → list_all (is_listed ts) us ≡ true → (l : List ℕ) → is_listed us l ≡ true → is_listed ts l ≡ true
each_listed ts [] all l listed = absurd (false≢true listed)
each_listed ts (m ∷ us) all l listed =
    let (here, later) = and_parts (is_listed ts m) (list_all (is_listed ts) us) all in
    elim (or_cases (bytes_eq l m) (is_listed us l) listed) [
      | inl same ↦ ap (is_listed ts) ((bytes_eq-Decides l m).0 same) ∙ here
      | inr behind ↦ each_listed ts us later l behind
    ]

same_tests : (a b : Bool) → (a ≡ true → b ≡ true) → (b ≡ true → a ≡ true) → a ≡ b
same_tests true b forth back = sym (forth refl)
same_tests false true forth back = back refl
same_tests false false forth back = refl

-- The host removes only labels that it adds if and only if each label of the former list is in the latter.
pub among_is : (labels ts us : List (List ℕ)) (t u : LabelSet) → AreBits labels 0 t ts → AreBits t.labels 0 u us
    → are_among u.bits t.bits ≡ list_all (is_listed ts) us
among_is labels ts us t u taints untaints = same_tests (are_among u.bits t.bits) (list_all (is_listed ts) us)
    (λ among. all_listed ts us (λ l listed.
    let (k, place) = untaints.placed u.labels (extends_self u.labels) l listed in
    let has : bit_at t.bits k ≡ 1 = within_bits u.bits t.bits among k ((untaints.marked u.labels (extends_self u.labels) k).1 (inr (l, listed, place))) in
    elim ((taints.marked u.labels untaints.grown k).0 has) [
      | inl zero ↦ zero_has k zero
      | inr (m, there, its) ↦ ap (is_listed ts) (one_place l m 0 k u.labels place its) ∙ there
    ]))
    (λ all. bits_within u.bits t.bits (λ k has. elim ((untaints.marked u.labels (extends_self u.labels) k).0 has) [
      | inl zero ↦ zero_has k zero
      | inr (l, listed, place) ↦ (taints.marked u.labels untaints.grown k).1 (inr (l, each_listed ts us all l listed, place))
    ]))

-- A set of labels has the bits of their indices.
pub bits_mark : (labels ls : List (List ℕ)) → ((l : List ℕ) → is_listed ls l ≡ true → (k : ℕ) × (place_of labels l ≡ Some k)) → (k : ℕ)
    → (bit_at (bits_of labels ls) k ≡ 1) ↔ Marks labels ls k
bits_mark labels [] placed k = (λ has. zero_has k has, λ marks. absurd (false≢true marks.1))
bits_mark labels (m ∷ ls) placed k =
    let listed_first = or_left (bytes_eq m m) (is_listed ls m) ((bytes_eq-Decides m m).1 refl) in
    let (n, place) = placed m listed_first in
    let number : unwrap_or (place_of labels m) 0 ≡ n = ap (λ o. unwrap_or o 0) place in
    let rest = bits_mark labels ls (λ l listed. placed l (or_right (bytes_eq l m) (is_listed ls l) listed)) k in
    let more = bit_more (bits_of labels ls) (unwrap_or (place_of labels m) 0) k in (
      λ is. elim (more.0 is) [
        | inl had ↦ let (l, listed, at) = rest.0 had in (l, or_right (bytes_eq l m) (is_listed ls l) listed, at)
        | inr same ↦ (m, listed_first, place ∙ ap Some (sym number ∙ same))
      ],
      λ marks.
          let (l, listed, at) = marks in
          elim (or_cases (bytes_eq l m) (is_listed ls l) listed) [
            | inl same ↦
                let here : place_of labels m ≡ Some k = ap (place_of labels) (sym ((bytes_eq-Decides l m).0 same)) ∙ at in
                more.1 (inr (ap (λ o. unwrap_or o 0) here))
            | inr later ↦ more.1 (inl (rest.1 (l, later, at)))
          ],
    )

same_bit : (a b : ℕ) → a < 2 → b < 2 → (a ≡ 1 → b ≡ 1) → (b ≡ 1 → a ≡ 1) → a ≡ b
same_bit a b first second forth back = elim (cases_eq a 1) [
  | inl one ↦ one ∙ sym (forth one)
  | inr none ↦ elim (cases_eq b 1) [
    | inl one ↦ absurd (none (back one))
    | inr other ↦ omega (arith, first, second, none, other)
  ]
]

-- The set after an iteration.
pub bits_are : (before ls : List (List ℕ)) (t : LabelSet) → AreBits before 0 t ls → (all : List (List ℕ)) → Extends all t.labels
    → t.bits ≡ bits_of all ls
bits_are before ls t are all extends =
    same_from_bits t.bits (bits_of all ls) (λ k.
    let mark = bits_mark all ls (λ l listed. are.placed all extends l listed) k in
    same_bit (bit_at t.bits k) (bit_at (bits_of all ls) k) (bit_at-lt t.bits k) (bit_at-lt (bits_of all ls) k)
    (λ has. mark.1 (elim ((are.marked all extends k).0 has) [
      | inl none ↦ zero_has k none
      | inr marks ↦ marks
    ]))
    (λ has. (are.marked all extends k).1 (inr (mark.0 has))))
