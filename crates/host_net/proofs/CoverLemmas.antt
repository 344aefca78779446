-- Sorted keys, the first key with the bits of two addresses, and an index with one more key.
use Rattle.std.proofs.Common.{◌≡◌, ℕ, zero, suc, ◌+◌, ◌-◌, ◌*◌, ◌^◌, ◌≤◌, ◌<◌, ◌⊎◌, inl, inr, Bool, true, false, List, [], ◌∷◌, ◌++◌, length, get_or, drop, append_assoc, slice_get, slice_index_or, Option, Some, None, Result, Ok, Err, OnErr, refl, sym, ap, ◌∙◌, subst, arith, length-append, true≢false}
use Rattle.std.specs.Prelude.{Contains, ◌==◌, ◌&&◌, nat_le, if◌then◌else◌}
use Rattle.std.specs.Bool.{Decides}
use Rattle.std.specs.List.{insert}
use Rattle.std.specs.List.Sorted.{IsNonDecreasingBy, IsPartitionPoint, IsPermutation}
use Rattle.std.proofs.lemmas.Bool.{and_from, and_parts, cases_lt, false_from_ne_true, or_cases, or_left, or_right}
use Rattle.std.proofs.lemmas.Bool.Decides.{Decides-and, Decides-eqb, nat_tests}
use Rattle.std.proofs.lemmas.List.{drop_more}
use Rattle.std.proofs.lemmas.List.Elements.{Contains-push_cases}
use Rattle.std.proofs.lemmas.List.Folds.{list_any-append}
use Rattle.std.proofs.lemmas.List.Sorted.{Contains-permutation, IsNonDecreasingBy-insert, IsPermutation-insert, IsPermutation-refl, IsPermutation-sym, length_permutation}
use Rattle.std.proofs.lemmas.Option.{same_Some, slice_get-get_or, slice_get_within, get_or_from_slice_get}
use Rattle.text_core.proofs.GetLaws.{get_front, get_last, get_pushed}
use Rattle.host_net.specs.declared.tuple_space.Ends.{Ends}
use Rattle.host_net.specs.declared.tuple_space.Group.{Group}
use Rattle.host_net.specs.declared.tuple_space.Key.{Key}
use Rattle.host_net.specs.declared.tuple_space.Lengths.{Lengths}
use Rattle.host_net.specs.declared.prefix.Prefix.{Prefix}
use Rattle.host_net.specs.inner.Cover.{IsFirstFrom, covers_both, part_covers}
use Rattle.host_net.specs.inner.CoverView.{AreFirst, AreInOrder, AreIndexOf, AreListed, Begins, IsFirstKey, IsFirstOf, IsSmall, SameBits, comes_before, earlier, has_lengths, key_at, key_of, keys_from, length_of, noted, own_address, rank}
use Rattle.host_net.specs.Prefix.{front}
use Rattle.host_net.proofs.PrefixLaws.{covers_front, front_covers}

-- The value that a loop reads at an index out of bounds.
abbrev pub no_group : Group
no_group = record { lengths = record { src = 0; dst = 0 }; first = 0 }

abbrev pub no_key : Key
no_key = record { lengths = record { src = 0; dst = 0 }; src = 0; dst = 0; place = 0 }

-- ---- the order of keys

-- Among keys with the same bits the index decides.
pub rank_later : (p k : Key) → SameBits k p → p.place ≤ k.place → rank p ≤ rank k
unfolding rank
rank_later p k same later = omega (arith, same.src_length, same.dst_length, same.src, same.dst, later)

pub later_rank : (p k : Key) → SameBits k p → rank p ≤ rank k → p.place ≤ k.place
unfolding rank
later_rank p k same above = omega (arith, same.src_length, same.dst_length, same.src, same.dst, above)

-- A number between two that share all digits but the last also shares them.
digits : (a x r s t : ℕ) → s < 2 ^ 32 → t < 2 ^ 32 → a * 2 ^ 32 + r ≤ x * 2 ^ 32 + s → x * 2 ^ 32 + s ≤ a * 2 ^ 32 + t → x ≡ a
digits a x r s t small_s small_t above below = omega arith

same_digits : (a x s t : ℕ) → s < 2 ^ 32 → t < 2 ^ 32 → x * 2 ^ 32 + s ≡ a * 2 ^ 32 + t → x ≡ a
same_digits a x s t small_s small_t same = omega arith

same_lengths : (a x s t : ℕ) → s < 2 ^ 8 → t < 2 ^ 8 → x * 2 ^ 8 + s ≡ a * 2 ^ 8 + t → x ≡ a
same_lengths a x s t small_s small_t same = omega arith

-- The remaining part of a key, digit by digit.
lengths_part : Key → ℕ
lengths_part k = k.lengths.src * 2 ^ 8 + k.lengths.dst

src_part : Key → ℕ
src_part k = lengths_part k * 2 ^ 32 + k.src

bits_part : Key → ℕ
bits_part k = src_part k * 2 ^ 32 + k.dst

rank_parts : (k : Key) → rank k ≡ bits_part k * 2 ^ 32 + k.place
unfolding rank bits_part src_part lengths_part
rank_parts k = refl

same_parts : (k p : Key) → SameBits k p → bits_part k ≡ bits_part p
unfolding bits_part src_part lengths_part
same_parts k p same = omega (arith, same.src_length, same.dst_length, same.src, same.dst)

parts_same : (q p : Key) → IsSmall q → IsSmall p → bits_part q ≡ bits_part p → SameBits q p
unfolding bits_part src_part lengths_part
parts_same q p small_q small_p bits =
    let src_parts : src_part q ≡ src_part p = same_digits (src_part p) (src_part q) q.dst p.dst small_q.dst small_p.dst bits in
    let length_parts : lengths_part q ≡ lengths_part p = same_digits (lengths_part p) (lengths_part q) q.src p.src small_q.src small_p.src src_parts in
    let src_length : q.lengths.src ≡ p.lengths.src = same_lengths p.lengths.src q.lengths.src q.lengths.dst p.lengths.dst small_q.dst_length small_p.dst_length length_parts in
    record {
      src_length = src_length;
      dst_length = omega (arith, length_parts, src_length);
      src = omega (arith, src_parts, length_parts);
      dst = omega (arith, bits, src_parts);
    }

-- If a key shares its bits with a key that fits, its bits fit too.
small_too : (k p : Key) → SameBits k p → IsSmall k → p.place < 2 ^ 32 → IsSmall p
small_too k p same small place = record {
  dst_length = let s = small.dst_length in omega (arith, s, same.dst_length);
  src = let s = small.src in omega (arith, s, same.src);
  dst = let s = small.dst in omega (arith, s, same.dst);
  place = place;
}

-- A key between two keys with the same bits has these bits.
pub between : (p q k : Key) → SameBits k p → IsSmall k → IsSmall q → p.place < 2 ^ 32 → rank p ≤ rank q → rank q ≤ rank k → SameBits q p
between p q k same small_k small_q place above below =
    let of_p = rank_parts p in
    let of_q = rank_parts q in
    let of_k = rank_parts k in
    let shared = same_parts k p same in
    parts_same q p small_q (small_too k p same small_k place)
    (digits (bits_part p) (bits_part q) p.place q.place k.place small_q.place small_k.place
    (omega (arith, of_p, of_q, above)) (omega (arith, of_q, of_k, shared, below)))

-- ---- a search

module _ (keys : List Key) (p : Key) (at : ℕ) (order : AreInOrder keys) (point : IsPartitionPoint (λ k. rank k < rank p) (λ k. rank p ≤ rank k) keys at) where
  -- A key of no lower rank is at this index or after it.
  no_earlier : (k : Key) → (c : Contains keys k) → rank p ≤ rank k → at ≤ c.0
  no_earlier k c above = elim (cases_lt c.0 at) [
    | inl before ↦
        let lower : rank (slice_index_or keys c.0 k) < rank p = point.0 c.0 k (omega arith) before in
        let same : rank (slice_index_or keys c.0 k) ≡ rank k = ap rank c.2 in
        omega (arith, lower, same, above)
    | inr behind ↦ omega (arith, behind)
  ]

  -- Its rank is at least that of the key at this index.
  above_found : (found k : Key) → slice_get keys at ≡ Some found → (c : Contains keys k) → rank p ≤ rank k → rank found ≤ rank k
  above_found found k there c above =
      let rises : rank (get_or keys at k) ≤ rank (get_or keys c.0 k) = order.rise at c.0 k (no_earlier k c above) c.1 in
      let left : rank (get_or keys at k) ≡ rank found = ap rank (get_or_from_slice_get keys at found k there) in
      let right : rank (get_or keys c.0 k) ≡ rank k = ap rank c.2 in
      omega (arith, rises, left, right)

  found_within : (found : Key) → slice_get keys at ≡ Some found → Contains keys found
  found_within found there = (at, slice_get_within keys at found there, get_or_from_slice_get keys at found found there)

  above_probe : (found : Key) → slice_get keys at ≡ Some found → rank p ≤ rank found
  above_probe found there =
      let above : rank p ≤ rank (slice_index_or keys at found) = point.1 at found (omega arith) (slice_get_within keys at found there) in
      let same : rank (slice_index_or keys at found) ≡ rank found = ap rank (get_or_from_slice_get keys at found found there) in
      omega (arith, above, same)

  pub next_found : (found : Key) → slice_get keys at ≡ Some found → SameBits found p → IsFirstKey (λ k. SameBits k p) keys p.place (Some found.place)
  next_found found there same = record {
    key = found;
    among = found_within found there;
    has = same;
    there = refl;
    later = later_rank p found same (above_probe found there);
    least = λ k c same_k later.
        let as_found : SameBits k found = record {
          src_length = same_k.src_length ∙ sym same.src_length;
          dst_length = same_k.dst_length ∙ sym same.dst_length;
          src = same_k.src ∙ sym same.src;
          dst = same_k.dst ∙ sym same.dst;
        } in
        later_rank found k as_found (above_found found k there c (rank_later p k same_k later));
  }

  pub next_other : (found : Key) → slice_get keys at ≡ Some found → (SameBits found p → ⊥) → IsFirstKey (λ k. SameBits k p) keys p.place None
  next_other found there other k c same_k later =
      let above = rank_later p k same_k later in
      let small = (order.small k c).place in
      other (between p found k same_k (order.small k c) (order.small found (found_within found there)) (omega (arith, small, later)) (above_probe found there) (above_found found k there c above))

  pub next_none : length keys ≤ at → IsFirstKey (λ k. SameBits k p) keys p.place None
  next_none past k c same_k later =
      let behind = no_earlier k c (rank_later p k same_k later) in
      let within = c.1 in
      omega (arith, behind, within, past)

-- ---- a guessed index

any_default : (keys : List Key) (i : ℕ) (d : Key) → i < length keys → slice_index_or keys i d ≡ slice_index_or keys i no_key
any_default keys i d within = get_or_from_slice_get keys i (slice_index_or keys i no_key) d (slice_get-get_or keys i no_key within)

-- In strictly sorted keys, two adjacent keys determine the partition point.
pub point_at : (keys : List Key) (n at : ℕ) → at < length keys → n ≤ rank (slice_index_or keys at no_key)
    → (at ≡ 0) ⊎ (rank (slice_index_or keys (at - 1) no_key) < n) → IsNonDecreasingBy rank keys → IsPartitionPoint (λ k. rank k < n) (λ k. n ≤ rank k) keys at
point_at keys n at within above below rises = (
  λ i d low high. elim below [
    | inl none ↦ absurd (omega (arith, none, high))
    | inr lower ↦
        let most = rises i (at - 1) d (omega (arith, high)) (omega (arith, within)) in
        let same = ap rank (any_default keys (at - 1) d (omega (arith, within))) in
        omega (arith, most, same, lower)
  ],
  λ i d low high.
      let least = rises at i d low high in
      let same = ap rank (any_default keys at d within) in
      omega (arith, least, same, above),
)

-- ---- the first of several

module _ (P Q R : Key → Type 0) (keys : List Key) (from : ℕ) (from_first : (k : Key) → P k → R k) (from_second : (k : Key) → Q k → R k) (split : (k : Key) → R k → P k ⊎ Q k) where
  none_of_both : IsFirstKey P keys from None → IsFirstKey Q keys from None → IsFirstKey R keys from None
  none_of_both first second k c has later = elim (split k has) [ inl by_first ↦ first k c by_first later | inr by_second ↦ second k c by_second later ]

  pub earlier_is : (a b : Option ℕ) → IsFirstKey P keys from a → IsFirstKey Q keys from b → IsFirstKey R keys from (earlier a b)
  earlier_is None None first second = none_of_both first second
  earlier_is None (Some y) first second = record {
    key = second.key;
    among = second.among;
    has = from_second second.key second.has;
    there = second.there;
    later = second.later;
    least = λ k c has later. elim (split k has) [ inl by_first ↦ absurd (first k c by_first later) | inr by_second ↦ second.least k c by_second later ];
  }
  earlier_is (Some x) None first second = record {
    key = first.key;
    among = first.among;
    has = from_first first.key first.has;
    there = first.there;
    later = first.later;
    least = λ k c has later. elim (split k has) [ inl by_first ↦ first.least k c by_first later | inr by_second ↦ absurd (second k c by_second later) ];
  }
  earlier_is (Some x) (Some y) first second = elim (cases_lt x y) [
    | inl less ↦ record {
      key = first.key;
      among = first.among;
      has = from_first first.key first.has;
      there = let is = first.there in omega (arith, is, less);
      later = let is = first.later in omega (arith, is, less);
      least = λ k c has later. elim (split k has) [
        | inl by_first ↦ let l = first.least k c by_first later in omega (arith, l)
        | inr by_second ↦ let l = second.least k c by_second later in omega (arith, l)
      ];
    }
    | inr more ↦ record {
      key = second.key;
      among = second.among;
      has = from_second second.key second.has;
      there = let is = second.there in omega (arith, is, more);
      later = let is = second.later in omega (arith, is, more);
      least = λ k c has later. elim (split k has) [
        | inl by_first ↦ let l = first.least k c by_first later in omega (arith, l)
        | inr by_second ↦ let l = second.least k c by_second later in omega (arith, l)
      ];
    }
  ]

-- ---- one more group

same_both : (l m : Lengths) → l.src ≡ m.src → l.dst ≡ m.dst → l ≡ m
same_both l m src dst = λ i. record { src = src i; dst = dst i }

abbrev is_of : Lengths → Group → Bool
is_of l g = (g.lengths.src == l.src) && (g.lengths.dst == l.dst)

is_of_decides : (l : Lengths) (g : Group) → Decides (is_of l g) ((g.lengths.src ≡ l.src) × (g.lengths.dst ≡ l.dst))
is_of_decides l g = Decides-and (g.lengths.src == l.src) (g.lengths.dst == l.dst) (Decides-eqb g.lengths.src l.src) (Decides-eqb g.lengths.dst l.dst)

lengths_are : (l : Lengths) (g : Group) → has_lengths (g ∷ []) l ≡ true → g.lengths ≡ l
lengths_are l g has = elim (or_cases (is_of l g) false has) [
  | inl is ↦ let both = (is_of_decides l g).0 is in same_both g.lengths l both.0 both.1
  | inr never ↦ absurd (true≢false (sym never))
]

are_lengths : (g : Group) → has_lengths (g ∷ []) g.lengths ≡ true
are_lengths g = or_left (is_of g.lengths g) false ((is_of_decides g.lengths g).1 (refl, refl))

below : (p n : ℕ) → nat_le p n ≡ true → p ≤ n
below p n = grind (arith, nat_tests)

module _ (seen : List Group) (g : Group) (src dst from : ℕ) where
  begins_more : (k : Key) → Begins (seen ++ g ∷ []) src dst k → Begins seen src dst k ⊎ SameBits k (key_at g.lengths src dst from)
  begins_more k is = elim (or_cases (has_lengths seen k.lengths) (has_lengths (g ∷ []) k.lengths) (sym (list_any-append (is_of k.lengths) seen (g ∷ [])) ∙ is.among)) [
    | inl old ↦ inl (record { among = old; src_bits = is.src_bits; dst_bits = is.dst_bits })
    | inr new ↦
        let same = sym (lengths_are k.lengths g new) in
        let src_length : k.lengths.src ≡ g.lengths.src = ap (λ (m : Lengths). m.src) same in
        let dst_length : k.lengths.dst ≡ g.lengths.dst = ap (λ (m : Lengths). m.dst) same in
        inr (record {
          src_length = src_length;
          dst_length = dst_length;
          src = is.src_bits ∙ ap (λ n. front n src) src_length;
          dst = is.dst_bits ∙ ap (λ n. front n dst) dst_length;
        })
  ]

  begins_old : (k : Key) → Begins seen src dst k → Begins (seen ++ g ∷ []) src dst k
  begins_old k is = record {
    among = list_any-append (is_of k.lengths) seen (g ∷ []) ∙ or_left (has_lengths seen k.lengths) (has_lengths (g ∷ []) k.lengths) is.among;
    src_bits = is.src_bits;
    dst_bits = is.dst_bits;
  }

  begins_new : (k : Key) → SameBits k (key_at g.lengths src dst from) → Begins (seen ++ g ∷ []) src dst k
  begins_new k same =
      let lengths : g.lengths ≡ k.lengths = sym (same_both k.lengths g.lengths same.src_length same.dst_length) in
      record {
        among =
            list_any-append (is_of k.lengths) seen (g ∷ [])
            ∙ or_right (has_lengths seen k.lengths) (has_lengths (g ∷ []) k.lengths) (subst (λ (l : Lengths). has_lengths (g ∷ []) l ≡ true) lengths (are_lengths g));
        src_bits = same.src ∙ ap (λ n. front n src) (sym same.src_length);
        dst_bits = same.dst ∙ ap (λ n. front n dst) (sym same.dst_length);
      }

  pub first_next : (keys : List Key) (found next : Option ℕ) → IsFirstKey (Begins seen src dst) keys from found
      → IsFirstKey (λ k. SameBits k (key_at g.lengths src dst from)) keys from next → IsFirstKey (Begins (seen ++ g ∷ []) src dst) keys from (earlier found next)
  first_next keys =
      earlier_is (Begins seen src dst) (λ k. SameBits k (key_at g.lengths src dst from)) (Begins (seen ++ g ∷ []) src dst) keys from begins_old begins_new begins_more

  -- A group whose first index is after the match found so far does not change the result.
  pub first_kept : (keys : List Key) (found : Option ℕ) → comes_before found g.first ≡ true → IsFirstOf g keys → IsFirstKey (Begins seen src dst) keys from found
      → IsFirstKey (Begins (seen ++ g ∷ []) src dst) keys from found
  first_kept keys None before is first = absurd (true≢false (sym before))
  first_kept keys (Some place) before is first = record {
    key = first.key;
    among = first.among;
    has = begins_old first.key first.has;
    there = first.there;
    later = first.later;
    least = λ k c has later. elim (begins_more k has) [
      | inl old ↦ first.least k c old later
      | inr same ↦
          let low = below place g.first before in
          let lower = is k c (sym (same_both k.lengths g.lengths same.src_length same.dst_length)) in
          omega (arith, low, lower)
    ];
  }

-- ---- the results of an index

part_bits : (part : Option Prefix) (a : ℕ) → a < 2 ^ 32 → part_covers part a ≡ true → front (length_of part) (own_address part) ≡ front (length_of part) a
part_bits None a small on = omega (arith, small)
part_bits (Some p) a small on = covers_front p a on

bits_part_covers : (part : Option Prefix) (a : ℕ) → front (length_of part) (own_address part) ≡ front (length_of part) a → part_covers part a ≡ true
bits_part_covers None a same = refl
bits_part_covers (Some p) a same = front_covers p a same

module _ (all : List Ends) (keys : List Key) (groups : List Group) (is : AreIndexOf all keys groups) (src dst : ℕ) (small_src : src < 2 ^ 32) (small_dst : dst < 2 ^ 32) where
  -- An entry that covers both addresses has a key with their bits.
  begins_there : (i : ℕ) (e : Ends) → slice_get all i ≡ Some e → covers_both src dst e ≡ true → Begins groups src dst (key_of e i)
  begins_there i e there on =
      let both = and_parts (part_covers e.src src) (part_covers e.dst dst) on in
      record {
        among = is.listed (key_of e i) (is.every i e there);
        src_bits = part_bits e.src src small_src both.0;
        dst_bits = part_bits e.dst dst small_dst both.1;
      }

  -- An entry whose key has their bits covers both addresses.
  covers_there : (k : Key) (e : Ends) → k ≡ key_of e k.place → Begins groups src dst k → covers_both src dst e ≡ true
  covers_there k e same begun =
      let src_length : k.lengths.src ≡ length_of e.src = ap (λ (l : Key). l.lengths.src) same in
      let dst_length : k.lengths.dst ≡ length_of e.dst = ap (λ (l : Key). l.lengths.dst) same in
      and_from (part_covers e.src src) (part_covers e.dst dst)
      (bits_part_covers e.src src (sym (ap (λ (l : Key). l.src) same) ∙ begun.src_bits ∙ ap (λ n. front n src) src_length))
      (bits_part_covers e.dst dst (sym (ap (λ (l : Key). l.dst) same) ∙ begun.dst_bits ∙ ap (λ n. front n dst) dst_length))

  pub index_first : (from : ℕ) (found : Option ℕ) → IsFirstKey (Begins groups src dst) keys from found → IsFirstFrom all from src dst found
  index_first from None first = λ i e low high there.
      false_from_ne_true (covers_both src dst e) (λ on. first (key_of e i) (is.every i e there) (begins_there i e there on) low)
  index_first from (Some place) first =
      let own = is.only first.key first.among in
      record {
        ends = own.0;
        there = subst (λ (n : ℕ). slice_get all n ≡ Some own.0) first.there own.1;
        covers = covers_there first.key own.0 own.2 first.has;
        later = first.later;
        first = λ i e low high there.
            false_from_ne_true (covers_both src dst e) (λ on.
            let least = first.least (key_of e i) (is.every i e there) (begins_there i e there on) low in
            omega (arith, least, high));
      }

-- Every index is below the limit.
pub none_so_late : (all : List Ends) (keys : List Key) (groups : List Group) (from src dst : ℕ) → AreIndexOf all keys groups → 2 ^ 32 ≤ from → IsFirstFrom all from src dst None
none_so_late all keys groups from src dst is late i e low high there =
    let small = (is.order.small (key_of e i) (is.every i e there)).place in
    absurd (omega (arith, small, low, late))

-- ---- building an index

key_there : (n : ℕ) (all : List Ends) (i : ℕ) (e : Ends) → slice_get all i ≡ Some e → slice_get (keys_from n all) i ≡ Some (key_of e (n + i))
key_there n [] i e there = cc
key_there n (f ∷ all) zero e there =
    ap (λ (g : Ends). Some (key_of g n)) (same_Some f e there) ∙ ap (λ (m : ℕ). Some (key_of e m)) (omega arith)
key_there n (f ∷ all) (suc i) e there = key_there (n + 1) all i e there ∙ ap (λ (m : ℕ). Some (key_of e m)) (omega arith)

there_key : (n : ℕ) (all : List Ends) (i : ℕ) (k : Key) → slice_get (keys_from n all) i ≡ Some k → (e : Ends) × (slice_get all i ≡ Some e) × (k ≡ key_of e (n + i))
there_key n [] i k there = cc
there_key n (f ∷ all) zero k there = (f, refl, sym (same_Some (key_of f n) k there) ∙ ap (λ (m : ℕ). key_of f m) (omega arith))
there_key n (f ∷ all) (suc i) k there =
    let rest = there_key (n + 1) all i k there in
    (rest.0, rest.1, rest.2 ∙ ap (λ (m : ℕ). key_of rest.0 m) (omega arith))

length_keys : (n : ℕ) (all : List Ends) → length (keys_from n all) ≡ length all
length_keys n [] = refl
length_keys n (e ∷ all) = ap suc (length_keys (n + 1) all)

pub keys_more : (all : List Ends) (keys now : List Key) (i : ℕ) (e : Ends) (key : Key) → i < length all → e ≡ get_or all i e → keys ++ keys_from i (drop i all) ≡ keys_from 0 all → now ≡ keys ++ key ∷ [] → key ≡ key_of e i
    → now ++ keys_from (i + 1) (drop (i + 1) all) ≡ keys_from 0 all
keys_more all keys now i e key low is so_far more of_e =
    let rest = keys_from (i + 1) (drop (i + 1) all) in
    let here : keys_from i (drop i all) ≡ key ∷ rest = ap (keys_from i) (drop_more all i e low) ∙ ap (λ (f : Ends). key_of f i ∷ rest) (sym is) ∙ ap (λ (k : Key). k ∷ rest) (sym of_e) in
    ap (λ (ks : List Key). ks ++ rest) more ∙ append_assoc keys (key ∷ []) rest ∙ ap (λ (ks : List Key). keys ++ ks) (sym here) ∙ so_far

pub small_more : (keys now : List Key) (key : Key) → ((k : Key) → Contains keys k → IsSmall k) → IsSmall key → now ≡ keys ++ key ∷ [] → (k : Key) → Contains now k → IsSmall k
small_more keys now key so_far small more k c = elim (Contains-push_cases keys key k (subst (λ (ks : List Key). Contains ks k) more c)) [
  | inl old ↦ so_far k old
  | inr new ↦ subst IsSmall new small
]

-- The key of an entry has its index in the list that is not yet sorted.
place_in : (all : List Ends) (keys : List Key) (j : ℕ) (k : Key) → keys ≡ keys_from 0 all → j < length keys → get_or keys j k ≡ k → k.place ≡ j
place_in all keys j k are within is =
    let there : slice_get (keys_from 0 all) j ≡ Some k = ap (λ (ks : List Key). slice_get ks j) (sym are) ∙ slice_get-get_or keys j k within ∙ ap (λ (l : Key). Some l) is in
    let place = ap (λ (l : Key). l.place) (there_key 0 all j k there).2 in
    omega (arith, place)

-- ---- the groups of keys

module _ (groups : List Group) (key : Key) where
  pub noted_kept : (l : Lengths) → has_lengths groups l ≡ true → has_lengths (noted groups key) l ≡ true
  noted_kept l old = by_bool (has_lengths groups key.lengths)
    where
      by_bool : (b : Bool) → has_lengths (if b then groups else groups ++ record { lengths = key.lengths; first = key.place } ∷ []) l ≡ true
      by_bool true = old
      by_bool false = list_any-append (is_of l) groups _ ∙ or_left (has_lengths groups l) _ old

  pub noted_there : has_lengths (noted groups key) key.lengths ≡ true
  noted_there = by_bool (has_lengths groups key.lengths) refl
    where
      by_bool : (b : Bool) → has_lengths groups key.lengths ≡ b → has_lengths (if b then groups else groups ++ record { lengths = key.lengths; first = key.place } ∷ []) key.lengths ≡ true
      by_bool true there = there
      by_bool false none = list_any-append (is_of key.lengths) groups _ ∙ or_right (has_lengths groups key.lengths) _ (are_lengths (record { lengths = key.lengths; first = key.place }))

  noted_cases : (g : Group) → Contains (noted groups key) g → Contains groups g ⊎ ((record { lengths = key.lengths; first = key.place } ≡ g) × (has_lengths groups key.lengths ≡ false))
  noted_cases g = by_bool (has_lengths groups key.lengths) refl
    where
      by_bool : (b : Bool) → has_lengths groups key.lengths ≡ b → Contains (if b then groups else groups ++ record { lengths = key.lengths; first = key.place } ∷ []) g
          → Contains groups g ⊎ ((record { lengths = key.lengths; first = key.place } ≡ g) × (has_lengths groups key.lengths ≡ false))
      by_bool true there c = inl c
      by_bool false none c = elim (Contains-push_cases groups (record { lengths = key.lengths; first = key.place }) g c) [ inl old ↦ inl old | inr new ↦ inr (new, none) ]

  -- The lengths of each key have a group already, or its index is no earlier than that of the noted key.
  pub first_noted : (keys : List Key) → AreFirst groups keys → key.place ≤ length keys → ((k : Key) → Contains keys k → (has_lengths groups k.lengths ≡ true) ⊎ (key.place ≤ k.place))
      → AreFirst (noted groups key) keys
  first_noted keys are low either = record {
    first = λ g c k d same. elim (noted_cases g c) [
      | inl old ↦ are.first g old k d same
      | inr new ↦ elim (either k d) [
        | inl has ↦ absurd (true≢false (sym has ∙ ap (has_lengths groups) (sym same ∙ sym (ap (λ (h : Group). h.lengths) new.0)) ∙ new.1))
        | inr later ↦ let is = ap (λ (h : Group). h.first) new.0 in omega (arith, is, later)
      ]
    ];
    begun = λ g c. elim (noted_cases g c) [
      | inl old ↦ are.begun g old
      | inr new ↦ let is = ap (λ (h : Group). h.first) new.0 in omega (arith, is, low)
    ];
  }

module _ (keys : List Key) (i : ℕ) (d : Key) (groups : List Group) (within : i < length keys) (so_far : (j : ℕ) (e : Key) → j < i → has_lengths groups (get_or keys j e).lengths ≡ true) where
  here : (e : Key) → get_or keys i e ≡ get_or keys i d
  here e = get_or_from_slice_get keys i (get_or keys i d) e (slice_get-get_or keys i d within)

  pub listed_next : (j : ℕ) (e : Key) → j < i + 1 → has_lengths (noted groups (get_or keys i d)) (get_or keys j e).lengths ≡ true
  listed_next j e low = elim (cases_lt j i) [
    | inl before ↦ noted_kept groups (get_or keys i d) (get_or keys j e).lengths (so_far j e before)
    | inr last ↦
        let at : j ≡ i = omega (arith, low, last) in
        let same : get_or keys j e ≡ get_or keys i d = ap (λ (n : ℕ). get_or keys n e) at ∙ here e in
        ap (λ (l : Key). has_lengths (noted groups (get_or keys i d)) l.lengths) same ∙ noted_there groups (get_or keys i d)
  ]

  pub first_after : (all : List Ends) → keys ≡ keys_from 0 all → AreFirst groups keys → AreFirst (noted groups (get_or keys i d)) keys
  first_after all are first =
      let own = place_in all keys i (get_or keys i d) are within (here (get_or keys i d)) in
      first_noted groups (get_or keys i d) keys first (omega (arith, own, within)) (λ k c. elim (cases_lt c.0 i) [
        | inl before ↦ inl (ap (λ (l : Key). has_lengths groups l.lengths) (sym c.2) ∙ so_far c.0 k before)
        | inr behind ↦ inr (let place = place_in all keys c.0 k are c.1 c.2 in omega (arith, place, own, behind))
      ])

pub listed_all : (keys : List Key) (i : ℕ) (groups : List Group) → length keys ≤ i → ((j : ℕ) (e : Key) → j < i → has_lengths groups (get_or keys j e).lengths ≡ true) → AreListed groups keys
listed_all keys i groups all listed k c =
    let within = c.1 in
    ap (λ (l : Key). has_lengths groups l.lengths) (sym c.2) ∙ listed c.0 k (omega (arith, within, all))

pub first_none : (keys : List Key) → AreFirst [] keys
first_none keys = record {
  first = λ g c k d same. let within = c.1 in absurd (omega (arith, within));
  begun = λ g c. let within = c.1 in absurd (omega (arith, within));
}

pub index_made : (all : List Ends) (keys sorted : List Key) (groups : List Group) → keys ≡ keys_from 0 all → ((k : Key) → Contains keys k → IsSmall k) → IsPermutation keys sorted
    → IsNonDecreasingBy rank sorted → AreListed groups keys → AreFirst groups keys → AreIndexOf all sorted groups
index_made all keys sorted groups are small moved rise listed firsts = record {
  order = record { rise = rise; small = λ k c. small k (back k c) };
  counted = length_permutation keys sorted moved ∙ ap length are ∙ length_keys 0 all;
  every = λ i e there.
      let at : slice_get keys i ≡ Some (key_of e i) = ap (λ (ks : List Key). slice_get ks i) are ∙ key_there 0 all i e there ∙ ap (λ (m : ℕ). Some (key_of e m)) (omega arith) in
      Contains-permutation keys sorted (key_of e i) moved (i, slice_get_within keys i (key_of e i) at, get_or_from_slice_get keys i (key_of e i) (key_of e i) at);
  only = λ k c.
      let before = back k c in
      let at : slice_get (keys_from 0 all) before.0 ≡ Some k = ap (λ (ks : List Key). slice_get ks before.0) (sym are) ∙ slice_get-get_or keys before.0 k before.1 ∙ ap (λ (l : Key). Some l) before.2 in
      let own = there_key 0 all before.0 k at in
      let place : before.0 ≡ k.place = let p = ap (λ (l : Key). l.place) own.2 in omega (arith, p) in
      (own.0, subst (λ (n : ℕ). slice_get all n ≡ Some own.0) place own.1, own.2 ∙ ap (λ (m : ℕ). key_of own.0 m) (omega (arith, place)));
  listed = λ k c. listed k (back k c);
  firsts = record {
    first = λ g c k d same. firsts.first g c k (back k d) same;
    begun = λ g c. let low = firsts.begun g c in let same = length_permutation keys sorted moved in omega (arith, low, same);
  };
}
  where
    back : (k : Key) → Contains sorted k → Contains keys k
    back k c = Contains-permutation sorted keys k (IsPermutation-sym keys sorted moved) c

pub no_index : AreIndexOf [] [] []
no_index = index_made [] [] [] [] refl (λ k c. let within = c.1 in absurd (omega (arith, within))) (IsPermutation-refl []) (λ i j d le within. absurd (omega (arith, within)))
    (λ k c. let within = c.1 in absurd (omega (arith, within))) (first_none [])

-- ---- one more

one_of_two : (x : Key) (xs : List Key) (k : Key) → Contains (x ∷ xs) k → (x ≡ k) ⊎ Contains xs k
one_of_two x xs k (zero, within, is) = inl is
one_of_two x xs k (suc i, within, is) = inr (i, omega (arith, within), is)

module _ (all : List Ends) (keys : List Key) (groups : List Group) (e : Ends) (new : Key) (at : ℕ) (is : AreIndexOf all keys groups) (of_e : new ≡ key_of e (length keys)) (small : IsSmall new)
    (bound : at ≤ length keys) (point : IsPartitionPoint (λ k. rank k < rank new) (λ k. rank new ≤ rank k) keys at) (there : has_lengths groups new.lengths ≡ true) where
  put : List Key
  put = insert keys at new

  moved : IsPermutation (new ∷ keys) (insert keys at new)
  moved = IsPermutation-insert keys at new

  cases : (k : Key) → Contains (insert keys at new) k → (new ≡ k) ⊎ Contains keys k
  cases k c = one_of_two new keys k (Contains-permutation (insert keys at new) (new ∷ keys) k (IsPermutation-sym (new ∷ keys) (insert keys at new) moved) c)

  into : (k : Key) → Contains keys k → Contains (insert keys at new) k
  into k (i, within, same) = Contains-permutation (new ∷ keys) (insert keys at new) k moved (suc i, omega (arith, within), same)

  place_new : new.place ≡ length all
  place_new = ap (λ (k : Key). k.place) of_e ∙ is.counted

  as_new : new ≡ key_of e new.place
  as_new = of_e ∙ ap (λ (m : ℕ). key_of e m) (sym (ap (λ (k : Key). k.place) of_e))

  pub index_more : AreIndexOf (all ++ e ∷ []) (insert keys at new) groups
  index_more = record {
    order = record {
      rise = IsNonDecreasingBy-insert rank keys at new is.order.rise bound
          (λ k d before. let low = point.0 k d (omega arith) before in omega (arith, low)) (λ k d behind within. point.1 k d behind within);
      small = λ k c. elim (cases k c) [ inl same ↦ subst IsSmall same small | inr old ↦ is.order.small k old ];
    };
    counted = length_permutation (new ∷ keys) (insert keys at new) moved ∙ ap suc is.counted ∙ sym (simp length-append (omega arith));
    every = λ i f at_f. elim (get_pushed all e i f at_f) [
      | inl old ↦ into (key_of f i) (is.every i f old)
      | inr last ↦
          let as_key : new ≡ key_of f i = as_new ∙ ap (λ (m : ℕ). key_of e m) (place_new ∙ sym last.0) ∙ ap (λ (g : Ends). key_of g i) last.1 in
          subst (Contains (insert keys at new)) as_key (Contains-permutation (new ∷ keys) (insert keys at new) new moved (0, omega arith, refl))
    ];
    only = λ k c. elim (cases k c) [
      | inl same ↦
          let place : length all ≡ k.place = sym place_new ∙ ap (λ (l : Key). l.place) same in
          (e, subst (λ (n : ℕ). slice_get (all ++ e ∷ []) n ≡ Some e) place (get_last all e), subst (λ (l : Key). l ≡ key_of e l.place) same as_new)
      | inr old ↦ let own = is.only k old in (own.0, get_front all (e ∷ []) k.place own.0 own.1, own.2)
    ];
    listed = λ k c. elim (cases k c) [ inl same ↦ subst (λ (l : Key). has_lengths groups l.lengths ≡ true) same there | inr old ↦ is.listed k old ];
    firsts = record {
      first = λ g c k d same. elim (cases k d) [
        | inl last ↦
            let low = is.firsts.begun g c in
            let place = ap (λ (l : Key). l.place) last in
            omega (arith, low, place, place_new, is.counted)
        | inr old ↦ is.firsts.first g c k old same
      ];
      begun = λ g c. let low = is.firsts.begun g c in let long = length_permutation (new ∷ keys) (insert keys at new) moved in omega (arith, low, long);
    };
  }

-- A group of the next key is harmless before the key is inserted.
pub index_noted : (all : List Ends) (keys : List Key) (groups : List Group) (key : Key) → key.place ≡ length keys → AreIndexOf all keys groups → AreIndexOf all keys (noted groups key)
index_noted all keys groups key last is = record {
  order = is.order;
  counted = is.counted;
  every = is.every;
  only = is.only;
  listed = λ k c. noted_kept groups key k.lengths (is.listed k c);
  firsts = first_noted groups key keys is.firsts (omega (arith, last)) (λ k c. inl (is.listed k c));
}

pub always : {A E : Type 0} (r : Result A E) (P : Type 0) → P → OnErr r P
always (Ok x) P holds = tt
always (Err e) P holds = holds
