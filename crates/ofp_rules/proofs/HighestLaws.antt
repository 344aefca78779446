-- Lemmas on the entry found: the effect of one more entry, and the existence of a verdict for every frame.
use Rattle.std.proofs.Common.{◌≡◌, ◌⊎◌, inl, inr, ℕ, zero, suc, slice_get, ◌≤◌, ◌<◌, Bool, true, false, ◌&&◌, cond, IsTrue, List, [], ◌∷◌, ◌++◌, Option, Some, None, refl, ap, ◌∙◌, arith}
use Rattle.std.proofs.lemmas.Bool.Decides.{nat_tests}
use Rattle.host_net.specs.declared.packet.Verdict.{Verdict}
use Rattle.ofp_rules.specs.declared.entry.Frame.{Frame}
use Rattle.ofp_rules.specs.declared.entry.Entry.{Entry}
use Rattle.ofp_rules.specs.Matching.{matches}
use Rattle.ofp_rules.specs.Semantics.{IsOneOf, IsHighest, HasVerdict}
use Rattle.ofp_rules.specs.inner.Highest.{IsFound, is_above, higher, verdict_by}

-- ys has the entries of xs, and x.
pub record IsWith (x : Entry) (xs ys : List Entry) : Type 0 where
  pub new : IsOneOf x ys
  pub old : (f : Entry) → IsOneOf f xs → IsOneOf f ys
  pub only : (f : Entry) → IsOneOf f ys → (f ≡ x) ⊎ IsOneOf f xs

pub one_of_front : {A : Type 0} (x : A) (xs ys : List A) → IsOneOf x xs → IsOneOf x (xs ++ ys)
one_of_front x [] ys h = absurd h
one_of_front x (z ∷ xs) ys (inl is) = inl is
one_of_front x (z ∷ xs) ys (inr later) = inr (one_of_front x xs ys later)

pub one_of_back : {A : Type 0} (x : A) (xs ys : List A) → IsOneOf x ys → IsOneOf x (xs ++ ys)
one_of_back x [] ys h = h
one_of_back x (z ∷ xs) ys h = inr (one_of_back x xs ys h)

pub one_of_parts : {A : Type 0} (x : A) (xs ys : List A) → IsOneOf x (xs ++ ys) → IsOneOf x xs ⊎ IsOneOf x ys
one_of_parts x [] ys h = inr h
one_of_parts x (z ∷ xs) ys (inl is) = inl (inl is)
one_of_parts x (z ∷ xs) ys (inr later) = elim (one_of_parts x xs ys later) [ inl front ↦ inl (inr front) | inr back ↦ inr back ]

pub with_last : (x : Entry) (xs : List Entry) → IsWith x xs (xs ++ x ∷ [])
with_last x xs = record {
  new = one_of_back x xs (x ∷ []) (inl refl);
  old = λ f h. one_of_front f xs (x ∷ []) h;
  only = λ f h. elim (one_of_parts f xs (x ∷ []) h) [ inl front ↦ inr front | inr back ↦ elim back [ inl is ↦ inl is | inr none ↦ absurd none ] ];
}

pub with_first : (x : Entry) (xs : List Entry) → IsWith x xs (x ∷ xs)
with_first x xs = record { new = inl refl; old = λ f h. inr h; only = λ f h. h }

-- If the entry does not match, the entry found is unchanged.
pub skipped : (frame : Frame) (x : Entry) (xs ys : List Entry) (found : Option Entry) → IsWith x xs ys → matches frame x ≡ false → IsFound xs frame found → IsFound ys frame found
skipped frame x xs ys None more off is = λ f h on. elim (more.only f h) [
  | inl same ↦ let off_f : matches frame f ≡ false = ap (matches frame) same ∙ off in cc
  | inr old ↦ is f old on
]
skipped frame x xs ys (Some e) more off is = record {
  listed = more.old e is.listed;
  matched = is.matched;
  above = λ f h on. elim (more.only f h) [
    | inl same ↦ let off_f : matches frame f ≡ false = ap (matches frame) same ∙ off in cc
    | inr old ↦ is.above f old on
  ];
}

-- If the priority of the entry is at most that of the entry found, the entry found is unchanged.
kept : (frame : Frame) (x e : Entry) (xs ys : List Entry) → IsWith x xs ys → x.priority ≤ e.priority → IsHighest xs frame e → IsHighest ys frame e
kept frame x e xs ys more below is = record {
  listed = more.old e is.listed;
  matched = is.matched;
  above = λ f h on. elim (more.only f h) [
    | inl same ↦ let as_x : f.priority ≡ x.priority = ap (λ (g : Entry). g.priority) same in omega arith
    | inr old ↦ is.above f old on
  ];
}

-- If the entry matches, and no matching entry before it has a higher priority, it is an entry of the highest priority.
taken : (frame : Frame) (x : Entry) (xs ys : List Entry) → IsWith x xs ys → matches frame x ≡ true → ((f : Entry) → IsOneOf f xs → IsTrue (matches frame f) → f.priority ≤ x.priority) → IsHighest ys frame x
taken frame x xs ys more on above = record {
  listed = more.new;
  matched = on;
  above = λ f h by_f. elim (more.only f h) [
    | inl same ↦ let as_x : f.priority ≡ x.priority = ap (λ (g : Entry). g.priority) same in omega arith
    | inr old ↦ above f old by_f
  ];
}

matched_by : (frame : Frame) (x : Entry) (xs ys : List Entry) (found : Option Entry) (b : Bool) → is_above x.priority found ≡ b → IsWith x xs ys → matches frame x ≡ true → IsFound xs frame found → IsFound ys frame (cond b (Some x) found)
matched_by frame x xs ys None true above more on is = taken frame x xs ys more on (λ f h by_f. absurd (is f h by_f))
matched_by frame x xs ys None false above more on is = cc
matched_by frame x xs ys (Some e) true above more on is =
    let lower : e.priority < x.priority = grind (arith, nat_tests) in
    taken frame x xs ys more on (λ f h by_f. let under = is.above f h by_f in omega arith)
matched_by frame x xs ys (Some e) false above more on is =
    let below : x.priority ≤ e.priority = grind (arith, nat_tests) in
    kept frame x e xs ys more below is

more_by : (frame : Frame) (x : Entry) (xs ys : List Entry) (found : Option Entry) (b : Bool) → matches frame x ≡ b → IsWith x xs ys → IsFound xs frame found → IsFound ys frame (cond (b && is_above x.priority found) (Some x) found)
more_by frame x xs ys found true on more is = matched_by frame x xs ys found (is_above x.priority found) refl more on is
more_by frame x xs ys found false off more is = skipped frame x xs ys found more off is

-- The result after one more entry.
pub found_more : (frame : Frame) (x : Entry) (xs ys : List Entry) (found : Option Entry) → IsWith x xs ys → IsFound xs frame found → IsFound ys frame (higher frame found x)
found_more frame x xs ys found more is = more_by frame x xs ys found (matches frame x) refl more is

-- A result exists for all entries.
record Finds (entries : List Entry) (frame : Frame) : Type 0 where
  found : Option Entry
  is : IsFound entries frame found

finds : (entries : List Entry) (frame : Frame) → Finds entries frame
finds [] frame = record { found = None; is = λ f none on. none }
finds (x ∷ xs) frame =
    let rest = finds xs frame in
    record { found = higher frame rest.found x; is = found_more frame x xs (x ∷ xs) rest.found (with_first x xs) rest.is }

pub verdict_found : (entries : List Entry) (frame : Frame) (found : Option Entry) → IsFound entries frame found → HasVerdict entries frame (verdict_by found)
verdict_found entries frame None is = inr (is, refl)
verdict_found entries frame (Some e) is = inl (e, is, refl)

-- Every frame has a verdict, for any entries.
pub record HasSome (entries : List Entry) (frame : Frame) : Type 0 where
  pub verdict : Verdict
  pub has : HasVerdict entries frame verdict

pub has_verdict : (entries : List Entry) (frame : Frame) → HasSome entries frame
has_verdict entries frame =
    let all = finds entries frame in
    record { verdict = verdict_by all.found; has = verdict_found entries frame all.found all.is }

-- The element at an index is an element of the list.
pub one_of_at : {A : Type 0} (xs : List A) (i : ℕ) (x : A) → slice_get xs i ≡ Some x → IsOneOf x xs
one_of_at [] i x there = cc
one_of_at (y ∷ ys) zero x there = inl (cc)
one_of_at (y ∷ ys) (suc i) x there = inr (one_of_at ys i x there)
