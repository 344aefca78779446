-- Lemmas on line-oriented formats: a file has either a parse result or a first error, and not both, if this holds for
-- each of its lines.
use Rattle.std.proofs.Common.{◌≡◌, ℕ, ◌+◌, List, [], ◌∷◌, ◌++◌, length, refl, sym, subst, ◌∙◌, arith, ◌⊎◌, inl, inr}
use Rattle.std.specs.Prelude.{Result, Ok, Err, IfOk, IfErr, MatchResult, IsTrue, IsFalse}
use Rattle.text_core.specs.Lines.{lines, is_comment}
use Rattle.text_core.specs.Reading.{Follows}
use Rattle.text_core.specs.LineFormat.{LineFormat, AreLines, IsReading, IsFirstBad, HasFault, too_long, at_line, at_end}
use Rattle.text_core.specs.inner.TextAnswers.{HasCause, IsFault, Passes}
use Rattle.text_core.specs.declared.faults.TextFault.{TextFault}
use Rattle.text_core.specs.declared.faults.TextFault.TheVariants.{Refused, Memory}

-- 1. Requirements on a format: a line has one next state or one reason, and the end is accepted or has one reason.

pub record IsSettled {S W : Type 0} (text : LineFormat S W) : Type 0 where
  pub one_next : (n : ℕ) (s : S) (l : List ℕ) (t u : S) → text.IsLine n s l t → text.IsLine n s l u → t ≡ u
  pub one_reason : (n : ℕ) (s : S) (l : List ℕ) (w v : W) → text.IsBadLine n s l w → text.IsBadLine n s l v → w ≡ v
  pub good_or_bad : (n : ℕ) (s : S) (l : List ℕ) (t : S) (w : W) → text.IsLine n s l t → text.IsBadLine n s l w → ⊥
  pub one_end : (n : ℕ) (s : S) (l m : ℕ) (w v : W) → text.HasEndFault n s l w → text.HasEndFault n s m v → (l ≡ m) × (w ≡ v)
  pub ends_or_not : (n : ℕ) (s : S) (l : ℕ) (w : W) → text.MayEndIn s → text.HasEndFault n s l w → ⊥

pub same_ok : {S W : Type 0} (r : Result S W) (t u : S) → r ≡ Ok t → r ≡ Ok u → t ≡ u
same_ok r t u p q = cc (p, q)

-- 2. One more line.

-- The step of one line after others, as the number of a line.
next_number : {S : Type 0} (IsLine : ℕ → S → List ℕ → S → Type 0) (n m : ℕ) (s t : S) (l : List ℕ) → n ≡ m
    → (IsTrue (is_comment l) × (s ≡ t)) ⊎ (IsFalse (is_comment l) × IsLine n s l t)
    → (IsTrue (is_comment l) × (s ≡ t)) ⊎ (IsFalse (is_comment l) × IsLine m s l t)
next_number IsLine n m s t l same (inl comment) = inl comment
next_number IsLine n m s t l same (inr line) = inr (line.0, subst (λ (k : ℕ). IsLine k s l t) same line.1)

one_line : {S : Type 0} (IsLine : ℕ → S → List ℕ → S → Type 0) (n : ℕ) (s t : S) (l : List ℕ)
    → (IsTrue (is_comment l) × (s ≡ t)) ⊎ (IsFalse (is_comment l) × IsLine n s l t) → Follows IsLine n s (l ∷ []) t
one_line IsLine n s t l (inl comment) = inl comment
one_line IsLine n s t l (inr line) = inr (t, line.0, line.1, refl)

follows_more : {S : Type 0} (IsLine : ℕ → S → List ℕ → S → Type 0) (n : ℕ) (s t u : S) (ls : List (List ℕ)) (l : List ℕ) → Follows IsLine n s ls t
    → (IsTrue (is_comment l) × (t ≡ u)) ⊎ (IsFalse (is_comment l) × IsLine (n + length ls) t l u) → Follows IsLine n s (ls ++ l ∷ []) u
follows_more {S = S} IsLine n s t u [] l told passes =
    subst (λ (x : S). Follows IsLine n x (l ∷ []) u) (sym told) (one_line IsLine n t u l (next_number IsLine (n + 0) n t u l (omega arith) passes))
follows_more IsLine n s t u (k ∷ ls) l (inl comment) passes =
    inl (comment.0, follows_more IsLine (n + 1) s t u ls l comment.1 (next_number IsLine (n + length (k ∷ ls)) (n + 1 + length ls) t u l (omega arith) passes))
follows_more IsLine n s t u (k ∷ ls) l (inr more) passes =
    inr (more.0, more.1, more.2, follows_more IsLine (n + 1) more.0 t u ls l more.3 (next_number IsLine (n + length (k ∷ ls)) (n + 1 + length ls) t u l (omega arith) passes))

pub lines_more : {S W : Type 0} (text : LineFormat S W) (front : List (List ℕ)) (s t : S) (l : List ℕ) → AreLines text front s
    → Passes text (1 + length front) s l t → AreLines text (front ++ l ∷ []) t
lines_more text front s t l told passes = follows_more text.IsLine 1 text.start s t front l told passes

-- 3. Lines lead to one state, or have one first bad line.

passes_once : {S W : Type 0} (text : LineFormat S W) → IsSettled text → (n : ℕ) (s t u : S) (l : List ℕ) → Passes text n s l t → Passes text n s l u → t ≡ u
passes_once text once n s t u l (inl a) (inl b) = sym a.1 ∙ b.1
passes_once text once n s t u l (inl a) (inr b) = let is = a.0 in let other = b.0 in cc
passes_once text once n s t u l (inr a) (inl b) = let other = a.0 in let is = b.0 in cc
passes_once text once n s t u l (inr a) (inr b) = once.one_next n s l t u a.1 b.1

past_first : {S W : Type 0} (text : LineFormat S W) (n : ℕ) (s t : S) (l : List ℕ) (ls : List (List ℕ)) → Follows text.IsLine n s (l ∷ ls) t
    → (x : S) × Passes text n s l x × Follows text.IsLine (n + 1) x ls t
past_first text n s t l ls (inl comment) = (s, inl (comment.0, refl), comment.1)
past_first text n s t l ls (inr line) = (line.0, inr (line.1, line.2), line.3)

-- Two lists of lines with the same first line continue with the same state.
both_past : {S W : Type 0} (text : LineFormat S W) → IsSettled text → (n : ℕ) (s t u : S) (l : List ℕ) (ls ks : List (List ℕ))
    → Follows text.IsLine n s (l ∷ ls) t → Follows text.IsLine n s (l ∷ ks) u
    → (x : S) × Follows text.IsLine (n + 1) x ls t × Follows text.IsLine (n + 1) x ks u
both_past {S = S} text once n s t u l ls ks p q =
    let (x, here, behind) = past_first text n s t l ls p in
    let (y, again, rest) = past_first text n s u l ks q in
    (x, behind, subst (λ (z : S). Follows text.IsLine (n + 1) z ks u) (passes_once text once n s y x l again here) rest)

next_same : {S W : Type 0} (text : LineFormat S W) → IsSettled text → (n : ℕ) (s t u : S) (ls : List (List ℕ))
    → Follows text.IsLine n s ls t → Follows text.IsLine n s ls u → t ≡ u
next_same text once n s t u [] p q = sym p ∙ q
next_same text once n s t u (l ∷ ls) p q =
    let (x, a, b) = both_past text once n s t u l ls ls p q in
    next_same text once (n + 1) x t u ls a b

-- Line n is no comment, and bad.
abbrev IsBadAt : {S W : Type 0} → LineFormat S W → ℕ → S → List ℕ → W → Type 0
IsBadAt text n s l why = IsFalse (is_comment l) × text.IsBadLine n s l why

bad_first : {S W : Type 0} (text : LineFormat S W) → IsSettled text → (n m : ℕ) (s t u : S) (l : List ℕ) (ls : List (List ℕ)) (why : W)
    → Follows text.IsLine n s (l ∷ ls) t → s ≡ u → n ≡ m → IsBadAt text m u l why → ⊥
bad_first text once n m s t u l ls why (inl comment) same number bad = let is = comment.0 in let other = bad.0 in cc
bad_first {S = S} text once n m s t u l ls why (inr line) same number bad =
    once.good_or_bad n s l line.0 why line.2 (subst (λ (x : S). text.IsBadLine n x l why) (sym same) (subst (λ (k : ℕ). text.IsBadLine k u l why) (sym number) bad.1))

none_bad : {S W : Type 0} (text : LineFormat S W) → IsSettled text → (n m : ℕ) (s t u : S) (front : List (List ℕ)) (here : List ℕ) (behind : List (List ℕ)) (why : W)
    → Follows text.IsLine n s (front ++ here ∷ behind) t → Follows text.IsLine n s front u → m ≡ n + length front → IsBadAt text m u here why → ⊥
none_bad text once n m s t u [] here behind why p q number bad = bad_first text once n m s t u here behind why p q (omega (arith, number)) bad
none_bad text once n m s t u (l ∷ front) here behind why p q number bad =
    let (x, a, b) = both_past text once n s t u l (front ++ here ∷ behind) front p q in
    none_bad text once (n + 1) m x t u front here behind why a b (omega (arith, number)) bad

same_head : {A : Type 0} (x y : A) (xs ys : List A) → x ∷ xs ≡ y ∷ ys → (x ≡ y) × (xs ≡ ys)
same_head x y xs ys h = (cc, cc)

reason_same : {S W : Type 0} (text : LineFormat S W) → IsSettled text → (n m : ℕ) (s t : S) (k l : List ℕ) (w v : W) → n ≡ m → s ≡ t → k ≡ l
    → IsBadAt text n s k w → IsBadAt text m t l v → w ≡ v
reason_same {S = S} text once n m s t k l w v number state line bad worse =
    once.one_reason m t l w v
    (subst (λ (i : ℕ). text.IsBadLine i t l w) number (subst (λ (x : S). text.IsBadLine n x l w) state (subst (λ (x : List ℕ). text.IsBadLine n s x w) line bad.1)))
    worse.1

bad_once : {S W : Type 0} (text : LineFormat S W) → IsSettled text → (n i j : ℕ) (s t u : S) (f g : List (List ℕ)) (k l : List ℕ) (b c : List (List ℕ)) (w v : W)
    → f ++ k ∷ b ≡ g ++ l ∷ c → Follows text.IsLine n s f t → Follows text.IsLine n s g u → i ≡ n + length f → j ≡ n + length g
    → IsBadAt text i t k w → IsBadAt text j u l v → (i ≡ j) × (w ≡ v)
bad_once text once n i j s t u [] [] k l b c w v same p q first second bad worse =
    let number : i ≡ j = omega (arith, first, second) in
    (number, reason_same text once i j t u k l w v number (sym p ∙ q) (same_head k l b c same).0 bad worse)
bad_once {S = S} text once n i j s t u [] (y ∷ g) k l b c w v same p q first second bad worse =
    let (here, _) = same_head k y b (g ++ l ∷ c) same in
    absurd (bad_first text once n i s u t k g w (subst (λ (x : List ℕ). Follows text.IsLine n s (x ∷ g) u) (sym here) q) p (omega (arith, first)) bad)
bad_once {S = S} text once n i j s t u (x ∷ f) [] k l b c w v same p q first second bad worse =
    let (here, _) = same_head x l (f ++ k ∷ b) c same in
    absurd (bad_first text once n j s t u l f v (subst (λ (y : List ℕ). Follows text.IsLine n s (y ∷ f) t) here p) q (omega (arith, second)) worse)
bad_once {S = S} text once n i j s t u (x ∷ f) (y ∷ g) k l b c w v same p q first second bad worse =
    let (here, behind) = same_head x y (f ++ k ∷ b) (g ++ l ∷ c) same in
    let (z, a, d) = both_past text once n s t u y f g (subst (λ (h : List ℕ). Follows text.IsLine n s (h ∷ f) t) here p) q in
    bad_once text once (n + 1) i j z t u f g k l b c w v behind a d (omega (arith, first)) (omega (arith, second)) bad worse

-- 4. A file has at most one parse result, at most one first error, and not both.

pub one_reading : {S W : Type 0} (text : LineFormat S W) → IsSettled text → (bytes : List ℕ) (s t : S) → IsReading text bytes s → IsReading text bytes t → s ≡ t
one_reading text once bytes s t p q = next_same text once 1 text.start s t (lines bytes) p.told q.told

told_first : {S W : Type 0} (text : LineFormat S W) → IsSettled text → (ls : List (List ℕ)) (line : ℕ) (why : W) (s : S) → IsFirstBad text ls line why
    → AreLines text ls s → ⊥
told_first {S = S} text once ls line why s first told =
    none_bad text once 1 line text.start s first.before first.front first.here first.behind why
    (subst (λ (xs : List (List ℕ)). AreLines text xs s) first.parts told) first.read_before first.number (first.is_line, first.bad)

first_once : {S W : Type 0} (text : LineFormat S W) → IsSettled text → (ls : List (List ℕ)) (l m : ℕ) (w v : W) → IsFirstBad text ls l w → IsFirstBad text ls m v
    → (l ≡ m) × (w ≡ v)
first_once text once ls l m w v p q =
    bad_once text once 1 l m text.start p.before q.before p.front q.front p.here q.here p.behind q.behind w v
    (sym p.parts ∙ q.parts) p.read_before q.read_before p.number q.number (p.is_line, p.bad) (q.is_line, q.bad)

end_once : {S W : Type 0} (text : LineFormat S W) → IsSettled text → (n : ℕ) (s t : S) (l m : ℕ) (w v : W) → s ≡ t → text.HasEndFault n s l w
    → text.HasEndFault n t m v → (l ≡ m) × (w ≡ v)
end_once {S = S} text once n s t l m w v same p q = once.one_end n t l m w v (subst (λ (x : S). text.HasEndFault n x l w) same p) q

pub one_fault : {S W : Type 0} (text : LineFormat S W) → IsSettled text → (bytes : List ℕ) (l m : ℕ) (w v : W) → HasFault text bytes l w → HasFault text bytes m v
    → (l ≡ m) × (w ≡ v)
one_fault text once bytes l m w v (too_long long) (too_long other) = (refl, refl)
one_fault text once bytes l m w v (too_long long) (at_line short first) = absurd (omega (arith, long, short))
one_fault text once bytes l m w v (too_long long) (at_end s read bad) = absurd (omega (arith, long, read.short))
one_fault text once bytes l m w v (at_line short first) (too_long long) = absurd (omega (arith, long, short))
one_fault text once bytes l m w v (at_line short first) (at_line fits other) = first_once text once (lines bytes) l m w v first other
one_fault text once bytes l m w v (at_line short first) (at_end s read bad) = absurd (told_first text once (lines bytes) l w s first read.told)
one_fault text once bytes l m w v (at_end s read bad) (too_long long) = absurd (omega (arith, long, read.short))
one_fault text once bytes l m w v (at_end s read bad) (at_line short first) = absurd (told_first text once (lines bytes) m v s first read.told)
one_fault text once bytes l m w v (at_end s read bad) (at_end t through worse) =
    end_once text once (1 + length (lines bytes)) s t l m w v (next_same text once 1 text.start s t (lines bytes) read.told through.told) bad worse

ends_same : {S W : Type 0} (text : LineFormat S W) → IsSettled text → (n : ℕ) (s t : S) (l : ℕ) (w : W) → s ≡ t → text.MayEndIn s
    → text.HasEndFault n t l w → ⊥
ends_same {S = S} text once n s t l w same ends bad = once.ends_or_not n t l w (subst (λ (x : S). text.MayEndIn x) same ends) bad

pub no_reading_with_fault : {S W : Type 0} (text : LineFormat S W) → IsSettled text → (bytes : List ℕ) (s : S) (line : ℕ) (why : W) → HasFault text bytes line why
    → IsReading text bytes s → ⊥
no_reading_with_fault text once bytes s line why (too_long long) reading = absurd (omega (arith, long, reading.short))
no_reading_with_fault text once bytes s line why (at_line short first) reading = told_first text once (lines bytes) line why s first reading.told
no_reading_with_fault text once bytes s line why (at_end t through bad) reading =
    ends_same text once (1 + length (lines bytes)) s t line why (next_same text once 1 text.start s t (lines bytes) reading.told through.told) reading.ends bad

-- 5. The results of a parser.

-- A file with a parse result is accepted with this result.
pub told_reading : {V S W : Type 0} (text : LineFormat S W) → IsSettled text → (view : V → S) (bytes : List ℕ) (r : Result V (TextFault W)) (s : S)
    → IfOk r (λ v. IsReading text bytes (view v)) → IfErr r (HasCause text bytes) → IsReading text bytes s
    → MatchResult r (λ v. view v ≡ s) (λ fault. fault ≡ Memory)
told_reading text once view bytes (Ok v) s found cause reading = one_reading text once bytes (view v) s found reading
told_reading text once view bytes (Err (Refused line why)) s found cause reading = absurd (no_reading_with_fault text once bytes s line why cause reading)
told_reading text once view bytes (Err Memory) s found cause reading = refl

-- A file with an error is rejected with this error.
pub told_fault : {V S W : Type 0} (text : LineFormat S W) → IsSettled text → (view : V → S) (bytes : List ℕ) (r : Result V (TextFault W)) (line : ℕ) (why : W)
    → IfOk r (λ v. IsReading text bytes (view v)) → IfErr r (HasCause text bytes) → HasFault text bytes line why
    → MatchResult r (λ v. ⊥) (IsFault line why)
told_fault text once view bytes (Ok v) line why found cause fault = no_reading_with_fault text once bytes (view v) line why fault found
told_fault text once view bytes (Err (Refused told reason)) line why found cause fault = one_fault text once bytes told line reason why cause fault
told_fault text once view bytes (Err Memory) line why found cause fault = tt
