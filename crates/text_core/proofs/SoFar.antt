-- A file of which some lines were parsed, and the effect of one more line.
use Rattle.std.proofs.Common.{◌≡◌, ◌≤◌, ◌<◌, ℕ, ◌+◌, List, [], ◌∷◌, ◌++◌, length, length-append, append_assoc, append-nil, refl, sym, ap, subst, ◌∙◌, arith}
use Rattle.std.proofs.lemmas.List.{length_push}
use Rattle.text_core.specs.Lines.{lines}
use Rattle.text_core.proofs.LinesLaws.{length-lines}
use Rattle.text_core.specs.LineFormat.{LineFormat, AreLines, IsReadToEnd, HasFault, too_long, at_line}
use Rattle.text_core.specs.inner.TextAnswers.{HasCause, Passes, Stops}
use Rattle.text_core.proofs.LineFormatLaws.{lines_more}
use Rattle.text_core.specs.declared.faults.TextFault.{TextFault}
use Rattle.text_core.specs.declared.faults.TextFault.TheVariants.{Refused, Memory}

-- `number` lines were parsed, with this state, and these lines remain.
pub record IsSoFar {S W : Type 0} (text : LineFormat S W) (whole left : List (List ℕ)) (s : S) (number : ℕ) : Type 0 where
  pub front : List (List ℕ)
  pub parts : whole ≡ front ++ left
  pub told : AreLines text front s
  pub count : number ≡ length front

pub nothing_read : {S W : Type 0} (text : LineFormat S W) (whole left : List (List ℕ)) (s : S) → left ≡ whole → s ≡ text.start
    → IsSoFar text whole left s 0
nothing_read text whole left s same start = record { front = []; parts = sym same; told = sym start; count = refl }

pub one_more : {S W : Type 0} (text : LineFormat S W) (whole left rest : List (List ℕ)) (s t : S) (number : ℕ) (l : List ℕ) → left ≡ l ∷ rest
    → IsSoFar text whole left s number → Passes text (number + 1) s l t → IsSoFar text whole rest t (number + 1)
one_more text whole left rest s t number l next so_far passes = record {
  front = so_far.front ++ l ∷ [];
  parts = so_far.parts ∙ ap (λ xs. so_far.front ++ xs) next ∙ sym (append_assoc so_far.front (l ∷ []) rest);
  told = lines_more text so_far.front s t l so_far.told (subst (λ (n : ℕ). Passes text n s l t) (omega (arith, so_far.count)) passes);
  count = omega (arith, so_far.count, length_push so_far.front l);
}

pub all_read : {S W : Type 0} (text : LineFormat S W) (bytes : List ℕ) (left : List (List ℕ)) (s : S) (number : ℕ) → length bytes ≤ text.byte_limit
    → left ≡ [] → IsSoFar text (lines bytes) left s number → IsReadToEnd text bytes s
all_read {S = S} text bytes left s number short end so_far =
    let whole : lines bytes ≡ so_far.front = so_far.parts ∙ ap (λ xs. so_far.front ++ xs) end ∙ append-nil so_far.front in
    record { short = short; told = subst (λ (ls : List (List ℕ)). AreLines text ls s) (sym whole) so_far.told }

pub all_counted : {S W : Type 0} (text : LineFormat S W) (bytes : List ℕ) (left : List (List ℕ)) (s : S) (number : ℕ) → left ≡ []
    → IsSoFar text (lines bytes) left s number → number ≡ length (lines bytes)
all_counted text bytes left s number end so_far =
    so_far.count ∙ sym (ap length (so_far.parts ∙ ap (λ xs. so_far.front ++ xs) end ∙ append-nil so_far.front))

pub one_bad : {S W : Type 0} (text : LineFormat S W) (bytes : List ℕ) (left rest : List (List ℕ)) (s : S) (number : ℕ) (l : List ℕ) (fault : TextFault W)
    → length bytes ≤ text.byte_limit → left ≡ l ∷ rest → IsSoFar text (lines bytes) left s number → Stops text (number + 1) s l fault
    → HasCause text bytes fault
one_bad text bytes left rest s number l Memory short next so_far stops = tt
one_bad text bytes left rest s number l (Refused line why) short next so_far stops =
    at_line short (record {
      front = so_far.front;
      here = l;
      behind = rest;
      before = s;
      parts = so_far.parts ∙ ap (λ xs. so_far.front ++ xs) next;
      read_before = so_far.told;
      number = omega (arith, stops.0, so_far.count);
      is_line = stops.1;
      bad = subst (λ (n : ℕ). text.IsBadLine n s l why) (sym stops.0) stops.2;
    })

-- The number of parsed lines is at most the number of bytes.
pub count_within : {S W : Type 0} (text : LineFormat S W) (bytes : List ℕ) (left rest : List (List ℕ)) (s : S) (number : ℕ) (l : List ℕ)
    → left ≡ l ∷ rest → IsSoFar text (lines bytes) left s number → number + 1 ≤ length bytes
count_within text bytes left rest s number l next so_far =
    omega (arith, length-lines bytes, so_far.count, ap length next, ap length so_far.parts, length-append so_far.front left)

pub longer : {S W : Type 0} (text : LineFormat S W) (bytes : List ℕ) (limit : ℕ × W) → limit ≡ (text.byte_limit, text.too_long_reason)
    → limit.0 < length bytes → HasFault text bytes 0 limit.1
longer {W = W} text bytes limit is long =
    let most : limit.0 ≡ text.byte_limit = ap (λ p. p.0) is in
    subst (λ (w : W). HasFault text bytes 0 w) (sym (ap (λ p. p.1) is)) (too_long (omega arith))

pub not_longer : {S W : Type 0} (text : LineFormat S W) (bytes : List ℕ) (limit : ℕ × W) → limit ≡ (text.byte_limit, text.too_long_reason)
    → length bytes ≤ limit.0 → length bytes ≤ text.byte_limit
not_longer text bytes limit is short = let most : limit.0 ≡ text.byte_limit = ap (λ p. p.0) is in omega arith
