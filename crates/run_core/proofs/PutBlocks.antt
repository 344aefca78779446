-- The lines of a text that are written to a sink in blocks.
use Rattle.std.proofs.Common.{◌≡◌, ℕ, zero, suc, ◌+◌, ◌≤◌, List, [], ◌∷◌, ◌++◌, Option, Some, inl, inr, length, take, drop, arith, refl, ap, sym, subst, ◌∙◌, append_assoc, add-one}
use Rattle.std.proofs.lemmas.List.{append-nil, length-take-le, take-append-le}
use Rattle.std.proofs.Math.Seq.{take_all, take-append-add}
use Rattle.std.specs.Prelude.{slice_get}
use Rattle.std.specs.List.{concat}
use Rattle.std.specs.Io.KnownBytes.{append_known}
use Rattle.edge_io.specs.Observable.{AppendsPrefixOf}
use Rattle.run_core.specs.inner.Blocks.{HasRoom}
use Rattle.edge_io.proofs.PutLaws.{append_known-append, AppendsPrefixOf-after}
use borrow.Rule.Slice.PartMut.{post_of, put_mid}

pub concat-take_suc : (lines : List (List ℕ)) (i : ℕ) (line : List ℕ) → slice_get lines i ≡ Some line
    → concat (take (suc i) lines) ≡ concat (take i lines) ++ line
concat-take_suc [] i line there = cc
concat-take_suc (x ∷ xs) zero line there = let same : x ≡ line = cc in append-nil x ∙ same
concat-take_suc (x ∷ xs) (suc i) line there =
    ap (λ rest. x ++ rest) (concat-take_suc xs i line there) ∙ sym (append_assoc x (concat (take i xs)) line)

pub concat-cut : (lines : List (List ℕ)) (i : ℕ) → concat lines ≡ concat (take i lines) ++ concat (drop i lines)
concat-cut lines zero = refl
concat-cut [] (suc i) = refl
concat-cut (x ∷ xs) (suc i) = ap (λ rest. x ++ rest) (concat-cut xs i) ∙ sym (append_assoc x (concat (take i xs)) (concat (drop i xs)))

-- The written lines and those in the block are the lines so far.
pub record IsSofar (old now : Option (List ℕ)) (lines : List (List ℕ)) (i : ℕ) (waiting : List ℕ) : Type 0 where
  pub front : List ℕ
  pub put : now ≡ append_known old front
  pub all : concat (take i lines) ≡ front ++ waiting

-- The block is written.
pub sofar_put : (old now new : Option (List ℕ)) (lines : List (List ℕ)) (i : ℕ) (waiting : List ℕ) → IsSofar old now lines i waiting → new ≡ append_known now waiting
    → IsSofar old new lines i []
sofar_put old now new lines i waiting sofar step = record {
  front = sofar.front ++ waiting;
  put = step ∙ ap (λ known. append_known known waiting) sofar.put ∙ append_known-append old sofar.front waiting;
  all = sofar.all ∙ sym (append-nil (sofar.front ++ waiting));
}

-- The block has room for a line.
pub sofar_room : (old now new : Option (List ℕ)) (lines : List (List ℕ)) (i : ℕ) (waiting left : List ℕ) → IsSofar old now lines i waiting → HasRoom now new waiting left
    → IsSofar old new lines i left
sofar_room old now new lines i waiting left sofar (inl same) =
    record { front = sofar.front; put = same.0 ∙ sofar.put; all = sofar.all ∙ ap (λ (bytes : List ℕ). sofar.front ++ bytes) (sym same.1) }
sofar_room old now new lines i waiting left sofar (inr put) =
    subst (λ (bytes : List ℕ). IsSofar old new lines i bytes) (sym put.1) (sofar_put old now new lines i waiting sofar put.0)

-- One more line is in the block.
pub sofar_line : (old now : Option (List ℕ)) (lines : List (List ℕ)) (i : ℕ) (waiting line : List ℕ) → IsSofar old now lines i waiting → slice_get lines i ≡ Some line
    → IsSofar old now lines (i + 1) (waiting ++ line)
sofar_line old now lines i waiting line sofar there = record {
  front = sofar.front;
  put = sofar.put;
  all = rw add-one (concat-take_suc lines i line there ∙ ap (λ (bytes : List ℕ). bytes ++ line) sofar.all ∙ append_assoc sofar.front waiting line);
}

-- A prefix of the block was written, and so a prefix of the text.
pub cut_in_block : (old now new : Option (List ℕ)) (lines : List (List ℕ)) (i : ℕ) (waiting : List ℕ) → IsSofar old now lines i waiting → AppendsPrefixOf now new waiting
    → AppendsPrefixOf old new (concat lines)
cut_in_block old now new lines i waiting sofar took =
    let all : concat lines ≡ sofar.front ++ (waiting ++ concat (drop i lines)) =
    concat-cut lines i ∙ ap (λ (bytes : List ℕ). bytes ++ concat (drop i lines)) sofar.all ∙ append_assoc sofar.front waiting (concat (drop i lines)) in
    subst (λ (bytes : List ℕ). AppendsPrefixOf old new bytes) (sym all) (AppendsPrefixOf-after old now new sofar.front waiting (concat (drop i lines)) sofar.put took)

-- Everything was written.
pub put_whole : (old now new : Option (List ℕ)) (lines : List (List ℕ)) (i : ℕ) (waiting : List ℕ) → IsSofar old now lines i waiting → length lines ≤ i → new ≡ append_known now waiting
    → new ≡ append_known old (concat lines)
put_whole old now new lines i waiting sofar end step =
    let done = sofar_put old now new lines i waiting sofar step in
    done.put ∙ ap (append_known old) (sym (append-nil done.front) ∙ sym done.all ∙ ap concat (take_all i lines end))

-- The bytes that are written to the front of the room follow the content of the block.
pub written_behind : (at room n : ℕ) (old new : List ℕ) → at ≤ length old → n ≤ length new
    → take (at + n) (put_mid at room old new) ≡ take at old ++ take n new
written_behind at room n old new within fits =
    let front = take at old in
    let long : at + n ≡ length front + n = omega (arith, length-take-le at old within) in
    let end = post_of at room old in
    ap (λ (m : ℕ). take m (put_mid at room old new)) long
    ∙ take-append-add front (new ++ end) n
    ∙ ap (λ (bytes : List ℕ). front ++ bytes) (take-append-le n new end fits)

pub sofar_as : (old now : Option (List ℕ)) (lines : List (List ℕ)) (i : ℕ) (waiting other : List ℕ) → other ≡ waiting → IsSofar old now lines i waiting → IsSofar old now lines i other
sofar_as old now lines i waiting other same sofar = subst (λ (bytes : List ℕ). IsSofar old now lines i bytes) (sym same) sofar
