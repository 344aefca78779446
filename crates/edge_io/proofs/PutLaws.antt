-- Lemmas on the bytes that a sink accepted in several steps.
use Rattle.std.proofs.Common.{◌≡◌, ℕ, ◌+◌, Option, None, Some, List, ◌++◌, refl, sym, ap, ◌∙◌, length, take, arith, append_assoc, length-append}
use Rattle.std.proofs.Math.Seq.{take-append-add}
use Rattle.std.proofs.lemmas.List.{take-append-le}
use Rattle.std.specs.Io.KnownBytes.{append_known}
use Rattle.edge_io.specs.Observable.{AppendsPrefixOf}

-- Two extensions are one.
pub append_known-append : (known : Option (List ℕ)) (xs ys : List ℕ) → append_known (append_known known xs) ys ≡ append_known known (xs ++ ys)
append_known-append None xs ys = refl
append_known-append (Some bytes) xs ys = ap Some (append_assoc bytes xs ys)

-- A prefix of some bytes, after all bytes that precede them.
pub AppendsPrefixOf-after : (old now new : Option (List ℕ)) (front bytes rest : List ℕ) → now ≡ append_known old front
    → AppendsPrefixOf now new bytes → AppendsPrefixOf old new (front ++ (bytes ++ rest))
AppendsPrefixOf-after old now new front bytes rest before p =
    let inside : front ++ take p.count bytes ≡ take (length front + p.count) (front ++ (bytes ++ rest)) =
    ap (λ more. front ++ more) (sym (take-append-le p.count bytes rest p.within)) ∙ sym (take-append-add front (bytes ++ rest) p.count) in
    record {
      count = length front + p.count;
      within = omega (arith, p.within, length-append front (bytes ++ rest), length-append bytes rest);
      taken =
          p.taken ∙ ap (λ known. append_known known (take p.count bytes)) before
          ∙ append_known-append old front (take p.count bytes) ∙ ap (append_known old) inside;
    }
