-- Writing a piece to a sink in several writes, and a text in several pieces.
use Rattle.std.proofs.Common.{◌≡◌, ℕ, ◌+◌, ◌<◌, Option, List, ◌∷◌, ◌++◌, Bor, sym, ap, ◌∙◌, arith, get_or, length, take, drop, add-one, take-append-drop, drop-cons}
use Rattle.std.proofs.Math.Seq.{take-add, take_all}
use Rattle.std.proofs.lemmas.Grind.{flat_map-append}
use Rattle.std.specs.Io.KnownBytes.{append_known}
use Rattle.edge_io.specs.inner.Calls.{joined}
use Rattle.edge_io.proofs.PutLaws.{append_known-append}
use Rattle.edge_io.specs.Observable.{AppendsPrefixOf}

-- The bytes up to i, and then n of the rest.
pub took_more : (old now new : Option (List ℕ)) (i n : ℕ) (bytes rest : List ℕ) → rest ≡ drop i bytes → now ≡ append_known old (take i bytes)
    → new ≡ append_known now (take n rest) → new ≡ append_known old (take (i + n) bytes)
took_more old now new i n bytes rest behind before step =
    step ∙ ap (λ known. append_known known (take n rest)) before
    ∙ append_known-append old (take i bytes) (take n rest)
    ∙ ap (λ more. append_known old (take i bytes ++ take n more)) behind
    ∙ ap (append_known old) (sym (take-add i n bytes))

-- The bytes before a piece and after it.
pub joined_at : (pieces : List (Bor (List ℕ))) (i : ℕ) (d : Bor (List ℕ)) → i < length pieces
    → joined pieces ≡ joined (take i pieces) ++ ((get_or pieces i d).now ++ joined (drop (i + 1) pieces))
joined_at pieces i d inside =
    let next : drop i pieces ≡ get_or pieces i d ∷ drop (i + 1) pieces = rw add-one (drop-cons pieces i d inside) in
    ap joined (sym (take-append-drop i pieces))
    ∙ flat_map-append (λ (piece : Bor (List ℕ)). piece.now) (take i pieces) (drop i pieces)
    ∙ ap (λ rest. joined (take i pieces) ++ joined rest) next

-- All of the bytes are a prefix.
pub AppendsPrefixOf-all : (old new : Option (List ℕ)) (bytes : List ℕ) → new ≡ append_known old bytes → AppendsPrefixOf old new bytes
AppendsPrefixOf-all old new bytes took = record {
  count = length bytes;
  within = omega arith;
  taken = took ∙ ap (append_known old) (sym (take_all (length bytes) bytes (omega arith)));
}
