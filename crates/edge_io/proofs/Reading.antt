-- A read of the open file returns a prefix of the unread bytes.
use Rattle.std.proofs.Common.{◌≡◌, ℕ, ◌+◌, Option, None, Some, List, [], ◌++◌, sym, ap, ◌∙◌, take, drop, take-append-drop, arith}
use Rattle.std.proofs.Math.ListN.{drop_of_length-le}
use Rattle.std.proofs.Math.Seq.{drop-drop}
use Rattle.std.specs.List.{slice_get}
use Rattle.edge_io.specs.inner.Begun.{bytes_from, bytes_left}
use Rattle.edge_io.specs.declared.stored_files.StoredFile.{StoredFile}
use Rattle.edge_io.specs.declared.begun.Begun.{Begun}

bytes_from-behind : (file : Option StoredFile) (done n : ℕ) → bytes_from file (done + n) ≡ drop n (bytes_from file done)
bytes_from-behind None done n = sym (drop_of_length-le [] (omega arith))
bytes_from-behind (Some file) done n = sym (drop-drop n done file.bytes.items)

pub front_moved : (stored shown : List StoredFile) (begun : Option Begun) (at : Begun) (whole left moved : List ℕ) (n : ℕ)
    → whole ≡ bytes_left stored begun → begun ≡ Some at → left ≡ bytes_left shown (Some at) → shown ≡ stored → moved ≡ take n left
    → whole ≡ moved ++ bytes_from (slice_get stored at.place) (at.done + n)
front_moved stored shown begun at whole left moved n is here there same front =
    let left_is : left ≡ whole = there ∙ ap (λ files. bytes_left files (Some at)) same ∙ ap (bytes_left stored) (sym here) ∙ sym is in
    let from : bytes_from (slice_get stored at.place) at.done ≡ whole = ap (bytes_left stored) (sym here) ∙ sym is in
    sym (take-append-drop n whole)
    ∙ ap (λ bytes. take n bytes ++ drop n whole) (sym left_is) ∙ ap (λ bytes. bytes ++ drop n whole) (sym front)
    ∙ ap (λ bytes. moved ++ drop n bytes) (sym from) ∙ ap (λ bytes. moved ++ bytes) (sym (bytes_from-behind (slice_get stored at.place) at.done n))
