-- The bytes of a name are ASCII, so they are a string.
use Rattle.std.proofs.Common.{◌≡◌, ℕ, ◌-◌, ◌≤◌, ◌<◌, true, nat_lt, nat_le, ◌&&◌, List, [], ◌∷◌, IsAscii, Result, Ok, Err, MatchResult, IsOk, length, replicate, take, refl, sym, subst, ◌∙◌, ap, arith}
use Rattle.std.proofs.Math.Seq.{take-append_seam}
use Rattle.std.proofs.lemmas.Bool.{and_parts}
use Rattle.std.proofs.lemmas.Bool.Decides.{nat_tests}
use Rattle.std.proofs.lemmas.Str.Ascii.{IsAscii-cons, IsAscii-nil}
use Rattle.std.specs.List.{list_all}
use Rattle.text_core.specs.Name.{is_name, is_name_byte}
use Rattle.text_core.specs.inner.Padded.{IsPadded, padded, padded_text}

byte_ascii : (b : ℕ) → is_name_byte b ≡ true → b < 128
byte_ascii b is = grind (arith, nat_tests)

bytes_ascii : (text : List ℕ) → list_all is_name_byte text ≡ true → IsAscii text
bytes_ascii [] all = IsAscii-nil
bytes_ascii (b ∷ bs) all =
    let (here, later) = and_parts (is_name_byte b) (list_all is_name_byte bs) all in
    IsAscii-cons b bs (byte_ascii b here) (bytes_ascii bs later)

name_ascii : (text : List ℕ) → is_name text ≡ true → IsAscii text
name_ascii text named = bytes_ascii text (and_parts (nat_lt 0 (length text) && nat_le (length text) 32) (list_all is_name_byte text) named).1

pub padded_name : (text bytes : List ℕ) → bytes ≡ padded 32 text → is_name text ≡ true → IsPadded 32 (length text) bytes × IsAscii (take (length text) bytes)
padded_name text bytes made named =
    let short : length text ≤ 32 = grind (arith, nat_tests) in
    let own : take (length text) bytes ≡ text = ap (take (length text)) made ∙ take-append_seam text (replicate (32 - length text) 0) in
    (rw made (padded_text 32 text short), subst IsAscii (sym own) (name_ascii text named))

pub never_fails : {T E : Type 0} (r : Result T E) (P : T → Type 0) (Q : E → Type 0) → ((e : E) → Q e → ⊥) → MatchResult r P Q → IsOk r
never_fails (Ok x) P Q none is = refl
never_fails (Err e) P Q none is = absurd (none e is)
