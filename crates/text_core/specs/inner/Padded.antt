-- A short string in an array of fixed size: its bytes, followed by zeros.
use Rattle.std.proofs.Common.{◌≡◌, ℕ, ◌-◌, ◌≤◌, List, ◌++◌, take, length, replicate, ap, sym, ◌∙◌, arith, length-take, length-append}
use Rattle.std.proofs.Math.Seq.{take-append_seam}
use Rattle.std.proofs.lemmas.List.{length-replicate}

-- The bytes of the array for a string.
abbrev pub padded : ℕ → List ℕ → List ℕ
padded room text = text ++ replicate (room - length text) 0

-- The first `len` of the bytes are the string.
pub record IsPadded (room len : ℕ) (bytes : List ℕ) : Type 0 where
  pub fits : len ≤ room
  pub whole : length bytes ≡ room
  pub padded : bytes ≡ take len bytes ++ replicate (room - len) 0

-- The string and its length determine the bytes.
pub padded_len : (room len : ℕ) (bytes : List ℕ) → IsPadded room len bytes → length (take len bytes) ≡ len
padded_len room len bytes h = omega (arith, length-take len bytes, h.fits, h.whole)

pub padded_bytes : (room len : ℕ) (bytes : List ℕ) → IsPadded room len bytes → padded room (take len bytes) ≡ bytes
padded_bytes room len bytes h = ap (λ n. take len bytes ++ replicate (room - n) 0) (padded_len room len bytes h) ∙ sym h.padded

-- A string is contained in the bytes that are built from it.
pub padded_text : (room : ℕ) (text : List ℕ) → length text ≤ room → IsPadded room (length text) (padded room text)
padded_text room text short =
    let zeros : List ℕ = replicate (room - length text) 0 in
    record {
      fits = short;
      whole = omega (arith, length-append text zeros, length-replicate {A = ℕ} (room - length text) 0);
      padded = ap (λ bs. bs ++ zeros) (sym (take-append_seam text zeros));
    }
