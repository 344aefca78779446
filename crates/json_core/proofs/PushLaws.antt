-- Laws of escaped strings.
use Rattle.std.proofs.Common.{◌≡◌, ◌<◌, ◌+◌, ℕ, suc, Bool, true, false, if◌then◌else◌, List, [], ◌∷◌, ◌++◌, length, get_or, take, sym, ◌∙◌, ap, arith, append_assoc, append-nil}
use Rattle.std.proofs.Math.Seq.{take-suc}
use Rattle.std.proofs.lemmas.Grind.{flat_map-append}
use Rattle.std.specs.List.{flat_map}
use Rattle.json_core.specs.Json.{escaped_byte, is_escaped}

pub byte_escaped : (b : ℕ) → is_escaped b ≡ true → escaped_byte b ≡ 92 ∷ b ∷ []
unfolding escaped_byte
byte_escaped b is = ap (λ (x : Bool). if x then 92 ∷ b ∷ [] else b ∷ []) is

pub byte_plain : (b : ℕ) → is_escaped b ≡ false → escaped_byte b ≡ b ∷ []
unfolding escaped_byte
byte_plain b is = ap (λ (x : Bool). if x then 92 ∷ b ∷ [] else b ∷ []) is

-- The text with one byte more at its end.
pub put_byte : (bytes : List ℕ) (i : ℕ) (old now last : List ℕ) → i < length bytes → now ≡ old ++ flat_map escaped_byte (take i bytes)
    → last ≡ now ++ escaped_byte (get_or bytes i 0) → last ≡ old ++ flat_map escaped_byte (take (i + 1) bytes)
put_byte bytes i old now last below so_far put =
    let next : i + 1 ≡ suc i = omega arith in
    let byte = get_or bytes i 0 in
    let before = flat_map escaped_byte (take i bytes) in
    let taken : take (i + 1) bytes ≡ take i bytes ++ byte ∷ [] = ap (λ k. take k bytes) next ∙ take-suc bytes i 0 below in
    put
    ∙ ap (λ t. t ++ escaped_byte byte) so_far
    ∙ append_assoc old before (escaped_byte byte)
    ∙ ap (λ t. old ++ t) (ap (λ t. before ++ t) (sym (append-nil (escaped_byte byte)))
    ∙ sym (flat_map-append escaped_byte (take i bytes) (byte ∷ []))
    ∙ ap (λ xs. flat_map escaped_byte xs) (sym taken))
