-- What a terminal is given of bytes whose control codes are shown: each control code but the newline as `\x1b`. In UTF-8 the control codes
-- from 128 to 159 are the byte 194 and a byte with this number (ECMA-48, RFC 3629).
use Rattle.std.specs.Prelude.{ℕ, ◌+◌, ◌/◌, ◌%◌, ◌==◌, ◌&&◌, ◌||◌, Bool, not, nat_le, nat_lt, if◌then◌else◌, List, [], ◌∷◌, ◌++◌}

-- The byte is a control code, or the second byte of one, and no newline. `last` is the byte before it.
abbrev pub is_code : (last byte : ℕ) → Bool
is_code last byte = (nat_lt byte 32 && not (byte == 10)) || ((byte == 127) || ((last == 194) && (nat_le 128 byte && nat_lt byte 160)))

-- A hexadecimal digit: `0` to `9`, `a` to `f`.
abbrev pub digit_of : ℕ → ℕ
digit_of n = if nat_lt n 10 then 48 + n else 87 + n

-- A control code as it is shown: `\x` and two digits.
abbrev pub escape_of : ℕ → List ℕ
escape_of byte = 92 ∷ (120 ∷ (digit_of (byte / 16) ∷ (digit_of (byte % 16) ∷ [])))

-- A byte as it is shown.
abbrev pub shown : (last byte : ℕ) → List ℕ
shown last byte = if is_code last byte then escape_of byte else byte ∷ []

-- Bytes as they are shown after the byte `last`.
abbrev pub all_shown : (last : ℕ) → List ℕ → List ℕ
all_shown last [] = []
all_shown last (byte ∷ bytes) = shown last byte ++ all_shown byte bytes

-- The last of the bytes, or `last` if there are none.
abbrev pub last_of : (last : ℕ) → List ℕ → ℕ
last_of last [] = last
last_of last (byte ∷ bytes) = last_of byte bytes
