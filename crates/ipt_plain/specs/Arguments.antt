-- The arguments of a rule line: those that iptables-restore takes (iptables 1.8.9, xshared.c: add_param_to_argv), and lines from which
-- ipt_read takes the same ones.
use Rattle.std.specs.Prelude.{◌≡◌, ◌≢◌, ◌==◌, ◌||◌, not, if◌then◌else◌, ℕ, Bool, IsTrue, List, [], ◌∷◌, ◌++◌}
use Rattle.std.specs.List.{list_all}
use Rattle.text_core.specs.Lines.{is_blank, ends_word}

-- 1. The arguments of iptables-restore.

-- The position of iptables-restore in a line: outside of a quoted text, in one, or in one after a backslash.
pub data Quoting : Type 0 where
  Outside : Quoting
  InQuotes : Quoting
  AfterBackslash : Quoting

-- An argument that is not in quotes is dropped if it is empty.
abbrev pub unless_empty : List ℕ → (others : List (List ℕ)) → List (List ℕ)
unless_empty [] others = others
unless_empty (b ∷ bs) others = (b ∷ bs) ∷ others

-- The arguments of the rest of a line, after some bytes of an argument. A `"` (34) opens a quoted text, also within an argument, and the
-- next `"` ends the argument; a backslash (92) in a quoted text escapes the byte after it; a blank outside of quoted texts ends an argument,
-- and the end of the line does.
abbrev pub taken_from : Quoting → List ℕ → List ℕ → List (List ℕ)
taken_from place bytes [] = unless_empty bytes []
taken_from Outside bytes (b ∷ bs) =
    if b == 34 then taken_from InQuotes bytes bs
    else if is_blank b then unless_empty bytes (taken_from Outside [] bs) else taken_from Outside (bytes ++ b ∷ []) bs
taken_from InQuotes bytes (b ∷ bs) =
    if b == 92 then taken_from AfterBackslash bytes bs
    else if b == 34 then bytes ∷ taken_from Outside [] bs else taken_from InQuotes (bytes ++ b ∷ []) bs
taken_from AfterBackslash bytes (b ∷ bs) = taken_from InQuotes (bytes ++ b ∷ []) bs

-- The arguments that iptables-restore takes from a line. It removes counts at the front of the line first.
abbrev pub taken : List ℕ → List (List ℕ)
taken line = taken_from Outside [] line

-- 2. Lines from which both take the same arguments.

-- A byte of a token: neither a blank nor a `"`.
abbrev pub is_token_byte : ℕ → Bool
is_token_byte b = not (is_blank b || b == 34)

-- The bytes inside a quoted text, and the text. A backslash escapes the byte after it, regardless of its value.
pub data IsInside : List ℕ → (text : List ℕ) → Type 0 where
  nothing : IsInside [] []
  escaped : {b : ℕ} {bs text : List ℕ} → IsInside bs text → IsInside (92 ∷ b ∷ bs) (b ∷ text)
  plain : {b : ℕ} {bs text : List ℕ} → b ≢ 92 → b ≢ 34 → IsInside bs text → IsInside (b ∷ bs) (b ∷ text)

-- A line that consists of arguments and blanks. An argument is a token without a `"`, or a quoted text, whose first unescaped `"` is its
-- last byte; a blank or the end of the line follows it.
pub data AreArguments : List ℕ → (arguments : List (List ℕ)) → Type 0 where
  none_left : AreArguments [] []
  blank : {b : ℕ} {bs : List ℕ} {others : List (List ℕ)} → IsTrue (is_blank b) → AreArguments bs others → AreArguments (b ∷ bs) others
  token : {b : ℕ} {w bs : List ℕ} {others : List (List ℕ)} → IsTrue (list_all is_token_byte (b ∷ w)) → IsTrue (ends_word bs)
      → AreArguments bs others → AreArguments ((b ∷ w) ++ bs) ((b ∷ w) ∷ others)
  quoted : {inside text bs : List ℕ} {others : List (List ℕ)} → IsInside inside text → IsTrue (ends_word bs)
      → AreArguments bs others → AreArguments (34 ∷ (inside ++ (34 ∷ bs))) (text ∷ others)

-- The line consists of arguments, and iptables-restore takes these.
pub record HasSameArguments (line : List ℕ) : Type 0 where
  pub arguments : List (List ℕ)
  pub here : AreArguments line arguments
  pub there : taken line ≡ arguments
