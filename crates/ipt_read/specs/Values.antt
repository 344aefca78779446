-- Values of options, defined independently of the parser: counters, quoted strings and lists of states.
use Rattle.std.specs.Prelude.{◌≡◌, ◌≢◌, ℕ, Bool, ◌&&◌, ◌==◌, nat_le, IsTrue, IsFalse, List, [], ◌∷◌, ◌++◌, codes, bytes_eq, length}
use Rattle.std.specs.Char.{is_ascii_digit}
use Rattle.std.specs.List.{list_all, list_any, slice_split}
use Rattle.text_core.specs.Lines.{begins_with}

-- A number of 1 to 20 decimal digits.
abbrev pub is_counter_number : List ℕ → Bool
is_counter_number bs = list_all is_ascii_digit bs && (nat_le 1 (length bs) && nat_le (length bs) 20)

-- Packet and byte counters, in the format of iptables-save(8) with --counters: `[` (91), packets, `:` (58), bytes, `]` (93); each number
-- has 1 to 20 digits.
pub record IsCounter (word : List ℕ) : Type 0 where
  pub packets : List ℕ
  pub bytes : List ℕ
  pub are_figures : IsTrue (is_counter_number packets) × IsTrue (is_counter_number bytes)
  pub written : word ≡ 91 ∷ (packets ++ (58 ∷ (bytes ++ (93 ∷ []))))

-- Bytes inside a quoted string, without a terminating `"` (34). A backslash (92) escapes the byte after it, regardless
-- of its value.
pub data IsInside : List ℕ → Type 0 where
  nothing : IsInside []
  taken : {b : ℕ} {bs : List ℕ} → IsInside bs → IsInside (92 ∷ b ∷ bs)
  plain : {b : ℕ} {bs : List ℕ} → b ≢ 92 → b ≢ 34 → IsInside bs → IsInside (b ∷ bs)

-- The tokens of a quoted string after its opening `"`: the first unescaped `"` is the last byte of the last token. A backslash at the end
-- of an earlier token escapes the blank (32) after this token.
pub data IsRestOfText : List (List ℕ) → Type 0 where
  closing : {w : List ℕ} (inside : List ℕ) → IsInside inside → w ≡ inside ++ (34 ∷ []) → IsRestOfText (w ∷ [])
  open_still : {w : List ℕ} {ws : List (List ℕ)} → IsInside (w ++ (32 ∷ [])) → IsRestOfText ws → IsRestOfText (w ∷ ws)

-- A string: one token that does not begin with `"`, or the tokens of a quoted string. iptables-restore also opens a quoted string at a `"`
-- further right in a token.
pub data IsText : List (List ℕ) → Type 0 where
  bare : {w : List ℕ} → IsFalse (begins_with 34 w) → IsText (w ∷ [])
  in_quotes : {w : List ℕ} {ws : List (List ℕ)} → IsRestOfText (w ∷ ws) → IsText ((34 ∷ w) ∷ ws)

-- The connection states that a list may contain. iptables accepts SNAT and DNAT only in a list of `--ctstate`.
unfoldable pub is_state : List ℕ → Bool
is_state word =
    list_any (bytes_eq word) (codes "NEW" ∷ codes "ESTABLISHED" ∷ codes "RELATED" ∷ codes "INVALID" ∷ codes "UNTRACKED" ∷
    codes "SNAT" ∷ codes "DNAT" ∷ [])

-- The strings between the commas (44) of a list.
abbrev pub listed : List ℕ → List (List ℕ)
listed word = slice_split (λ b. b == 44) word

-- A list of states, and whether it contains NEW and whether it contains ESTABLISHED.
pub record IsStateList (word : List ℕ) (new established : Bool) : Type 0 where
  pub each : IsTrue (list_all is_state (listed word))
  pub has_new : new ≡ list_any (λ w. bytes_eq w (codes "NEW")) (listed word)
  pub has_established : established ≡ list_any (λ w. bytes_eq w (codes "ESTABLISHED")) (listed word)
