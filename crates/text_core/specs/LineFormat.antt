-- Line-oriented formats: the files that have a parse result, and the first error of a file that has none. Comments are skipped.
use Rattle.std.specs.Prelude.{◌≡◌, ◌<◌, ◌≤◌, ℕ, ◌+◌, IsFalse, List, ◌∷◌, ◌++◌, length}
use Rattle.text_core.specs.Lines.{lines, is_comment}
use Rattle.text_core.specs.Reading.{Follows}

-- A line-oriented format, where S is the parser state and W the reasons to reject a file: the size limit in bytes, and the reason to reject
-- a longer file; the initial state; the state after line n, given the state before it, or the reason why the line is rejected; and whether
-- a file may end in a state, or the line to report and the reason, if the line after its last would be line n.
pub record LineFormat (S W : Type 0) : Type 1 where
  pub byte_limit : ℕ
  pub too_long_reason : W
  pub start : S
  pub IsLine : ℕ → S → List ℕ → S → Type 0
  pub IsBadLine : ℕ → S → List ℕ → W → Type 0
  pub MayEndIn : S → Type 0
  pub HasEndFault : ℕ → S → ℕ → W → Type 0

-- The lines from line 1 on are transitions from the initial state to s.
abbrev pub AreLines : {S W : Type 0} → LineFormat S W → List (List ℕ) → S → Type 0
AreLines text ls s = Follows text.IsLine 1 text.start ls s

-- A file within the size limit is parsed to its last line.
pub record IsReadToEnd {S W : Type 0} (text : LineFormat S W) (bytes : List ℕ) (s : S) : Type 0 where
  pub short : length bytes ≤ text.byte_limit
  pub told : AreLines text (lines bytes) s

-- The parse result of a file: the state after its lines, in which it may end.
pub record IsReading {S W : Type 0} (text : LineFormat S W) (bytes : List ℕ) (s : S) : Type 0 where
  pub short : length bytes ≤ text.byte_limit
  pub told : AreLines text (lines bytes) s
  pub ends : text.MayEndIn s

-- Line `line` is the first that is rejected: each line before it is a comment or an accepted line.
pub record IsFirstBad {S W : Type 0} (text : LineFormat S W) (ls : List (List ℕ)) (line : ℕ) (why : W) : Type 0 where
  pub front : List (List ℕ)
  pub here : List ℕ
  pub behind : List (List ℕ)
  pub before : S
  pub parts : ls ≡ front ++ here ∷ behind
  pub read_before : AreLines text front before
  pub number : line ≡ 1 + length front
  pub is_line : IsFalse (is_comment here)
  pub bad : text.IsBadLine line before here why

-- The first error of a file: it is too long, at line 0; otherwise its first bad line; otherwise it ends badly.
pub data HasFault {S W : Type 0} (text : LineFormat S W) (bytes : List ℕ) : ℕ → W → Type 0 where
  too_long : text.byte_limit < length bytes → HasFault text bytes 0 text.too_long_reason
  at_line : {line : ℕ} {why : W} → length bytes ≤ text.byte_limit → IsFirstBad text (lines bytes) line why
      → HasFault text bytes line why
  at_end : {line : ℕ} {why : W} (s : S) → IsReadToEnd text bytes s → text.HasEndFault (1 + length (lines bytes)) s line why
      → HasFault text bytes line why
