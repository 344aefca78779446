-- Rules texts that iptables-restore reads as ipt_read does (iptables-restore(8), version 1.8.9, both back ends), and the first line that
-- it may read otherwise.
use Rattle.std.specs.Prelude.{◌≡◌, ◌<◌, ◌≤◌, ◌+◌, ◌⊎◌, ℕ, IsFalse, List, ◌∷◌, ◌++◌, All, Contains, codes, length}
use Rattle.text_core.specs.Lines.{lines, words, is_comment}
use Rattle.ipt_plain.specs.Arguments.{HasSameArguments}
use Rattle.ipt_plain.specs.declared.fault.PlainWhy.{PlainWhy}
use Rattle.ipt_plain.specs.declared.fault.PlainWhy.TheVariants.{LongLine, ZeroByte, InnerQuote, AllPorts, NoForward}

-- 1. Lines.

-- iptables-restore takes at most 10,239 bytes as one line, and the bytes after them as a line of their own (fgets with a buffer of 10,240
-- bytes).
abbrev pub IsShort : List ℕ → Type 0
IsShort line = length line ≤ 10239

-- A byte 0 ends a line of iptables-restore.
abbrev pub HasZero : List ℕ → Type 0
HasZero line = Contains line 0

-- The option of a port match.
abbrev pub IsPortOption : List ℕ → Type 0
IsPortOption w = (w ≡ codes "--sport") ⊎ (w ≡ codes "--dport")

-- The notations of all ports.
abbrev pub AreAllPorts : List ℕ → Type 0
AreAllPorts w = (w ≡ codes "0:65535") ⊎ ((w ≡ codes "0:") ⊎ (w ≡ codes ":65535"))

-- The tokens contain a negated match on all ports. Such a rule matches no packet here and with the legacy back end, and every port with
-- nf_tables.
pub data NegatesAllPorts : List (List ℕ) → Type 0 where
  here : {option ports : List ℕ} {ws : List (List ℕ)} → IsPortOption option → AreAllPorts ports
      → NegatesAllPorts (codes "!" ∷ option ∷ ports ∷ ws)
  further : {w : List ℕ} {ws : List (List ℕ)} → NegatesAllPorts ws → NegatesAllPorts (w ∷ ws)

-- iptables-restore reads the line as ipt_read does: it is short and has no byte 0; and it is a comment, or both take the same
-- arguments from it and none negates a match on all ports.
pub record IsPlainLine (line : List ℕ) : Type 0 where
  pub short : IsShort line
  pub no_zero : HasZero line → ⊥
  pub arguments : IsFalse (is_comment line) → HasSameArguments line
  pub ports : IsFalse (is_comment line) → NegatesAllPorts (words line) → ⊥

-- The reason why iptables-restore may read a line otherwise: the first of these that holds.
pub data IsOtherwise (line : List ℕ) : PlainWhy → Type 0 where
  long : 10239 < length line → IsOtherwise line LongLine
  zero_byte : IsShort line → HasZero line → IsOtherwise line ZeroByte
  inner_quote : IsShort line → (HasZero line → ⊥) → IsFalse (is_comment line) → (HasSameArguments line → ⊥) → IsOtherwise line InnerQuote
  all_ports : IsShort line → (HasZero line → ⊥) → IsFalse (is_comment line) → HasSameArguments line → NegatesAllPorts (words line)
      → IsOtherwise line AllPorts

-- 2. Texts.

-- A chain line of FORWARD. Without one the legacy back end leaves the policy unchanged.
abbrev pub HasForward : List (List ℕ) → Type 0
HasForward ls = (line : List ℕ) × (rest : List (List ℕ)) × Contains ls line × (words line ≡ codes ":FORWARD" ∷ rest)

-- iptables-restore reads the text as ipt_read does: each of its lines, one of which is a chain line of FORWARD.
pub record IsPlain (bytes : List ℕ) : Type 0 where
  pub each : All IsPlainLine (lines bytes)
  pub forward : HasForward (lines bytes)

-- The first line that iptables-restore may read otherwise, and the reason; or, at the line after the last, that a chain line of FORWARD is
-- missing.
pub data HasPlainFault (bytes : List ℕ) : ℕ → PlainWhy → Type 0 where
  at_line : {why : PlainWhy} (front behind : List (List ℕ)) (line : List ℕ) → lines bytes ≡ front ++ (line ∷ behind) → All IsPlainLine front
      → IsOtherwise line why → HasPlainFault bytes (1 + length front) why
  no_forward : All IsPlainLine (lines bytes) → (HasForward (lines bytes) → ⊥) → HasPlainFault bytes (1 + length (lines bytes)) NoForward

-- The name of a reason, as it is printed.
abbrev pub name : PlainWhy → List ℕ
name LongLine = codes "LongLine"
name ZeroByte = codes "ZeroByte"
name InnerQuote = codes "InnerQuote"
name AllPorts = codes "AllPorts"
name NoForward = codes "NoForward"
