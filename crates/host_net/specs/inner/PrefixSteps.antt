-- Parsing an address and a prefix, step by step.
use Rattle.std.specs.Prelude.{ℕ, ◌+◌, ◌*◌, ◌^◌, List, Option, Some, None}
use Rattle.text_core.specs.inner.Decimal.{number}
use Rattle.text_core.specs.Steps.{◌>>=◌}
use Rattle.text_core.specs.inner.Pieces.{split_once}
use Rattle.host_net.specs.Prefix.{prefix_with}
use Rattle.host_net.specs.declared.prefix.Prefix.{Prefix}

-- The address that four numbers, separated by dots (46), denote; each is at most 255.
unfoldable pub address_of : List ℕ → Option ℕ
address_of text = do
  first ← split_once 46 text
  second ← split_once 46 first.1
  third ← split_once 46 second.1
  a ← number 255 first.0
  b ← number 255 second.0
  c ← number 255 third.0
  d ← number 255 third.1
  Some (a * 2 ^ 24 + b * 2 ^ 16 + c * 2 ^ 8 + d)

-- The prefix that a string denotes, given its address and its length if a slash separates them.
abbrev pub prefix_of_parts : List ℕ → Option (List ℕ × List ℕ) → Option Prefix
prefix_of_parts text None = do
  a ← address_of text
  Some (prefix_with a 32)
prefix_of_parts text (Some parts) = do
  a ← address_of parts.0
  len ← number 32 parts.1
  Some (prefix_with a len)

-- An address, a slash (47) and a length; or an address only, with all bits significant.
unfoldable pub prefix_by_parts : List ℕ → Option Prefix
prefix_by_parts text = prefix_of_parts text (split_once 47 text)
