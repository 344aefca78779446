-- Parsing an interval, step by step: the candidate, and the comparison with its text.
use Rattle.std.specs.Prelude.{ℕ, List, Option, Some, None, bytes_eq}
use Rattle.std.specs.Option.{option_map}
use Rattle.text_core.specs.FirstMatch.{some_if}
use Rattle.text_core.specs.inner.Pieces.{split_once}
use Rattle.host_net.specs.Prefix.{prefix_of}
use Rattle.host_net.specs.PrefixView.{first_address, last_address}
use Rattle.host_net.specs.declared.prefix.Prefix.{Prefix}
use Rattle.host_net.specs.inner.PrefixSteps.{address_of}
use Rattle.header_space.specs.declared.address_range.AddressRange.{AddressRange}
use Rattle.nft_text.specs.Text.{range_text}

abbrev pub range_of : Prefix → AddressRange
range_of p = record { first = first_address p; last = last_address p }

abbrev pub block_of : List ℕ → Option AddressRange
block_of text = option_map range_of (prefix_of text)

abbrev pub between_of : Option ℕ → Option ℕ → Option AddressRange
between_of (Some a) (Some b) = Some (record { first = a; last = b })
between_of _ _ = None

abbrev pub between : List ℕ → List ℕ → Option AddressRange
between first last = between_of (address_of first) (address_of last)

-- A dash (45) stands between the first and the last address.
abbrev pub by_parts : List ℕ → Option (List ℕ × List ℕ) → Option AddressRange
by_parts text None = block_of text
by_parts text (Some parts) = between parts.0 parts.1

abbrev pub candidate : List ℕ → Option AddressRange
candidate text = by_parts text (split_once 45 text)

abbrev pub checked : List ℕ → Option AddressRange → Option AddressRange
checked text None = None
checked text (Some range) = some_if (bytes_eq text (range_text range)) range

abbrev pub interval_of : List ℕ → Option AddressRange
interval_of text = checked text (candidate text)
