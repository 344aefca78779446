-- The network that a description specifies, or the first condition that refuses it (the description's format,
-- docs/FORMATS.md).
use Rattle.std.specs.Prelude.{ℕ, List, length, nat_lt, Option, Some, None, Result, Ok, Err, if◌then◌else◌}
use Rattle.toml.specs.Data.{Members}
use Rattle.desc_core.specs.Conditions.{byte_limit, table_conditions}
use Rattle.desc_core.specs.Document.{document}
use Rattle.net_core.specs.Network.{Network}
use Rattle.desc_core.specs.RawNetwork.{network_of}
use Rattle.text_core.specs.FirstMatch.{first_of}
use Rattle.desc_form.specs.Refusals.{refused}
use Rattle.desc_form.specs.RawDescription.{written}
use Rattle.desc_form.specs.declared.refusal.Place.TheVariants.{Document}
use Rattle.desc_form.specs.declared.refusal.Refusal.{Refusal}
use Rattle.desc_form.specs.declared.refusal.Why.TheVariants.{TooLong, NotToml}

-- The value, unless it is refused.
abbrev pub ok_unless_refused : {A : Type 0} → Option Refusal → A → Result A Refusal
ok_unless_refused (Some refusal) x = Err refusal
ok_unless_refused None x = Ok x

-- The network that a table describes, or the refusal of the first condition from 3 on that applies.
unfoldable pub described_by_table : Members → Result Network Refusal
described_by_table table = ok_unless_refused (first_of (table_conditions table)) (network_of (written table))

-- The network that a document describes. Bytes that are no document are refused.
abbrev pub described_by : Option Members → Result Network Refusal
described_by None = Err (refused NotToml Document)
described_by (Some table) = described_by_table table

-- The network that the bytes describe.
unfoldable pub described : List ℕ → Result Network Refusal
described bytes = if nat_lt byte_limit (length bytes) then Err (refused TooLong Document) else described_by (document bytes)
