-- The TOML table of a description's bytes (TOML 1.1 in UTF-8; a document is defined by the parser `toml`).
use Rattle.std.specs.Prelude.{ℕ, List, Option, None, if◌then◌else◌}
use Rattle.std.specs.Str.{is_utf8}
use Rattle.toml.specs.Data.{Members}
use Rattle.toml.specs.Parse.{parse_document}

-- The table of bytes that are UTF-8 and a TOML document.
unfoldable pub document : List ℕ → Option Members
document bytes = if is_utf8 bytes then parse_document bytes else None
