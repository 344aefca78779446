use Rattle.std.proofs.Common.{◌≡◌, ◌++◌, take}
use Rattle.std.specs.List.{flat_map}
use Rattle.json_core.specs.Json.{escaped_byte}
use Rattle.json_core.proofs.values.push_escaped_bytes.Given as goal

-- The text has the bytes so far.
abbrev pub invariant-loop-byte : goal.invariant-loop-byte
invariant-loop-byte l = l.text.items ≡ l.fn.text.items ++ flat_map escaped_byte (take l.byte-index l.bytes)
