use Rattle.std.proofs.Common.{◌≡◌, ◌++◌, drop, map, string_bytes}
use Rattle.toml.specs.Data.{string}
use Rattle.toml.specs.View.{view}
use Rattle.edit_core.proofs.values.text_values.Given as goal

-- The values so far followed by the remaining strings are all strings.
abbrev pub invariant-loop-text : goal.invariant-loop-text
invariant-loop-text l = map view l.values.items ++ map string (map string_bytes (drop l.text-index l.texts)) ≡ map string (map string_bytes l.texts)
