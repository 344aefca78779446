use Rattle.std.proofs.Common.{◌≡◌, ◌++◌, take}
use Rattle.json_core.specs.Json.{separated}
use Rattle.json_core.proofs.array.push_items.Given as goal

-- The text has the items so far.
abbrev pub invariant-loop-place : goal.invariant-loop-place
invariant-loop-place g l = l.text.items ≡ l.fn.text.items ++ separated (g.W.ItemWriter.item_json l.writer) (take l.place l.items)
