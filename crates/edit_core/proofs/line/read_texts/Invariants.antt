use Rattle.std.proofs.Common.{◌≡◌, ◌++◌, map, string_bytes, length}
use Rattle.std.specs.List.{list_all}
use Rattle.std.specs.Str.{is_utf8}
use Rattle.edit_core.proofs.line.read_texts.Given as goal

-- The tokens so far are valid UTF-8, and were appended.
abbrev pub invariant-loop-word : goal.invariant-loop-word
invariant-loop-word l = record {
  texts : list_all is_utf8 l.fn.words ≡ list_all is_utf8 l.words;
  put : map string_bytes l.texts.items ++ l.words ≡ map string_bytes l.fn.texts.items ++ l.fn.words;
}

abbrev pub decreases-loop-word : goal.decreases-loop-word
decreases-loop-word l = length l.words
