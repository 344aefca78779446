-- The bytes before `index` are no control codes, and `last` is the last of them.
use Rattle.std.proofs.Common.{◌≡◌, ◌≤◌, ℕ, take}
use Rattle.edge_io.specs.TerminalText.{all_shown, last_of}
use Rattle.edge_io.proofs.error_sink.ErrorSink.plain_len.Given as goal

abbrev pub invariant-loop-index : goal.invariant-loop-index
invariant-loop-index g l = record {
  plain : (n : ℕ) → n ≤ l.index → all_shown l.fn.self.last (take n l.piece) ≡ take n l.piece;
  last_is : l.last ≡ last_of l.fn.self.last (take l.index l.piece);
}
