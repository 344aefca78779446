use Rattle.std.proofs.Common.{length}
use Rattle.text_core.specs.Lines.{lines}
use Rattle.text_core.proofs.SoFar.{IsSoFar}
use Rattle.text_core.proofs.texts.read_counted_lines.Given as goal

abbrev pub invariant-loop-line : goal.invariant-loop-line
invariant-loop-line g l = record {
  so_far : IsSoFar g.R.LineReader.text (lines l.bytes) l.lines (g.R.LineReader.said l.reader) l.number;
  holds : g.R.LineReader.holds l.reader;
}

abbrev pub decreases-loop-line : goal.decreases-loop-line
decreases-loop-line g l = length l.lines
