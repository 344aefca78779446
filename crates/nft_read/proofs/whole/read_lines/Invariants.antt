use Rattle.std.proofs.Common.{◌≡◌, ◌+◌, Some, drop, length, take}
use Rattle.text_core.specs.Lines.{lines}
use Rattle.nft_read.specs.inner.TableSteps.{run, start}
use Rattle.nft_read.proofs.whole.read_lines.Given as goal

abbrev pub invariant-loop-line : goal.invariant-loop-line
invariant-loop-line l = record {
  count : l.number + length l.lines ≡ length (lines l.text);
  rest : l.lines ≡ drop l.number (lines l.text);
  read : run start (take l.number (lines l.text)) ≡ Some l.reader;
}

abbrev pub decreases-loop-line : goal.decreases-loop-line
decreases-loop-line l = length l.lines
