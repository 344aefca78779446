-- The text so far followed by the remaining lines is the initial text followed by all lines.
use Rattle.std.proofs.Common.{◌≡◌, ◌+◌, ◌++◌, drop}
use Rattle.topos_top.specs.Edit.{summary_lines}
use Rattle.topos_top.proofs.edit.push_summaries.Given as goal

abbrev pub invariant-loop-place : goal.invariant-loop-place
invariant-loop-place l = l.text.items ++ summary_lines (l.place + 1) (drop l.place l.summaries) ≡ l.fn.text.items ++ summary_lines 1 l.summaries
