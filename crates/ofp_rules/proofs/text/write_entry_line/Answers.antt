use Rattle.std.proofs.Common.{◌≡◌, take, append_assoc, arith}
use Rattle.std.proofs.lemmas.Bool.Decides.{nat_tests}
use Rattle.text_core.specs.inner.Line.{cut}
use Rattle.ofp_rules.specs.Text.{entry_line}
use Rattle.text_core.proofs.LineLaws.{IsWhole, cut_cut, put_whole}
use Rattle.ofp_rules.proofs.LineLaws.{entry_line_short}
use Rattle.ofp_rules.proofs.text.write_entry_line.Goals as goal

put_all : (c : goal.After-put) → take c.put.result c.put.new.buffer ≡ cut 256 (entry_line c.args.entry)
unfolding entry_line
put_all c =
    rw (
      c.put.ensures.text,
      c.put_action-action.ensures.text,
      c.put_port-target.ensures.text,
      c.put_port-source.ensures.text,
      c.put_part-dst.ensures.text,
      c.put_part-src.ensures.text,
      c.put_kind-kind.ensures.text,
      c.put-comma.ensures.text,
      c.put_number-priority.ensures.text,
      c.put-name.ensures.text,
    ) (simp (cut_cut, append_assoc))

done : (c : goal.After-put) → IsWhole 124 c.put.new.buffer (entry_line c.args.entry) c.put.result
done c =
    put_whole 256 124 c.put.new.buffer (entry_line c.args.entry) c.put.result c.put.array_long c.put.ensures.within (omega arith)
    (entry_line_short c.args.entry (grind (arith, nat_tests))) (put_all c)

pub returns-clause-line : goal.returns-clause-line
returns-clause-line c = (done c).same

pub returns-clause-short : goal.returns-clause-short
returns-clause-short c = (done c).short
