use Rattle.std.proofs.Common.{◌≡◌, ◌∙◌, take, append_assoc}
use Rattle.text_core.specs.inner.Line.{cut}
use Rattle.text_core.proofs.LineLaws.{cut_cut, cut_whole}
use Rattle.report_core.specs.RefusalLine.{refusal_text}
use Rattle.report_core.proofs.LineLemmas.{refusal_short}
use Rattle.report_core.proofs.refusal.refusal_line.Goals as goal

put_all : (c : goal.After-put) → take c.put.result c.put.new.buffer ≡ cut 256 (refusal_text c.args.refusal.now)
unfolding refusal_text
put_all c =
    rw (c.put.ensures.text, c.put_name-name.ensures.text, c.put_if_nonzero-other.ensures.text, c.put_if_nonzero-item.ensures.text, c.put_place-place.ensures.text, c.put-at.ensures.text, c.put_cause-cause.ensures.text, c.put-head.ensures.text) (simp (cut_cut, append_assoc))

pub returns-clause-line : goal.returns-clause-line
returns-clause-line c =
    put_all c
    ∙ cut_whole 256 (refusal_text c.args.refusal.now)
    (refusal_short c.args.refusal.now (record {
      cause = c.put_cause-cause.ensures.short;
      place = c.put_place-place.ensures.short;
      item = c.put_if_nonzero-item.ensures.short;
      other = c.put_if_nonzero-other.ensures.short;
      name = c.put_name-name.ensures.short;
    }))
