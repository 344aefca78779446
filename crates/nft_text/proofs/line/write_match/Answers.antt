use Rattle.std.proofs.Common.{◌≡◌, ◌≤◌, ◌∙◌, Bool, true, false, length, length-append, take, append_assoc, arith}
use Rattle.text_core.specs.inner.Line.{cut}
use Rattle.text_core.proofs.LineLaws.{cut_cut, cut_whole}
use Rattle.nft_text.specs.Text.{match_line, state_text}
use Rattle.nft_text.proofs.LengthLaws.{verdict_short}
use Rattle.nft_text.proofs.line.write_match.Goals as goal

put_all : (c : goal.After-put) → take c.put.result c.put.new.buffer ≡ cut 256 (match_line c.args.chains.now c.args.rule)
unfolding match_line
put_all c =
    rw (
      c.put.ensures.text,
      c.put_verdict-verdict.ensures.text,
      c.put_service-service.ensures.text,
      c.put_state-state.ensures.text,
      c.put-tabs.ensures.text,
    ) (simp (cut_cut, append_assoc))

state_short : (established : Bool) → length (state_text established) ≤ 21
state_short true = omega arith
state_short false = omega arith

short : (c : goal.After-put) → length (match_line c.args.chains.now c.args.rule) ≤ 256
unfolding match_line
short c =
    simp length-append
    (omega (arith, state_short c.args.rule.established, c.put_service-service.ensures.short, verdict_short c.args.chains.now c.args.rule.verdict c.requires))

pub returns-clause-text : goal.returns-clause-text
returns-clause-text c = put_all c ∙ cut_whole 256 (match_line c.args.chains.now c.args.rule) (short c)
