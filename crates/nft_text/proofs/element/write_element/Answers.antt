use Rattle.std.proofs.Common.{◌≡◌, ◌∙◌, take, append_assoc}
use Rattle.text_core.specs.inner.Line.{cut}
use Rattle.text_core.proofs.LineLaws.{cut_cut, cut_whole}
use Rattle.nft_text.specs.Text.{element_text}
use Rattle.nft_text.proofs.LengthLaws.{element_short}
use Rattle.nft_text.proofs.element.write_element.Goals as goal

put_all : (c : goal.After-put) → take c.put.result c.put.new.buffer ≡ cut 256 (element_text c.args.chains.now c.args.element c.args.behind.now)
unfolding element_text
put_all c =
    rw (c.put.ensures.text, c.after_element.ensures, c.put_verdict-verdict.ensures.text, c.put-colon.ensures.text, c.put_range-range.ensures.text)
    (simp (cut_cut, append_assoc))

pub returns-clause-text : goal.returns-clause-text
returns-clause-text c =
    put_all c ∙ cut_whole 256 (element_text c.args.chains.now c.args.element c.args.behind.now) (element_short c.args.chains.now c.args.element c.args.behind.now c.requires)
