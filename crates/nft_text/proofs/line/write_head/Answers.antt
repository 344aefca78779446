use Rattle.std.proofs.Common.{◌≡◌, ◌≤◌, ◌∙◌, length, length-append, take, append_assoc, arith}
use Rattle.text_core.specs.inner.Line.{cut}
use Rattle.text_core.proofs.LineLaws.{cut_cut, cut_whole}
use Rattle.nft_text.specs.Text.{chain_head}
use Rattle.nft_text.proofs.line.write_head.Goals as goal

put_all : (c : goal.After-put) → take c.put.result c.put.new.buffer ≡ cut 256 (chain_head c.args.name.now)
unfolding chain_head
put_all c = rw (c.put.ensures.text, c.put-name.ensures.text, c.put-word.ensures.text) (simp (cut_cut, append_assoc))

short : (c : goal.After-put) → length (chain_head c.args.name.now) ≤ 256
unfolding chain_head
short c = simp length-append (omega (arith, c.requires))

pub returns-clause-text : goal.returns-clause-text
returns-clause-text c = put_all c ∙ cut_whole 256 (chain_head c.args.name.now) (short c)
