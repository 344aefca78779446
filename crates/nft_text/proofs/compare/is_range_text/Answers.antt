use Rattle.std.proofs.Common.{◌≡◌, ◌∙◌, ◌≤◌, length, take, ap, arith}
use Rattle.std.specs.Prelude.{bytes_eq}
use Rattle.text_core.proofs.LineLaws.{cut_whole}
use Rattle.nft_text.specs.Text.{range_text}
use Rattle.nft_text.proofs.LengthLaws.{range_short}
use Rattle.nft_text.proofs.compare.is_range_text.Goals as goal

written : (c : goal.After-eq) → take c.put_range-end.result c.put_range-end.new.buffer ≡ range_text c.args.range
written c =
    let short : length (range_text c.args.range) ≤ 256 = omega (arith, range_short c.args.range) in
    c.put_range-end.ensures.text ∙ cut_whole 256 (range_text c.args.range) short

pub returns : goal.returns
returns c = c.eq.ensures ∙ ap (bytes_eq c.args.bytes.now) (written c)
