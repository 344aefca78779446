use Rattle.std.proofs.Common.{◌∙◌, arith}
use Rattle.nft_text.proofs.RangeLaws.{prefix_end}
use Rattle.nft_text.proofs.address.range_prefix.Goals as goal

pub returns : goal.returns
returns c = prefix_end c.args.range c.loop-len.len (omega arith) ∙ c.loop-len.invariant
