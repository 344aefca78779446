use Rattle.std.proofs.Common.{◌≡◌, ◌-◌}
use Rattle.nft_text.specs.Text.{prefix_from, range_prefix}
use Rattle.nft_text.proofs.address.range_prefix.Given as goal

abbrev pub invariant-loop-len : goal.invariant-loop-len
invariant-loop-len l = prefix_from l.range (33 - l.len) l.len ≡ range_prefix l.range
