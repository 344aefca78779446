use Rattle.std.proofs.Common.{◌≡◌, ◌++◌, length}
use Rattle.std.specs.List.{concat}
use Rattle.nft_text.specs.Text.{table_text}
use Rattle.nft_text.proofs.text.text_of.Given as goal

abbrev pub invariant-loop-length : goal.invariant-loop-length
invariant-loop-length l = l.text.items ++ concat l.pieces ≡ table_text l.table

abbrev pub decreases-loop-length : goal.decreases-loop-length
decreases-loop-length l = length l.pieces
