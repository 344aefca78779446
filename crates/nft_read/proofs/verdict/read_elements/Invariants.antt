use Rattle.std.proofs.Common.{◌≡◌, ◌++◌, List, length, map}
use Rattle.std.specs.Option.{option_map}
use Rattle.nft_rules.specs.declared.table.Element.{Element}
use Rattle.nft_read.specs.inner.LineSteps.{elements_of, pieces}
use Rattle.nft_read.proofs.verdict.read_elements.Given as goal

abbrev pub invariant-loop-piece : goal.invariant-loop-piece
invariant-loop-piece l =
    option_map (λ (es : List Element). l.elements.items ++ es) (elements_of (map (λ n. n.items) l.names.keys) (pieces l.rest))
    ≡ elements_of (map (λ n. n.items) l.names.keys) (pieces l.text)

abbrev pub decreases-loop-piece : goal.decreases-loop-piece
decreases-loop-piece l = length l.rest
