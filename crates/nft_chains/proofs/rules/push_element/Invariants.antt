use Rattle.std.proofs.Common.{◌≡◌, ◌++◌, drop, map}
use Rattle.nft_chains.specs.Translation.{prefix_rule}
use Rattle.nft_chains.proofs.rules.push_element.Given as goal

abbrev pub invariant-loop-prefix : goal.invariant-loop-prefix
invariant-loop-prefix l =
    l.rules.items ++ map (prefix_rule l.end l.target) (drop l.prefix-index l.prefix-items)
    ≡ l.fn.rules.items ++ map (prefix_rule l.end l.target) l.prefix-items
