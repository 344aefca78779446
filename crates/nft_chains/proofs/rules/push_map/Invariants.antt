use Rattle.std.proofs.Common.{◌≡◌, ◌++◌, IsTrue, drop}
use Rattle.std.specs.List.{flat_map, list_all}
use Rattle.ipt_rules.specs.inner.RuleParts.{is_rule}
use Rattle.nft_chains.specs.Translation.{element_rules}
use Rattle.nft_chains.proofs.rules.push_map.Given as goal

abbrev pub invariant-loop-element : goal.invariant-loop-element
invariant-loop-element l =
    (l.rules.items ++ flat_map (element_rules l.map.end) (drop l.element-index l.map.elements.items)
    ≡ l.fn.rules.items ++ flat_map (element_rules l.map.end) l.map.elements.items)
    × IsTrue (list_all is_rule l.rules.items)
