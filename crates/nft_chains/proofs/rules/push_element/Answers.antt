use Rattle.std.proofs.Common.{◌++◌, drop, map, refl}
use Rattle.nft_chains.specs.Translation.{prefix_rule}
use Rattle.nft_chains.proofs.FillLaws.{valid_front, valid_more}
use Rattle.nft_chains.proofs.PartLaws.{prefixes_valid}
use Rattle.nft_chains.proofs.rules.push_element.Goals as goal

pub returns-clause-valid : goal.returns-clause-valid
returns-clause-valid c =
    let old = c.args.rules.now.items in
    let prefixes = c.deref-prefix-items.result.now in
    let target = c.target_of-target.result in
    let more = map (prefix_rule c.args.end target) prefixes in
    valid_front c.loop-prefix.rules.items (map (prefix_rule c.args.end target) (drop c.loop-prefix.prefix-index prefixes)) (old ++ more)
    c.loop-prefix.invariant (valid_more old (old ++ more) more refl c.requires.valid (prefixes_valid c.args.end target prefixes))
