use Rattle.std.proofs.Common.{◌≡◌, ◌∙◌, false, arith, length, sym}
use Rattle.std.specs.Prelude.{nat_lt}
use Rattle.std.proofs.lemmas.Bool.Decides.{nat_tests}
use Rattle.nft_flows.proofs.SearchLaws.{found_or_not, none_found}
use Rattle.nft_flows.proofs.search.is_among.Goals as goal

pub returns-then-index-rules : goal.returns-then-index-rules
returns-then-index-rules c =
    c.is_same.ensures
    ∙ found_or_not c.args.rule c.args.rules.now c.index_of-index.result _ c.requires c.index_of-index.ensures.0 c.index_of-index.ensures.1
    c.if-index-rules.true

pub returns-else-index-rules : goal.returns-else-index-rules
returns-else-index-rules c =
    let past : nat_lt c.index_of-index.result (length c.args.rules.now) ≡ false = grind (arith, nat_tests, c.if-index-rules.false) in
    past ∙ sym (none_found c.args.rule c.args.rules.now c.index_of-index.result c.index_of-index.ensures.0 c.if-index-rules.false)
