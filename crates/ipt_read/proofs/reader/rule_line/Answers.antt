use Rattle.std.proofs.Common.{◌∷◌, sym, ◌∙◌}
use Rattle.ipt_read.proofs.WithinLaws.{rule_line_is}
use Rattle.ipt_read.proofs.reader.rule_line.Goals as goal

pub add_rule-requires-clause-parts : goal.add_rule-requires-clause-parts
add_rule-requires-clause-parts c =
    rule_line_is c.args.state.chains (c.args.word.now ∷ c.args.rest) c.in-Ok.chain c.in-Ok.rule (sym c.rule_line_of.ensures ∙ c.in-Ok.is)
