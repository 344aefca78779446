use Rattle.query_top.proofs.PlainLaws.{long_plain_rules}
use Rattle.query_top.proofs.plain_rules.PlainRulesFormat.too_long.Goals as goal

pub returns : goal.returns
returns c = rw c.bad_text.ensures (λ bytes long. long_plain_rules c.args.self.now.dialect bytes long)
