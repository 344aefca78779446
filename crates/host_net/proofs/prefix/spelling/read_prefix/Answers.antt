use Rattle.std.proofs.Common.{◌∙◌}
use Rattle.host_net.proofs.PrefixStepsLemmas.{by_parts_same}
use Rattle.host_net.proofs.PrefixTextLaws.{prefix_of-IfSome, prefix_of-read}
use Rattle.host_net.proofs.prefix.spelling.read_prefix.Goals as goal

pub returns-clause-exact : goal.returns-clause-exact
returns-clause-exact c = c.read_parts.ensures ∙ by_parts_same c.args.text.now

pub returns-clause-spelled : goal.returns-clause-spelled
returns-clause-spelled c = prefix_of-IfSome c.args.text.now c.read_parts.result (c.read_parts.ensures ∙ by_parts_same c.args.text.now)

pub returns-clause-read : goal.returns-clause-read
returns-clause-read c = λ p fits spelling.
    c.read_parts.ensures ∙ by_parts_same c.args.text.now ∙ prefix_of-read c.args.text.now p fits spelling
