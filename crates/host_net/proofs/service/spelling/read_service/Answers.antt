use Rattle.std.proofs.Common.{◌∙◌}
use Rattle.host_net.proofs.ServiceTextLaws.{by_parts_same, service_of-read, service_spelled, service_none}
use Rattle.host_net.proofs.service.spelling.read_service.Goals as goal

pub returns-clause-exact : goal.returns-clause-exact
returns-clause-exact c = c.read_parts.ensures ∙ by_parts_same c.args.text.now

pub returns-clause-spelled : goal.returns-clause-spelled
returns-clause-spelled c = service_spelled c.args.text.now c.read_parts.result (c.read_parts.ensures ∙ by_parts_same c.args.text.now)

pub returns-clause-read : goal.returns-clause-read
returns-clause-read c = λ s spelling. c.read_parts.ensures ∙ by_parts_same c.args.text.now ∙ service_of-read c.args.text.now s spelling

pub returns-clause-none : goal.returns-clause-none
returns-clause-none c = service_none c.args.text.now c.read_parts.result (c.read_parts.ensures ∙ by_parts_same c.args.text.now)
