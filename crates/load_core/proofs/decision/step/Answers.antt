use Rattle.std.proofs.Common.{rules}
use Rattle.load_core.proofs.HistoryLaws.{leads, one_of_two, removes}
use Rattle.load_core.proofs.decision.step.Goals as goal

pub returns-then-not-is_pending-clause-one_of_two : goal.returns-then-not-is_pending-clause-one_of_two
returns-then-not-is_pending-clause-one_of_two c = one_of_two

pub returns-then-not-has_table-clause-one_of_two : goal.returns-then-not-has_table-clause-one_of_two
returns-then-not-has_table-clause-one_of_two c = one_of_two

pub returns-clause-one_of_two : goal.returns-clause-one_of_two
returns-clause-one_of_two c = one_of_two

pub returns-clause-exact : goal.returns-clause-exact
returns-clause-exact c = search rules

pub returns-clause-leads : goal.returns-clause-leads
returns-clause-leads c = λ history text read. leads c.args.event text history c.args.state c.match-event.orders.items read (returns-clause-exact c)

pub returns-clause-removes : goal.returns-clause-removes
returns-clause-removes c = λ history read. removes c.args.event history c.args.state c.match-event.orders.items read (returns-clause-exact c)
