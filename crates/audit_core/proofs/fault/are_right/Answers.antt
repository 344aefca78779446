use Rattle.std.proofs.Common.{ap, ◌∙◌}
use Rattle.std.specs.Prelude.{not}
use Rattle.audit_core.proofs.FaultLaws.{right_where_none}
use Rattle.audit_core.proofs.fault.are_right.Goals as goal

pub returns : goal.returns
returns c = λ right. right_where_none c.args.sides.now c.in_ok-found.found c.in_ok-found.ensures (c.is_none.ensures ∙ ap not right)
