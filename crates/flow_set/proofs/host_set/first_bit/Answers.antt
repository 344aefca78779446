use Rattle.std.proofs.Common.{rules, arith}
use Rattle.flow_set.proofs.FirstBits.{none_from, first_from_place}
use Rattle.flow_set.proofs.host_set.first_bit.Goals as goal

pub returns-then-left-eq0 : goal.returns-then-left-eq0
returns-then-left-eq0 c = none_from c.args.bits c.args.from c.if-left-eq0.true

pub returns : goal.returns
returns c = first_from_place c.args.bits c.args.from (search rules) (search rules) (omega (arith, c.if-left-eq0.false))
