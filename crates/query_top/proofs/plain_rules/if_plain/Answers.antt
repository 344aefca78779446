use Rattle.std.proofs.Common.{arith, inr, refl}
use Rattle.query_top.proofs.plain_rules.if_plain.Goals as goal

pub plain_fault-requires : goal.plain_fault-requires
plain_fault-requires c = omega (arith, c.requires.2.1.short)

pub returns-in-None : goal.returns-in-None
returns-in-None c = (c.requires.0, c.requires.1, (c.requires.2, c.in-None.ensures.plain))

pub returns-in-Some : goal.returns-in-Some
returns-in-Some c =
    inr (c.requires.0, c.requires.2, record { number = _; why = _; fault = c.in-Some.ensures.fault; told = rw c.name.ensures refl })
