use Rattle.ipt_plain.proofs.PlainLaws.{plain_if_none, none_if_plain, fault_if_some}
use Rattle.ipt_plain.proofs.text.plain_fault.Goals as goal

pub returns-clause-plain : goal.returns-clause-plain
returns-clause-plain c = plain_if_none c.args.bytes.now c.first_fault.result c.first_fault.ensures

pub returns-clause-only : goal.returns-clause-only
returns-clause-only c = none_if_plain c.args.bytes.now c.first_fault.result c.first_fault.ensures

pub returns-clause-fault : goal.returns-clause-fault
returns-clause-fault c = fault_if_some c.args.bytes.now c.first_fault.result c.first_fault.ensures
