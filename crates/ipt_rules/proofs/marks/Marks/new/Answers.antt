use Rattle.ipt_rules.proofs.MarkLemmas.{none_if}
use Rattle.ipt_rules.proofs.marks.Marks.new.Goals as goal

pub returns-clause-none : goal.returns-clause-none
returns-clause-none c = none_if c.unset.result c.deref.result.now c.unset.ensures
