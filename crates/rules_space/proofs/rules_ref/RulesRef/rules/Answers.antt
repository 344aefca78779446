use Rattle.rules_space.proofs.RulesLaws.{chains_give, table_gives}
use Rattle.rules_space.proofs.rules_ref.RulesRef.rules.Goals as goal

pub returns-in-Ipt : goal.returns-in-Ipt
returns-in-Ipt c = record { gives = rw c.in-Ipt.is (chains_give c.in-Ipt.rules.now c.rules.ensures.deterministic) }

pub returns-in-Ofp : goal.returns-in-Ofp
returns-in-Ofp c = record { gives = rw c.in-Ofp.is (table_gives c.in-Ofp.table.now c.len.ensures.table) }
