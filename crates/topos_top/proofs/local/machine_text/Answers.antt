use Rattle.std.proofs.Common.{refl}
use Rattle.topos_top.proofs.local.machine_text.Goals as goal

pub returns-in_ok-rules-in-Chains : goal.returns-in_ok-rules-in-Chains
returns-in_ok-rules-in-Chains c = rw c.in-Chains.is (c.in_ok-rules-in-Chains.rules, c.in_ok-rules-in-Chains.ensures.layout, refl)

pub returns-in_ok-local_table_text-in-Table : goal.returns-in_ok-local_table_text-in-Table
returns-in_ok-local_table_text-in-Table c = rw c.in-Table.is c.in_ok-local_table_text-in-Table.ensures
