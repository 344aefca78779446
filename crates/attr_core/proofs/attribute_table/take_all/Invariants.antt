use Rattle.std.proofs.Common.{◌≡◌, length, map, take}
use Rattle.attr_core.specs.Forms.{says}
use Rattle.attr_core.specs.inner.AssignView.{given_of}
use Rattle.attr_core.specs.inner.Walks.{defaults}
use Rattle.attr_core.proofs.AssignWalk.{IsWalked}
use Rattle.attr_core.proofs.attribute_table.take_all.Given as goal

abbrev pub invariant-loop-place : goal.invariant-loop-place
invariant-loop-place g l = record {
  sized : length (g.T.AttributeTable.attributes l.taken) ≡ length l.hosts;
  keeps : g.T.AttributeTable.keeps (take l.place (map given_of l.assigns)) l.taken;
  walked : IsWalked (says g.T.AttributeTable.form l.hosts) (defaults g.T.AttributeTable.form (length l.hosts)) (map given_of l.assigns) l.place (g.T.AttributeTable.attributes l.taken);
}
