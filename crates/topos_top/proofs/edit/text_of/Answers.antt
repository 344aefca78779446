use Rattle.edit_core.specs.inner.Kept.{table_of}
use Rattle.topos_top.proofs.EditLaws.{sets_are_policy}
use Rattle.topos_top.proofs.edit.text_of.Goals as goal

pub report_of_policy-requires : goal.report_of_policy-requires
report_of_policy-requires c = record {
  policy = sets_are_policy (table_of c.args.session.now) _ _ _ c.description.ensures c.permitted-permitted.ensures c.stateful-stateful.ensures;
}
