use Rattle.std.proofs.lemmas.Result.{err_from_is_err_and}
use Rattle.edit_core.specs.inner.EditView.{edit_view}
use Rattle.std.proofs.Common.{◌+◌, map}
use Rattle.edit_core.proofs.RunLemmas.{all_told, cause_now, led_next, pushed_one, rest_next, stops_for_memory, stops_here, told_next}
use Rattle.edit_core.specs.inner.Kept.{table_of}
use Rattle.edit_core.specs.Runs.{after_edits}
use Rattle.edit_core.proofs.session.Session.apply_all.Goals as goal

pub returns-in_err-summary-clause-refused : goal.returns-in_err-summary-clause-refused
returns-in_err-summary-clause-refused c =
    let p = err_from_is_err_and c.from_residual.result c.from_residual.ensures.1 in
    rw (p.1, p.2)
    (cause_now c.args.edits.now c.loop-edit.edit-index c.edit-item.result (table_of c.loop-edit.self)
    (after_edits (map edit_view c.args.edits.now) (table_of c.args.self.now)) c.in_err-summary.field-0.0 c.loop-edit-test.true c.edit-item.is
    c.in_err-summary.ensures.refused c.loop-edit.invariant.rest)

pub returns-in_err-summary-clause-stopped : goal.returns-in_err-summary-clause-stopped
returns-in_err-summary-clause-stopped c =
    let p = err_from_is_err_and c.from_residual.result c.from_residual.ensures.1 in
    rw (p.1, p.2)
    (stops_here c.args.edits.now c.loop-edit.edit-index c.edit-item.result (table_of c.args.self.now) (table_of c.loop-edit.self) (table_of c.step.new.self)
    c.in_err-summary.field-0.0 c.loop-edit-test.true c.edit-item.is c.loop-edit.invariant.led c.in_err-summary.ensures.kept c.in_err-summary.ensures.refused)

pub returns-then-is_err-clause-stopped : goal.returns-then-is_err-clause-stopped
returns-then-is_err-clause-stopped c =
    stops_for_memory c.args.edits.now (c.loop-edit.edit-index + 1) (table_of c.args.self.now) (table_of c.step.new.self)
    (led_next c.args.edits.now c.loop-edit.edit-index c.edit-item.result (table_of c.args.self.now) (table_of c.loop-edit.self) (table_of c.step.new.self)
    c.loop-edit-test.true c.edit-item.is c.loop-edit.invariant.led c.in_ok-summary.ensures.table)

pub loop-edit-preserved : goal.loop-edit-preserved
loop-edit-preserved c = record {
  led =
      led_next c.args.edits.now c.loop-edit.edit-index c.edit-item.result (table_of c.args.self.now) (table_of c.loop-edit.self) (table_of c.step.new.self)
      c.loop-edit-test.true c.edit-item.is c.loop-edit.invariant.led c.in_ok-summary.ensures.table;
  rest =
      rest_next c.args.edits.now c.loop-edit.edit-index c.edit-item.result (table_of c.loop-edit.self) (table_of c.step.new.self)
      (after_edits (map edit_view c.args.edits.now) (table_of c.args.self.now)) c.loop-edit-test.true c.edit-item.is c.in_ok-summary.ensures.table
      c.loop-edit.invariant.rest;
  told =
      told_next c.args.edits.now c.loop-edit.edit-index c.edit-item.result (table_of c.loop-edit.self) (table_of c.step.new.self) (table_of c.args.self.now)
      c.in_ok-summary.summary c.loop-edit.told.items c.push.new.self.items c.loop-edit-test.true c.edit-item.is c.in_ok-summary.ensures.table
      c.in_ok-summary.ensures.summary
      (pushed_one c.push.result c.is_err.result c.loop-edit.told.items c.push.new.self.items c.in_ok-summary.summary c.is_err.ensures.value c.if-is_err.false
      c.push.ensures.items)
      c.loop-edit.invariant.told;
}

pub returns-clause-summaries : goal.returns-clause-summaries
returns-clause-summaries c =
    all_told c.args.edits.now c.loop-edit.edit-index (table_of c.loop-edit.self) (table_of c.args.self.now) c.loop-edit.told.items c.loop-edit-test.false
    c.loop-edit.invariant.told
