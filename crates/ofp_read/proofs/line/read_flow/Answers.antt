use Rattle.std.proofs.Common.{◌≡◌, ◌<◌, length, sym, ◌∙◌, rules, tests}
use Rattle.std.specs.Prelude.{Err}
use Rattle.ofp_read.proofs.LineLaws.{at_start, next_piece, behind_shorter, told_end, told_bad, told_action}
use Rattle.ofp_read.proofs.line.read_flow.Goals as goal

pub loop-rest-init : goal.loop-rest-init
loop-rest-init c = at_start c.args.line.now

pub loop-rest-preserved : goal.loop-rest-preserved
loop-rest-preserved c =
    next_piece _ _ _ _ _ _ (search (rules, tests)) c.loop-rest.invariant c.cut_piece.ensures (search (rules, tests))

pub loop-rest-smaller : goal.loop-rest-smaller
loop-rest-smaller c = behind_shorter _ _ _ (search (rules, tests)) c.cut_piece.ensures

pub returns-then-begins_action-clause-ok : goal.returns-then-begins_action-clause-ok
returns-then-begins_action-clause-ok c =
    let some : 0 < length c.loop-rest.rest.now = search (rules, tests) in
    (told_action c.args.line.now c.loop-rest.rest.now c.loop-rest.given c.read_action.result c.with_action.result some c.loop-rest.invariant
    (sym c.begins_action.ensures ∙ c.if-begins_action.true) c.read_action.ensures c.with_action.ensures).0

pub returns-then-begins_action-clause-err : goal.returns-then-begins_action-clause-err
returns-then-begins_action-clause-err c =
    let some : 0 < length c.loop-rest.rest.now = search (rules, tests) in
    (told_action c.args.line.now c.loop-rest.rest.now c.loop-rest.given c.read_action.result c.with_action.result some c.loop-rest.invariant
    (sym c.begins_action.ensures ∙ c.if-begins_action.true) c.read_action.ensures c.with_action.ensures).1

pub returns-in_err-given-clause-err : goal.returns-in_err-given-clause-err
returns-in_err-given-clause-err c =
    let some : 0 < length c.loop-rest.rest.now = search (rules, tests) in
    let told : c.from_residual.result ≡ Err c.in_err-given.field-0.0 = search (rules, tests) in
    told_bad c.args.line.now c.loop-rest.rest.now _ _ c.loop-rest.given c.in_err-given.field-0.0 c.from_residual.result some
    c.loop-rest.invariant (sym c.begins_action.ensures ∙ c.if-begins_action.false) c.cut_piece.ensures
    (sym c.with_piece.ensures ∙ c.in_err-given.was) told

pub returns-clause-err : goal.returns-clause-err
returns-clause-err c =
    let none : length c.loop-rest.rest.now ≡ 0 = search (rules, tests) in
    told_end c.args.line.now c.loop-rest.rest.now c.loop-rest.given none c.loop-rest.invariant
