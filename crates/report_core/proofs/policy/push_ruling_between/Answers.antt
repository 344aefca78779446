use Rattle.std.proofs.Common.{List, sym, subst}
use Rattle.std.proofs.lemmas.Result.{on_ok_weaker}
use Rattle.flow_set.specs.declared.flow.Flow.{Flow}
use Rattle.report_core.specs.inner.Growing.{Grows}
use Rattle.report_core.specs.inner.Rulings.{ReportsStatuses, policy_in}
use Rattle.report_core.proofs.FlowStatusLemmas.{one_flow, grows_by_one, is_within, ruling_found}
use Rattle.report_core.specs.inner.FlowStatusView.{ruling_view}
use Rattle.report_core.proofs.policy.push_ruling_between.Goals as goal

pub push_ruling_line-requires-clause-flow_status : goal.push_ruling_line-requires-clause-flow_status
push_ruling_line-requires-clause-flow_status c =
    is_within c.args.rulings.now.description.now (policy_in c.args.rulings.now) c.args.flow (ruling_view c.ruling_of-flow_status.result) c.ruling_of-flow_status.ensures.flow_status

pub returns-clause-told : goal.returns-clause-told
returns-clause-told c =
    let d = c.args.rulings.now.description.now in
    let policy = policy_in c.args.rulings.now in
    let flow = c.args.flow in
    let old = c.args.text.now.items in
    let new = c.push_ruling_line.new.text.items in
    let flow_status = ruling_view c.ruling_of-flow_status.result in
    let is_ruling = ruling_found d policy flow flow_status c.requires.policy c.ruling_of-flow_status.ensures.flow_status in
    on_ok_weaker c.push_ruling_line.result
    (λ written. subst (λ (flows : List Flow). Grows (ReportsStatuses d policy flows) old new) (sym (one_flow flow.from flow.to c.if-flow.false))
    (grows_by_one d policy flow flow_status old new is_ruling written))
    c.push_ruling_line.ensures
