use Rattle.std.proofs.Common.{◌≡◌, ◌<◌, ◌+◌, List, length, sym, ◌∙◌, ap, subst, arith}
use Rattle.std.specs.FinSet as set
use Rattle.flow_set.specs.declared.flow.Flow.{Flow}
use Rattle.flow_set.specs.FlowSet.{SetOfFlows}
use Rattle.flow_set.specs.inner.FlowSetView.{first_from}
use Rattle.flow_set.specs.inner.BitRows.{flows_of, IsAsFar}
use Rattle.flow_set.specs.HostSet.{HostNumbers}
use Rattle.flow_set.specs.inner.HostSet.{row_of}
use Rattle.flow_set.specs.inner.Calls.{HasNone, IsFirstFrom}
use Rattle.flow_set.proofs.BitRows.{row_read}
use Rattle.flow_set.proofs.Onward.{found_in_row, as_far_more, none_in_rows}
use Rattle.flow_set.proofs.set.FlowSet.at_or_after.Goals as goal

pub returns-in-Some-clause-flow : goal.returns-in-Some-clause-flow
returns-in-Some-clause-flow c =
    let p : Flow = record { from = c.args.from; to = c.args.to } in
    let n = c.self.inside.size in
    let rows = c.self.inside.rows.items in
    let sender = c.loop-sender.sender in
    let start = c.loop-sender.start in
    let flows : flows_of rows n ≡ c.args.self.now.flows = ap (λ (s : SetOfFlows). s.flows) c.self.view_is in
    let far : IsAsFar (flows_of rows n) p (record { from = sender; to = start }) = subst (λ (fs : List Flow). IsAsFar fs p (record { from = sender; to = start })) (sym flows) c.loop-sender.invariant in
    let within : sender < length rows =
    omega (arith, c.loop-sender-test.true, c.size-size.ensures.size, c.self.invariant.counted, ap (λ (s : SetOfFlows). s.size) c.self.view_is) in
    let row : c.index.result.now ≡ row_of rows sender = row_read rows sender c.index.result.now within c.index.ensures in
    let is : IsFirstFrom (set.contains (row_of rows sender)) start c.in-Some.receiver =
    subst (λ (s : HostNumbers). IsFirstFrom (set.contains s) start c.in-Some.receiver) row c.in-Some.ensures in
    sym (found_in_row n rows p sender start c.in-Some.receiver c.self.invariant far is) ∙ ap (λ (fs : List Flow). first_from fs p) flows

pub loop-sender-preserved : goal.loop-sender-preserved
loop-sender-preserved c =
    let p : Flow = record { from = c.args.from; to = c.args.to } in
    let n = c.self.inside.size in
    let rows = c.self.inside.rows.items in
    let sender = c.loop-sender.sender in
    let start = c.loop-sender.start in
    let flows : flows_of rows n ≡ c.args.self.now.flows = ap (λ (s : SetOfFlows). s.flows) c.self.view_is in
    let far : IsAsFar (flows_of rows n) p (record { from = sender; to = start }) = subst (λ (fs : List Flow). IsAsFar fs p (record { from = sender; to = start })) (sym flows) c.loop-sender.invariant in
    let within : sender < length rows =
    omega (arith, c.loop-sender-test.true, c.size-size.ensures.size, c.self.invariant.counted, ap (λ (s : SetOfFlows). s.size) c.self.view_is) in
    let row : c.index.result.now ≡ row_of rows sender = row_read rows sender c.index.result.now within c.index.ensures in
    let none : HasNone (set.contains (row_of rows sender)) start 256 =
    subst (λ (s : HostNumbers). HasNone (set.contains s) start 256) row c.in_default.ensures in
    subst (λ (fs : List Flow). IsAsFar fs p (record { from = sender + 1; to = 0 })) flows
    (as_far_more n rows p sender start c.self.invariant far none)

pub returns-clause-flow : goal.returns-clause-flow
returns-clause-flow c =
    let p : Flow = record { from = c.args.from; to = c.args.to } in
    let n = c.self.inside.size in
    let rows = c.self.inside.rows.items in
    let place : Flow = record { from = c.loop-sender.sender; to = c.loop-sender.start } in
    let flows : flows_of rows n ≡ c.args.self.now.flows = ap (λ (s : SetOfFlows). s.flows) c.self.view_is in
    let far : IsAsFar (flows_of rows n) p place = subst (λ (fs : List Flow). IsAsFar fs p place) (sym flows) c.loop-sender.invariant in
    sym (none_in_rows n rows p c.loop-sender.sender c.loop-sender.start c.self.invariant far (omega (arith, c.loop-sender-test.false, c.size-size.ensures.size, ap (λ (s : SetOfFlows). s.size) c.self.view_is)))
    ∙ ap (λ (fs : List Flow). first_from fs p) flows
