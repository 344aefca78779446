use Rattle.std.proofs.Common.{◌≡◌, ◌∙◌, ap, arith, List, None, Some, sym}
use Rattle.host_net.specs.Host.{Host, host_named}
use Rattle.query_top.specs.Why.{NoReceiver}
use Rattle.run_core.specs.inner.Views.{reply_view}
use Rattle.query_top.proofs.WhyLaws.{answers_no_flow, same_host}
use Rattle.query_top.proofs.why.answer.Goals as goal

pub returns-in_default-find : goal.returns-in_default-find
returns-in_default-find c =
    let d = c.args.description.now in
    let from = c.args.from.now in
    let to = c.args.to.now in
    let hosts = c.hosts-hosts.ensures.value in
    let sender : host_named d.hosts from ≡ Some c.in-Some.sender =
    ap (λ (hs : List Host). host_named hs from) (sym hosts) ∙ ap (host_named c.hosts-hosts.result.now) (sym c.as_bytes.ensures.value) ∙ sym c.in-Some.ensures in
    let none : host_named d.hosts to ≡ None =
    ap (λ (hs : List Host). host_named hs to) (sym hosts) ∙ ap (host_named c.hosts-hosts.result.now) (sym c.as_bytes-2.ensures.value) ∙ sym c.in_default-find.ensures in
    answers_no_flow d from to c.in_ok-no_host_line-2.field-0.items (reply_view c.not_emittable-in_default-find.result)
    (NoReceiver c.in-Some.sender sender none c.in_ok-no_host_line-2.ensures) c.not_emittable-in_default-find.ensures

pub returns-then-sender-receiver : goal.returns-then-sender-receiver
returns-then-sender-receiver c =
    let d = c.args.description.now in
    let from = c.args.from.now in
    let to = c.args.to.now in
    let hosts = c.hosts-hosts.ensures.value in
    let sender : host_named d.hosts from ≡ Some c.in-Some.sender =
    ap (λ (hs : List Host). host_named hs from) (sym hosts) ∙ ap (host_named c.hosts-hosts.result.now) (sym c.as_bytes.ensures.value) ∙ sym c.in-Some.ensures in
    let receiver : host_named d.hosts to ≡ Some c.in-Some-find.receiver =
    ap (λ (hs : List Host). host_named hs to) (sym hosts) ∙ ap (host_named c.hosts-hosts.result.now) (sym c.as_bytes-2.ensures.value) ∙ sym c.in-Some-find.ensures in
    let same : c.in-Some.sender ≡ c.in-Some-find.receiver = omega (arith, c.if-sender-receiver.true) in
    answers_no_flow d from to c.in_ok-no_flow_line.field-0.items (reply_view c.not_emittable-then-sender-receiver.result)
    (same_host d.hosts from to c.in_ok-no_flow_line.field-0.items c.in-Some.sender c.in-Some-find.receiver sender receiver same c.in_ok-no_flow_line.ensures) c.not_emittable-then-sender-receiver.ensures
