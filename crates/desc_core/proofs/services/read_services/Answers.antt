use Rattle.std.proofs.Common.{map, sym, ◌∙◌}
use Rattle.std.proofs.lemmas.Result.{err_from_is_err_and}
use Rattle.desc_core.proofs.ServicesLemmas.{all_at_last, at_first, bad_here, left_here, many_at_last, none_here, none_left, one_added}
use Rattle.desc_form.specs.inner.RawView.{flow_view}
use Rattle.desc_core.proofs.services.read_services.Goals as goal

pub loop-index-init : goal.loop-index-init
loop-index-init c = rw c.new-services.ensures (at_first c.args.flows.now (map flow_view c.args.written.now) c.requires.different)

pub add_services-requires : goal.add_services-requires
add_services-requires c =
    none_here
    (left_here c.loop-index.services c.loop-index.index c.args.flows.now c.args.written.now c.index-written-index.result c.requires.beside c.loop-index-test.true c.index-written-index.is c.loop-index.invariant)

pub loop-index-preserved : goal.loop-index-preserved
loop-index-preserved c =
    one_added c.add_services.new.services
    (left_here c.loop-index.services c.loop-index.index c.args.flows.now c.args.written.now c.index-written-index.result c.requires.beside c.loop-index-test.true c.index-written-index.is c.loop-index.invariant)
    c.in_ok-add_services.ensures.added c.in_ok-add_services.ensures.bad

pub returns-in_err-add_services : goal.returns-in_err-add_services
returns-in_err-add_services c =
    let p = err_from_is_err_and c.from_residual.result c.from_residual.ensures.1 in
    rw (p.1, p.2) (bad_here c.in_err-add_services.field-0.0
    (left_here c.loop-index.services c.loop-index.index c.args.flows.now c.args.written.now c.index-written-index.result c.requires.beside c.loop-index-test.true c.index-written-index.is c.loop-index.invariant)
    c.in_err-add_services.ensures.bad)

pub returns-in-Some : goal.returns-in-Some
returns-in-Some c =
    many_at_last c.in-Some.refusal
    (none_left c.loop-index.services c.loop-index.index c.args.flows.now c.args.written.now c.requires.beside c.loop-index-test.false c.loop-index.invariant)
    (sym c.many_services.ensures ∙ c.in-Some.is)

pub returns-in-None : goal.returns-in-None
returns-in-None c =
    all_at_last
    (none_left c.loop-index.services c.loop-index.index c.args.flows.now c.args.written.now c.requires.beside c.loop-index-test.false c.loop-index.invariant)
    (sym c.many_services.ensures ∙ c.in-None.is)
