use Rattle.std.proofs.Common.{◌+◌, ◌++◌, List, sym, ◌∙◌, ap, subst}
use Rattle.std.specs.Prelude.{option_map}
use Rattle.std.proofs.lemmas.List.{drop_all}
use Rattle.flow_set.specs.FlowSet.{SetOfFlows}
use Rattle.host_net.specs.Host.{Host}
use Rattle.inv_any.specs.declared.any_inv.AnyInv.{AnyInv}
use Rattle.permit_core.specs.Policy.{AllHold}
use Rattle.net_core.specs.Policies.{holds_on}
use Rattle.report_core.specs.CheckReport.{violation_text}
use Rattle.report_core.proofs.OffenceLemmas.{goes_next, goes_end, held_next, all_next, all_at_end}
use Rattle.report_core.proofs.ReportLaws.{offence_found}
use Rattle.report_core.proofs.check.push_offences.Goals as goal

pub loop-place-preserved : goal.loop-place-preserved
loop-place-preserved c =
    let d = c.args.description.now in
    let invs = c.invariants-invariants.result.now in
    let i = c.loop-place.place in
    let inv = c.index-invariants-place.result in
    let is = c.index-invariants-place.is in
    let found = c.in_ok-offence.offence in
    let asked = c.asked-asked.ensures.value in
    record {
      report = goes_next d c.loop-place.text.items c.push_offence.new.text.items invs i inv (option_map (λ (set : SetOfFlows). set.flows) found) c.loop-place-test.true is c.loop-place.invariant.report
          (offence_found (holds_on inv) d.asked c.asked-asked.result.now found asked c.in_ok-offence.ensures.none c.in_ok-offence.ensures.rest)
          (c.in_ok-push_offence.ensures ∙ ap (λ (hosts : List Host). c.loop-place.text.items ++ violation_text hosts (i + 1) inv (option_map (λ (set : SetOfFlows). set.flows) found)) c.hosts-hosts.ensures.value);
      held = held_next invs i inv d.asked c.asked-asked.result.now c.loop-place.holds c.is_none-holds.result found c.loop-place-test.true is asked c.is_none-holds.ensures c.in_ok-offence.ensures.none c.loop-place.invariant.held;
      all = λ meets. all_next invs i inv d.asked c.asked-asked.result.now c.loop-place.holds c.is_none-holds.result found c.loop-place-test.true is asked c.is_none-holds.ensures c.in_ok-offence.ensures.none (c.loop-place.invariant.all meets)
          (subst (λ (xs : List AnyInv). AllHold holds_on xs d.asked.flows) (sym c.invariants-invariants.ensures.value) meets);
    }

pub returns-clause-report : goal.returns-clause-report
returns-clause-report c =
    let invs = c.invariants-invariants.result.now in
    let i = c.loop-place.place in
    goes_end c.args.description.now c.loop-place.text.items (i + 1) _ (drop_all i invs c.loop-place-test.false) c.loop-place.invariant.report

pub returns-clause-holds : goal.returns-clause-holds
returns-clause-holds c =
    let flows = c.args.description.now.asked.flows in
    let invs = c.invariants-invariants.result.now in (
      λ held. subst (λ (xs : List AnyInv). AllHold holds_on xs flows) c.invariants-invariants.ensures.value (all_at_end invs c.loop-place.place flows c.loop-place-test.false (c.loop-place.invariant.held held)),
      c.loop-place.invariant.all,
    )
