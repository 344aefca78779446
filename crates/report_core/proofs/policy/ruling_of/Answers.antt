use Rattle.std.proofs.Common.{sym, ◌∙◌, subst}
use Rattle.std.specs.Prelude.{IsTrue}
use Rattle.std.proofs.lemmas.Bool.{false≢true}
use Rattle.flow_set.specs.FlowSet.{SetOfFlows, has}
use Rattle.net_core.specs.Policies.{MeetsAll}
use Rattle.permit_core.specs.inner.Denied.{IsDenied}
use Rattle.report_core.proofs.policy.ruling_of.Goals as goal

-- Some invariant denies a flow that is requested and not permitted.
pub returns-in-None-clause-flow_status : goal.returns-in-None-clause-flow_status
returns-in-None-clause-flow_status c =
    let d = c.args.rulings.now.description.now in
    let f = c.args.flow in
    let denied : IsDenied (MeetsAll d) c.args.rulings.now.permitted.now.flows f = record {
      asked = d.asked.flows;
      permitted = c.requires.policy.permitted;
      wanted = subst (λ (s : SetOfFlows). IsTrue (has s.flows f)) c.asked-asked.ensures.value (sym c.has-3.ensures ∙ c.if-not-has.false);
      left_out = sym c.has-2.ensures ∙ c.if-has-2.false;
    } in
    absurd (false≢true ((rw c.invariants-invariants.ensures.value at c.in-None.ensures.denied) denied))
