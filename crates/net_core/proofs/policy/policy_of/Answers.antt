use Rattle.std.proofs.Common.{◌≡◌, List, sym, ◌∙◌, ap, subst}
use Rattle.std.specs.Prelude.{All, IsTrue}
use Rattle.flow_set.specs.Conditions.{IsFirst, IsGreatest}
use Rattle.flow_set.specs.FlowSet.{SetOfFlows}
use Rattle.flow_set.specs.declared.flow.Flow.{Flow}
use Rattle.inv_any.specs.declared.any_inv.AnyInv.{AnyInv}
use Rattle.permit_core.specs.Policy.{AllHold}
use Rattle.net_core.specs.Policies.{holds_on, edge_mark}
use Rattle.net_core.proofs.policy.policy_of.Goals as goal

-- The result for the invariants and flows that were read is the result for those of the description.
of_the_same : (Singles : (List Flow → Type 0) → List Flow → List Flow → Type 0) (invs read : List AnyInv) (asked had : SetOfFlows) (p : List Flow)
    → read ≡ invs → had ≡ asked → Singles (AllHold holds_on read) had.flows p → Singles (AllHold holds_on invs) asked.flows p
of_the_same Singles invs read asked had p same_invs same_asked found =
    subst (λ (s : SetOfFlows). Singles (AllHold holds_on invs) s.flows p) same_asked
    (subst (λ (xs : List AnyInv). Singles (AllHold holds_on xs) had.flows p) same_invs found)

pub returns-clause-policy : goal.returns-clause-policy
returns-clause-policy c =
    let size = c.in_ok-permitted.ensures.size ∙ ap (λ (s : SetOfFlows). s.size) c.asked.ensures.value in
    record {
      permitted_size = size;
      stateful_size = c.in_ok-stateful.ensures.size ∙ size;
      permitted =
          of_the_same IsFirst c.args.description.now.invariants c.invariants.result.now c.args.description.now.asked c.asked.result.now _
          c.invariants.ensures.value c.asked.ensures.value c.in_ok-permitted.ensures.first;
      stateful = c.in_ok-stateful.ensures.stateful;
    }

pub returns-clause-greatest : goal.returns-clause-greatest
returns-clause-greatest c alone =
    of_the_same IsGreatest c.args.description.now.invariants c.invariants.result.now c.args.description.now.asked c.asked.result.now _
    c.invariants.ensures.value c.asked.ensures.value
    (c.in_ok-permitted.ensures.greatest (subst (λ (invs : List AnyInv). All (λ inv. IsTrue (edge_mark inv)) invs) (sym c.invariants.ensures.value) alone))
