use Rattle.std.proofs.Common.{◌++◌, ◌∙◌, List, ℕ, ap, length, subst}
use Rattle.flow_set.specs.inner.FlowSetView.{IsFlowSet}
use Rattle.why_json.specs.WhyJson.{network_json}
use Rattle.why_json.proofs.GapLaws.{gaps_permitted}
use Rattle.why_json.proofs.OneAnswerLaws.{network_is_one}
use Rattle.why_json.proofs.network.network_json.Goals as goal

pub returns-clause-text : goal.returns-clause-text
returns-clause-text c =
    let d = c.args.description.now in
    let policy = c.args.policy.now in
    record {
      offences = c.in_ok-offences.offences.items;
      are_offences = c.in_ok-offences.ensures.offences;
      denials = c.in_ok-denied.denied.items;
      are_denials = c.in_ok-denied.ensures.denials;
      answer_denials = c.in_ok-without_answers.without_answers.items;
      are_answer_denials = c.in_ok-without_answers.ensures.denials;
      written =
          c.in_ok-push_network.ensures
          ∙ ap (λ (t : List ℕ). t ++ network_json d policy c.deref.result.now c.deref-2.result.now c.deref-3.result.now) c.new-text.ensures.items
          ∙ (λ i. network_json d policy (c.deref.ensures.value i) (c.deref-2.ensures.value i) (c.deref-3.ensures.value i));
    }

pub returns-clause-gaps : goal.returns-clause-gaps
returns-clause-gaps c is =
    let d = c.args.description.now in
    let asked : IsFlowSet (length d.hosts) d.asked.flows = subst (λ n. IsFlowSet n d.asked.flows) c.asked.ensures.size c.asked.ensures.set in
    gaps_permitted d c.args.policy.now is.denials c.invariants.ensures.sizes asked c.requires is.are_denials

pub returns-clause-one : goal.returns-clause-one
returns-clause-one c other also = network_is_one c.args.description.now c.args.policy.now other c.push_network.new.text.items also (returns-clause-text c)
