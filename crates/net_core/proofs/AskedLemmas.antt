-- Adding a flow that is requested already, or removing one that is not; and a change that is undone.
use Rattle.std.proofs.Common.{◌≡◌, Bool, true, false, not, refl, ap, sym, subst, ◌∙◌}
use Rattle.std.specs.Bool.{beq}
use Rattle.std.proofs.lemmas.Bool.{false≢true}
use Rattle.std.specs.Prelude.{IsFalse, IsTrue}
use Rattle.flow_set.specs.laws.FlowLaws.{with_flow-without_flow, with_flow_there, without_flow-with_flow, without_flow_absent}
use Rattle.flow_set.specs.FlowSet.{IsOrdered, has}
use Rattle.flow_set.specs.declared.flow.Flow.{Flow}
use Rattle.net_core.specs.inner.Asking.{asking, asking_where}
use Rattle.net_core.specs.Network.{Network}
use Rattle.net_core.specs.inner.Policed.{IsEvaluation, Policed, policy_in}
use Rattle.net_core.specs.declared.evaluation.Evaluation.{Evaluation}

pub asked_already : (asked : Bool) (d : Network) (f : Flow) → IsOrdered d.asked.flows → has d.asked.flows f ≡ asked → d ≡ asking_where asked d f
asked_already true d f ordered there = ap (asking d) (sym (with_flow_there d.asked.flows f ordered there))
asked_already false d f ordered absent = ap (asking d) (sym (without_flow_absent d.asked.flows f absent))

pub undone : (asked : Bool) (d next back : Network) (f : Flow) → IsOrdered d.asked.flows → has d.asked.flows f ≡ not asked
    → next ≡ asking_where asked d f → back ≡ asking_where (not asked) next f → back ≡ d
undone true d next back f ordered fresh there here =
    here ∙ ap (λ (n : Network). asking_where false n f) there ∙ ap (asking d) (without_flow-with_flow d.asked.flows f ordered fresh)
undone false d next back f ordered old there here =
    here ∙ ap (λ (n : Network). asking_where true n f) there ∙ ap (asking d) (with_flow-without_flow d.asked.flows f ordered old)

-- The same network with the same policy.
pub policed_again : (d e : Network) (j k : Evaluation) (p : Policed) → e ≡ d → k ≡ j → record { network = d; policy = policy_in j } ≡ p
    → record { network = e; policy = policy_in k } ≡ p
policed_again d e j k p same kept is = (λ i. record { network = same i; policy = policy_in (kept i) }) ∙ is

pub judged_again : (d e : Network) (j k : Evaluation) → e ≡ d → k ≡ j → IsEvaluation d j → IsEvaluation e k
judged_again d e j k same kept is = subst (λ (n : Network). IsEvaluation n k) (sym same) (subst (λ (i : Evaluation). IsEvaluation d i) (sym kept) is)

-- ---- tests

pub same_test : (a b : Bool) → beq a b ≡ true → a ≡ b
same_test true true same = refl
same_test false false same = refl
same_test true false same = cc
same_test false true same = cc

pub other_test : (a b : Bool) → beq a b ≡ false → a ≡ not b
other_test true true other = cc
other_test false false other = cc
other_test true false other = refl
other_test false true other = refl

pub fresh_where : (asked there : Bool) → there ≡ not asked → IsTrue asked → IsFalse there
fresh_where true there other is = other
fresh_where false there other is = absurd (false≢true is)

pub denied_so : (b : Bool) (Passes : Type 0) → IsTrue (not b) → (Passes → IsTrue b) → Passes → ⊥
denied_so true Passes denied says passes = false≢true denied
denied_so false Passes denied says passes = false≢true (says passes)

pub absent_so : (b c : Bool) → b ≡ c → IsTrue (not b) → IsFalse c
absent_so true c same denied = absurd (false≢true denied)
absent_so false c same denied = sym same
