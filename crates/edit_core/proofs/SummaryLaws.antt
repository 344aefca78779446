-- A description has one summary, and a sequence of edits has one list of summaries.
use Rattle.std.proofs.Common.{◌≡◌, ℕ, Bool, true, false, List, [], ◌∷◌, filter, length, refl, sym, ap, subst, ◌∙◌}
use Rattle.std.specs.Prelude.{◌↔◌, IsFalse}
use Rattle.std.specs.List.{AllZip}
use Rattle.edit_core.specs.Runs.{AreSummaries}
use Rattle.edit_core.specs.Summaries.{IsSummary, Summarizes}
use Rattle.edit_core.specs.declared.summary.Summary.{Summary}
use Rattle.edit_core.specs.Edit.{Edit}
use Rattle.flow_set.specs.declared.flow.Flow.{Flow}
use Rattle.inv_any.specs.declared.any_inv.AnyInv.{AnyInv}
use Rattle.net_core.specs.Network.{Network}
use Rattle.net_core.specs.Policies.{IsPolicyOf, Policy, holds_on}
use Rattle.net_core.proofs.PolicyLaws.{policy_is_one}
use Rattle.net_core.specs.FailingFlows.{AreFailing}
use Rattle.toml.specs.Data.{Members}

-- ---- the number of failing invariants

mark_is_one : (P : Type 0) (a b : Bool) → (IsFalse a ↔ P) → (IsFalse b ↔ P) → a ≡ b
mark_is_one P true true p q = refl
mark_is_one P false false p q = refl
mark_is_one P true false p q = p.1 (q.0 refl)
mark_is_one P false true p q = sym (q.1 (p.0 refl))

marks_are_one : (invs : List AnyInv) (flows : List Flow) (ms ns : List Bool) → AllZip (λ inv failed. IsFalse failed ↔ holds_on inv flows) invs ms
    → AllZip (λ inv failed. IsFalse failed ↔ holds_on inv flows) invs ns → ms ≡ ns
marks_are_one [] flows [] [] p q = refl
marks_are_one [] flows (m ∷ ms) ns p q = absurd p
marks_are_one [] flows [] (n ∷ ns) p q = absurd q
marks_are_one (inv ∷ invs) flows [] ns p q = absurd p
marks_are_one (inv ∷ invs) flows (m ∷ ms) [] p q = absurd q
marks_are_one (inv ∷ invs) flows (m ∷ ms) (n ∷ ns) p q =
    let here = mark_is_one (holds_on inv flows) m n p.0 q.0 in
    let rest = marks_are_one invs flows ms ns p.1 q.1 in
    λ i. here i ∷ rest i

pub failing_is_one : (invs : List AnyInv) (flows : List Flow) (m n : ℕ) → AreFailing invs flows m → AreFailing invs flows n → m ≡ n
failing_is_one invs flows m n p q =
    p.counted ∙ ap (λ (marks : List Bool). length (filter (λ failed. failed) marks)) (marks_are_one invs flows p.marks q.marks p.each q.each) ∙ sym q.counted

-- ---- summaries

told_once : (d : Network) (policy : Policy) (s t : Summary) → Summarizes d policy s → Summarizes d policy t → s ≡ t
told_once d policy s t p q =
    let asked = p.asked ∙ sym q.asked in
    let permitted = p.permitted ∙ sym q.permitted in
    let stateful = p.stateful ∙ sym q.stateful in
    let failing = failing_is_one d.invariants d.asked.flows s.failing t.failing p.failing q.failing in
    λ i. record { asked = asked i; permitted = permitted i; stateful = stateful i; failing = failing i }

by_policy : (d : Network) (p q : Policy) (s t : Summary) → IsPolicyOf d p → IsPolicyOf d q → Summarizes d p s → Summarizes d q t → s ≡ t
by_policy d p q s t one other tells also =
    told_once d p s t tells (subst (λ (policy : Policy). Summarizes d policy t) (policy_is_one d q p other one) also)

pub summary_is_one : (table : Members) (s t : Summary) → IsSummary table s → IsSummary table t → s ≡ t
summary_is_one table s t (d, p, here, is_policy, tells) (e, q, there, is_policy_too, tells_too) =
    let network : e ≡ d = cc (here, there) in
    by_policy d p q s t is_policy (subst (λ (n : Network). IsPolicyOf n q) network is_policy_too) tells
    (subst (λ (n : Network). Summarizes n q t) network tells_too)

pub summaries_are_one : (edits : List Edit) (table : Members) (ss ts : List Summary) → AreSummaries edits table ss → AreSummaries edits table ts → ss ≡ ts
summaries_are_one [] table [] [] p q = refl
summaries_are_one [] table (s ∷ ss) ts p q = absurd p
summaries_are_one [] table [] (t ∷ ts) p q = absurd q
summaries_are_one (e ∷ es) table [] ts p q = absurd p
summaries_are_one (e ∷ es) table (s ∷ ss) [] p q = absurd q
summaries_are_one (e ∷ es) table (s ∷ ss) (t ∷ ts) (next, led, tells, rest) (other, also, tells_too, rest_too) =
    let same : other ≡ next = cc (led, also) in
    let here = summary_is_one next s t tells (subst (λ (m : Members). IsSummary m t) same tells_too) in
    let behind = summaries_are_one es next ss ts rest (subst (λ (m : Members). AreSummaries es m ts) same rest_too) in
    λ i. here i ∷ behind i
