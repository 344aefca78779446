-- The remaining tests with one more flow: of the hosts that it lets reach more, or that it joins.
use Rattle.std.proofs.Common.{◌≡◌, ℕ, ◌+◌, ◌<◌, ◌≤◌, ◌↔◌, ◌∙◌, List, inl, inr, sym, arith}
use Rattle.std.specs.Prelude.{IsFalse, IsTrue}
use Rattle.std.specs.FinSet as set
use Rattle.std.proofs.lemmas.Bool.{both_ways, cases_Bool, cases_eq, cases_lt}
use Rattle.flow_set.specs.declared.flow.Flow.{Flow}
use Rattle.flow_set.specs.FlowSet.{with_flow}
use Rattle.flow_set.specs.HostSet.{HostNumbers}
use Rattle.reach_core.specs.Walks.{Reaches, Joined, has_either}
use Rattle.reach_core.specs.laws.WalkLaws.{HasWalk-append}
use Rattle.reach_core.specs.laws.ReachLaws.{Joined-back}
use Rattle.tmpl_reach.specs.inner.EachOf.{EachOf}
use Rattle.tmpl_reach.specs.inner.Interferences.{HasOneAtMost, IsNextInterfering, NoneInterferes, StaysIsolated}
use Rattle.tmpl_reach.specs.NonInterference.{IsInterfering, IsNonInterfering}
use Rattle.tmpl_reach.specs.declared.non_interference.Interference.{Interference}

-- A property that holds for each host of a set with one more flow holds for all hosts, if the others reach nothing new.
pub everywhere : (P : List Flow → ℕ → Type 0) (e : List Flow) (f : Flow) (hosts : HostNumbers)
    → ((s e : List Flow) (host : ℕ) → ((j : ℕ) → Reaches s host j → Reaches e host j) → P e host → P s host)
    → ((i j : ℕ) → IsFalse (set.contains hosts i) → Reaches (with_flow e f) i j → Reaches e i j)
    → ((host : ℕ) → P e host) → EachOf hosts (P (with_flow e f)) → (host : ℕ) → P (with_flow e f) host
everywhere P e f hosts fewer others held each host = elim (cases_Bool (set.contains hosts host)) [
  | inl there ↦ each host there
  | inr out ↦ fewer (with_flow e f) e host (λ j. others host j out) (held host)
]

pub still_isolated : (kinds : List Interference) (e : List Flow) (from : ℕ) (hosts : HostNumbers)
    → ((i : ℕ) → IsTrue (set.contains hosts i) ↔ Joined e from i) → ((host : ℕ) → StaysIsolated kinds e from host)
    → HasOneAtMost kinds hosts ↔ IsNonInterfering kinds e
still_isolated kinds e from hosts joined elsewhere = (
  λ one i first j apart second walk. elim (cases_Bool (set.contains hosts i)) [
    | inl there ↦
        one i j apart there ((joined j).1 (HasWalk-append (has_either e) from i j ((joined i).0 there) walk)) first second
    | inr out ↦ elsewhere i (λ walks. both_ways (set.contains hosts i) out ((joined i).1 walks)) first j apart second walk
  ],
  λ holds i j apart at_i at_j first second.
      holds i first j apart second
      (HasWalk-append (has_either e) i from j (Joined-back e from i ((joined i).0 at_i)) ((joined j).0 at_j)),
)

-- ---- at most one interfering host

pub none_of_two : (kinds : List Interference) (hosts : HostNumbers) (n : ℕ) → n ≤ 256 → EachOf hosts (λ host. host < n)
    → NoneInterferes kinds hosts 0 256 → HasOneAtMost kinds hosts
none_of_two kinds hosts n small below none i j apart at_i at_j first second =
    none i (omega arith) (omega (arith, below i at_i, small)) at_i first

pub one_of_two : (kinds : List Interference) (hosts : HostNumbers) (n first : ℕ) → n ≤ 256 → EachOf hosts (λ host. host < n)
    → IsNextInterfering kinds hosts 0 first → NoneInterferes kinds hosts (first + 1) 256 → HasOneAtMost kinds hosts
one_of_two kinds hosts n first small below next none i j apart at_i at_j marked_i marked_j =
    let is_first : (k : ℕ) → IsTrue (set.contains hosts k) → IsInterfering kinds k → k ≡ first =
    λ k at marked. elim (cases_eq k first) [
      | inl same ↦ same
      | inr other ↦ elim (cases_lt k first) [
        | inl before ↦ absurd (next.none_before k (omega arith) before at marked)
        | inr late ↦ absurd (none k (omega (arith, late, other)) (omega (arith, below k at, small)) at marked)
      ]
    ] in
    apart (is_first i at_i marked_i ∙ sym (is_first j at_j marked_j))
