-- The rows of the full set: the row of a host has every other host.
use Rattle.std.proofs.Common.{◌≡◌, ◌≢◌, ℕ, ◌<◌, ◌≤◌, true, not, ◌&&◌, nat_eq, nat_lt, List, length, sym, ◌∙◌, ap, arith}
use Rattle.std.specs.Prelude.{IsTrue}
use Rattle.std.specs.FinSet as set
use Rattle.std.proofs.lemmas.Bool.Decides.{nat_tests}
use Rattle.flow_set.specs.declared.flow.Flow.{Flow}
use Rattle.flow_set.specs.EveryFlow.{every_flow}
use Rattle.flow_set.specs.HostSet.{HostNumbers, hosts_below}
use Rattle.flow_set.specs.inner.BitRows.{marks, flows_of, AreRows}
use Rattle.flow_set.specs.inner.HostSet.{row_of}
use Rattle.flow_set.specs.laws.HostSetLaws.{contains-remove, contains-hosts_below}
use Rattle.flow_set.proofs.BitRows.{has-flows_of, IsFlowSet-flows_of, marked_flow}
use Rattle.flow_set.proofs.EveryFlowLaws.{every_flow_is}

-- Every host below n except this one.
abbrev pub others : ℕ → ℕ → HostNumbers
others n host = set.remove (hosts_below n (λ _. true)) host

-- The rows of the first k hosts.
pub record AreOthers (n k : ℕ) (hosts : List HostNumbers) : Type 0 where
  pub counted : length hosts ≡ k
  pub rows : (i : ℕ) → i < k → row_of hosts i ≡ others n i

marks-others : (n : ℕ) (rows : List HostNumbers) (f : Flow) → AreOthers n n rows → f.from < n
    → marks rows f ≡ (not (nat_eq f.to f.from) && (nat_lt f.to n && true))
marks-others n rows f are within =
    ap (λ (s : HostNumbers). set.contains s f.to) (are.rows f.from within) ∙ contains-remove (hosts_below n (λ _. true)) f.from f.to
    ∙ ap (λ b. not (nat_eq f.to f.from) && b) (contains-hosts_below n (λ _. true) f.to)

ends : (n from to : ℕ) → IsTrue (not (nat_eq to from) && (nat_lt to n && true)) → (to < n) × (from ≢ to)
ends n from to marked = (grind (arith, nat_tests, marked), λ same. grind (arith, nat_tests, marked, same))

marked : (n from to : ℕ) → to < n → from ≢ to → (not (nat_eq to from) && (nat_lt to n && true)) ≡ true
marked n from to within other = grind (arith, nat_tests)

pub AreRows-others : (n : ℕ) (rows : List HostNumbers) → n ≤ 256 → AreOthers n n rows → AreRows n rows
AreRows-others n rows small are = record {
  small = small;
  counted = are.counted;
  flows = λ f within shown. ends n f.from f.to (sym (marks-others n rows f are within) ∙ shown);
}

pub flows_of-others : (n : ℕ) (rows : List HostNumbers) → n ≤ 256 → AreOthers n n rows → flows_of rows n ≡ every_flow n
flows_of-others n rows small are =
    let rows_are = AreRows-others n rows small are in
    every_flow_is n (flows_of rows n) (IsFlowSet-flows_of n rows rows_are) (λ f. (
      λ there. marked_flow n rows f rows_are (sym (has-flows_of n rows f rows_are) ∙ there),
      λ is_flow. has-flows_of n rows f rows_are ∙ marks-others n rows f are is_flow.0 ∙ marked n f.from f.to is_flow.1 is_flow.2,
    ))
