-- The laws of the bound.
use Rattle.std.proofs.Common.{◌≡◌, ℕ, ◌<◌, ◌≤◌, Bool, ◌==◌, List, [], ◌∷◌, length, set, sym, ◌∙◌, arith}
use Rattle.std.specs.Prelude.{IsTrue}
use Rattle.std.proofs.lemmas.Bool.{and_parts, and_from}
use Rattle.std.proofs.lemmas.Bool.Decides.{nat_tests}
use Rattle.std.proofs.lemmas.List.{length-set}
use Rattle.flow_set.specs.declared.flow.Flow.{Flow}
use Rattle.flow_set.specs.FlowSet.{has, IsSubset}
use Rattle.flow_set.specs.inner.Downward.{IsDownwardClosed}
use Rattle.flow_set.specs.laws.FlowLaws.{has_nothing, has-filter, IsOrdered-filter}
use Rattle.flow_set.specs.laws.WalkLaws.{length-IsSubset}
use Rattle.inv_law.specs.laws.AttributeLaws.{get_or-set_default}
use Rattle.inv_law.specs.inner.Invariants.{ResetPreservesViolation}
use Rattle.inv_law.specs.declared.strategy.Strategy.TheVariants.{Access}
use Rattle.out_limit.specs.inner.OutLimit.{sent_by, KeepsLimits}

pub KeepsLimits-downward : (n : ℕ) (limits : List ℕ) → IsDownwardClosed n (KeepsLimits limits)
KeepsLimits-downward n limits e s is_set sub keeps host below =
    let sends : Flow → Bool = λ f. f.from == host in
    let within : IsSubset (sent_by host s) (sent_by host e) = record {
      ordered = IsOrdered-filter sends s sub.ordered;
      within = λ f there.
          let parts = and_parts _ _ (sym (has-filter sends s f) ∙ there) in
          has-filter sends e f ∙ and_from _ _ (sub.within f parts.0) parts.1;
    } in
    let fewer : length (sent_by host s) ≤ length (sent_by host e) =
    length-IsSubset (sent_by host s) (sent_by host e) within (IsOrdered-filter sends e is_set.ordered) in
    omega (arith, fewer, keeps host below)

pub KeepsLimits-nothing : (limits : List ℕ) → KeepsLimits limits []
KeepsLimits-nothing limits host below = omega arith

equal : (a b : ℕ) → a ≡ b → IsTrue (a == b)
equal a b same = grind (arith, nat_tests, same)

some_element : (xs : List Flow) (f : Flow) → IsTrue (has xs f) → 0 < length xs
some_element [] f there = has_nothing f there
some_element (x ∷ xs) f there = omega arith

-- With the default bound 0 an offending host, which sends a flow, still exceeds its bound.
pub KeepsLimits-reset : (limits : List ℕ)
    → ResetPreservesViolation (length limits) Access (KeepsLimits limits) (λ host. KeepsLimits (set limits host 0))
KeepsLimits-reset limits e f host is_set minimal offending keeps =
    let g : Flow = offending.flow in
    let there : IsTrue (has e g) = minimal.within.within g offending.offends in
    let blamed : g.from ≡ host = offending.blamed in
    let sends : IsTrue (has (sent_by host e) g) = has-filter (λ h. h.from == host) e g ∙ and_from _ _ there (equal g.from host blamed) in
    let below : host < length (set limits host 0) = omega (arith, length-set limits host 0, blamed, (is_set.flows g there).0) in
    omega (arith, some_element (sent_by host e) g sends, keeps host below, get_or-set_default limits host 0)
