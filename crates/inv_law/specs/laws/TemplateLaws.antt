-- A template is lawful if an invariant of it is, for all attributes of the hosts.
use Rattle.std.proofs.Common.{◌<◌, ℕ, List, [], length, length-set, get_or-set_other, get_or-set_same, inl, inr, sym, subst}
use Rattle.std.specs.Prelude.{IsTrue, slice_index_or, slice_set}
use Rattle.std.proofs.lemmas.Bool.{cases_eq, false≢true}
use Rattle.flow_set.specs.inner.Downward.{IsDownwardClosed, IsEdgeWise}
use Rattle.flow_set.specs.declared.flow.Flow.{Flow}
use Rattle.inv_law.specs.laws.AttributeLaws.{ResetPassesNoMore-attributes}
use Rattle.inv_law.specs.Attributes.{PassesBetween}
use Rattle.inv_law.specs.inner.Resets.{PassesAfterReset, IsSecureDefault}
use Rattle.inv_law.specs.inner.Invariants.{ResetPreservesViolation}
use Rattle.inv_law.specs.laws.RuleLaws.{AllFlowsPass-downward, AllFlowsPass-none, AllFlowsPass-edge_wise, AllFlowsPass-reset}
use Rattle.inv_law.specs.Template.{Template, Meaning, edge_template, meaning, walk_template}
use Rattle.inv_law.specs.inner.Template.{AllMayHave}
use Rattle.inv_law.specs.declared.strategy.Strategy.{Strategy}

-- The laws of an invariant.
pub record IsLawful (m : Meaning) : Type 0 where
  pub downward : IsDownwardClosed m.size m.holds_on
  pub holds_on_none : m.holds_on []
  pub reset_preserves_violation : ResetPreservesViolation m.size m.strategy m.holds_on m.holds_after_reset
  pub mark_is_right : IsTrue m.edge_mark → IsEdgeWise m.size m.holds_on

abbrev pub IsLawfulTemplate : Template → Type 0
IsLawfulTemplate t = (hosts : List t.Attribute) → IsLawful (meaning t hosts)

-- An edge-wise template is lawful if its default is secure.
pub lawful_edge : {A : Type 0} (name : List ℕ) (strategy : Strategy) (MayHave : A → Type 0) (default : A) (Passes : A → A → Type 0)
    → IsSecureDefault strategy default Passes
    → IsLawfulTemplate (edge_template name strategy MayHave default Passes)
lawful_edge name strategy MayHave default Passes secure hosts = record {
  downward = AllFlowsPass-downward (length hosts) (PassesBetween default Passes hosts);
  holds_on_none = AllFlowsPass-none (PassesBetween default Passes hosts);
  reset_preserves_violation =
      AllFlowsPass-reset (length hosts) strategy (PassesBetween default Passes hosts) (PassesAfterReset default Passes hosts)
      (ResetPassesNoMore-attributes strategy default Passes secure (length hosts) hosts);
  mark_is_right = λ marked. AllFlowsPass-edge_wise (length hosts) (PassesBetween default Passes hosts);
}

-- A template on paths is lawful if it is downward closed, holds for the empty set, and a reset cannot hide a violation.
pub lawful_walk : {A : Type 0} (name : List ℕ) (strategy : Strategy) (MayHave : ℕ → ℕ → A → Type 0) (default : ℕ → ℕ → A) (Holds : List A → List Flow → Type 0)
    → ((n : ℕ) (hosts : List A) → IsDownwardClosed n (Holds hosts)) → ((hosts : List A) → Holds hosts [])
    → ((hosts : List A) → ResetPreservesViolation (length hosts) strategy (Holds hosts) (meaning (walk_template name strategy MayHave default Holds) hosts).holds_after_reset)
    → IsLawfulTemplate (walk_template name strategy MayHave default Holds)
lawful_walk name strategy MayHave default Holds downward none reset hosts = record {
  downward = downward (length hosts) hosts;
  holds_on_none = none hosts;
  reset_preserves_violation = reset hosts;
  mark_is_right = λ marked. absurd (false≢true marked);
}

-- One host is given another attribute that it may have.
pub AllMayHave-set : (t : Template) (hosts : List t.Attribute) (host : ℕ) (x : t.Attribute) → AllMayHave t hosts
    → t.MayHave (length hosts) host x → AllMayHave t (slice_set hosts host x)
AllMayHave-set t hosts host x all may i within =
    let sized = length-set hosts host x in
    let below : i < length hosts = subst (λ n. i < n) sized within in
    subst (λ n. t.MayHave n i (slice_index_or (slice_set hosts host x) i (t.default n i))) (sym sized)
    (elim (cases_eq i host) [
      | inl same ↦
          subst (λ j. t.MayHave (length hosts) j (slice_index_or (slice_set hosts host x) j (t.default (length hosts) j))) (sym same)
          (subst (t.MayHave (length hosts) host) (sym (get_or-set_same hosts host x (t.default (length hosts) host) (subst (λ j. j < length hosts) same below))) may)
      | inr other ↦
          subst (t.MayHave (length hosts) i) (sym (get_or-set_other hosts host i x (t.default (length hosts) i) other)) (all i below)
    ])
