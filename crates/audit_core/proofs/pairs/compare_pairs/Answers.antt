use Rattle.std.proofs.Common.{◌≡◌, ◌↔◌, [], List, sym, subst}
use Rattle.std.specs.Prelude.{IfOk}
use Rattle.std.proofs.lemmas.Result.{IfOk-weaker}
use Rattle.pkt_core.specs.FlowPolicy.{FlowPolicy}
use Rattle.audit_core.specs.declared.difference.Difference.{Difference}
use Rattle.audit_core.specs.declared.kind.Kind.{Kind}
use Rattle.rules_space.specs.declared.rules_ref.RulesRef.{RulesRef}
use Rattle.audit_core.specs.Findings.{DifferSomewhere}
use Rattle.rules_space.specs.RulesView.{rules_of}
use Rattle.audit_core.specs.Pairs.{AreDifferences, IsComplete}
use Rattle.audit_core.specs.Sides.{Sides, sides_of}
use Rattle.audit_core.specs.inner.Faults.{AreRight}
use Rattle.audit_core.proofs.PairLaws.{complete_where, one_list_of_differences}
use Rattle.audit_core.proofs.SameLaws.{none_exactly, none_where_right}
use Rattle.audit_core.proofs.pairs.compare_pairs.Goals as goal

-- The two sides that are compared.
abbrev compared : FlowPolicy → RulesRef → Sides
compared policy text = sides_of policy (rules_of text)

pub returns-then-branch-clause-differences : goal.returns-then-branch-clause-differences
returns-then-branch-clause-differences c =
    let sides = compared c.args.policy.now c.args.text.now in
    subst (λ (l : List Difference). AreDifferences sides l) (sym c.new.ensures.items)
    (none_where_right sides c.whole-sides.ensures.gives c.whole-sides.ensures.policy.within
    (subst (λ (s : Sides). (kind : Kind) → AreRight s kind) c.whole-sides.ensures.sides (c.in_ok-are_right.ensures c.if-branch.true)))

pub returns-then-branch-clause-complete : goal.returns-then-branch-clause-complete
returns-then-branch-clause-complete c =
    complete_where (compared c.args.policy.now c.args.text.now) c.new.result.items (returns-then-branch-clause-differences c)

pub returns-then-branch-clause-exact : goal.returns-then-branch-clause-exact
returns-then-branch-clause-exact c =
    none_exactly (compared c.args.policy.now c.args.text.now) c.whole-sides.ensures.gives c.whole-sides.ensures.policy.within c.new.result.items
    (returns-then-branch-clause-differences c)

pub returns-then-branch-clause-one : goal.returns-then-branch-clause-one
returns-then-branch-clause-one c = λ other are.
    one_list_of_differences (compared c.args.policy.now c.args.text.now) other c.new.result.items are (returns-then-branch-clause-differences c)

pub returns-clause-differences : goal.returns-clause-differences
returns-clause-differences c =
    subst (λ (s : Sides). IfOk c.differences_between.result (λ list. AreDifferences s list.items)) c.whole-sides.ensures.sides c.differences_between.ensures

pub returns-clause-complete : goal.returns-clause-complete
returns-clause-complete c =
    let sides = compared c.args.policy.now c.args.text.now in
    IfOk-weaker c.differences_between.result (λ list. AreDifferences sides list.items) (λ list. IsComplete sides list.items)
    (λ list are. complete_where sides list.items are) (returns-clause-differences c)

pub returns-clause-exact : goal.returns-clause-exact
returns-clause-exact c =
    let sides = compared c.args.policy.now c.args.text.now in
    IfOk-weaker c.differences_between.result (λ list. AreDifferences sides list.items) (λ list. (list.items ≡ []) ↔ (DifferSomewhere sides → ⊥))
    (λ list are. none_exactly sides c.whole-sides.ensures.gives c.whole-sides.ensures.policy.within list.items are) (returns-clause-differences c)

pub returns-clause-one : goal.returns-clause-one
returns-clause-one c =
    let sides = compared c.args.policy.now c.args.text.now in
    IfOk-weaker c.differences_between.result (λ list. AreDifferences sides list.items) (λ list. (other : List Difference) → AreDifferences sides other → other ≡ list.items)
    (λ list are other others. one_list_of_differences sides other list.items others are) (returns-clause-differences c)
