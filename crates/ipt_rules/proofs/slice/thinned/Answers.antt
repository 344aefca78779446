use Rattle.std.proofs.Common.{◌+◌, List, inl, inr, sym, subst, ap, ◌∙◌}
use Rattle.ipt_rules.specs.declared.rule.Rule.{Rule}
use Rattle.ipt_rules.specs.inner.Slicing.{Thins}
use Rattle.ipt_rules.proofs.SliceLaws.{ThinsWith, thin_done, thin_dropped, thin_kept}
use Rattle.ipt_rules.proofs.slice.thinned.Goals as goal

pub loop-rule-preserved : goal.loop-rule-preserved
loop-rule-preserved c =
    let b = c.args.within.now in
    let rules = c.rules-rules.result.now in
    let out = c.loop-rule.thinned.rules in
    let at = c.loop-rule.rule-index in
    let r = c.rule-item.result in
    elim c.in_ok-push_if_fits.ensures [
      | inl pushed ↦ record {
        policy = ap (λ y. y.policy) pushed ∙ c.loop-rule.invariant.policy;
        so_far = subst (λ (rs : List Rule). ThinsWith b rules (at + 1) rs) (sym (ap (λ y. y.rules) pushed))
            (thin_kept b rules out at r c.loop-rule-test.true c.rule-item.is c.loop-rule.invariant.so_far);
      }
      | inr passed ↦ record {
        policy = ap (λ y. y.policy) passed.0 ∙ c.loop-rule.invariant.policy;
        so_far = subst (λ (rs : List Rule). ThinsWith b rules (at + 1) rs) (sym (ap (λ y. y.rules) passed.0))
            (thin_dropped b rules out at r c.loop-rule-test.true c.rule-item.is passed.1 c.loop-rule.invariant.so_far);
      }
    ]

pub returns-clause-rules : goal.returns-clause-rules
returns-clause-rules c =
    subst (λ (rs : List Rule). Thins c.args.within.now rs c.loop-rule.thinned.rules) c.rules-rules.ensures
    (thin_done c.args.within.now c.rules-rules.result.now c.loop-rule.thinned.rules c.loop-rule.rule-index c.loop-rule-test.false c.loop-rule.invariant.so_far)
