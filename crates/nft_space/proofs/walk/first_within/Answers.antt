use Rattle.std.proofs.Common.{ℕ, List, Option, take, length, sym, subst, refl, add-one}
use Rattle.std.proofs.lemmas.List.{take_all}
use Rattle.std.proofs.lemmas.Option.{slice_get_read}
use Rattle.header_space.proofs.BoxLaws.{narrows_in, narrows_then}
use Rattle.nft_rules.specs.declared.table.Rule.{Rule}
use Rattle.nft_rules.specs.declared.table.Verdict.{Verdict}
use Rattle.nft_rules.specs.Semantics.{Gives}
use Rattle.nft_space.specs.inner.First.{NoneGives}
use Rattle.nft_space.proofs.FirstLaws.{found_first, none_first, one_more}
use Rattle.nft_space.proofs.walk.first_within.Goals as goal

pub returns-in-Some-clause-first : goal.returns-in-Some-clause-first
returns-in-Some-clause-first c = λ p inside.
    let before = c.loop-rule.invariant.none p (narrows_in c.loop-rule.within c.rule_within.new.within p c.rule_within.ensures.part inside) in
    found_first c.args.state p c.args.rules.now c.loop-rule.rule-index c.rule-item.result c.in-Some.verdict before
    (slice_get_read c.args.rules.now (length c.args.rules.now) c.loop-rule.rule-index c.rule-item.result refl c.loop-rule-test.true (c.rule-item.is))
    (subst (λ (v : Option Verdict). Gives c.args.state p c.rule-item.result v) c.in-Some.is (c.rule_within.ensures.gives p inside))

pub loop-rule-preserved : goal.loop-rule-preserved
loop-rule-preserved c = record {
  narrows = narrows_then c.args.within.now c.loop-rule.within c.rule_within.new.within c.loop-rule.invariant.narrows c.rule_within.ensures.part;
  none = λ p inside.
      let before = c.loop-rule.invariant.none p (narrows_in c.loop-rule.within c.rule_within.new.within p c.rule_within.ensures.part inside) in
      subst (λ (n : ℕ). NoneGives c.args.state p (take n c.args.rules.now)) (sym (add-one c.loop-rule.rule-index))
      (one_more c.args.state p c.args.rules.now c.loop-rule.rule-index c.rule-item.result before
      (slice_get_read c.args.rules.now (length c.args.rules.now) c.loop-rule.rule-index c.rule-item.result refl c.loop-rule-test.true (c.rule-item.is))
      (subst (λ (v : Option Verdict). Gives c.args.state p c.rule-item.result v) c.in_default.is (c.rule_within.ensures.gives p inside)));
}

pub returns-clause-first : goal.returns-clause-first
returns-clause-first c = λ p inside.
    none_first c.args.state p c.args.rules.now
    (subst (λ (rules : List Rule). NoneGives c.args.state p rules) (take_all c.loop-rule.rule-index c.args.rules.now c.loop-rule-test.false)
    (c.loop-rule.invariant.none p inside))
