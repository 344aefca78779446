use Rattle.std.proofs.Common.{◌≡◌, ◌∙◌, true, false, List, Option, Some, None, length, sym, ap, subst, refl, arith}
use Rattle.std.specs.Prelude.{slice_get}
use Rattle.std.proofs.lemmas.Option.{slice_get_read}
use Rattle.header_space.proofs.BoxLaws.{narrows_in, narrows_then}
use Rattle.nft_rules.specs.declared.table.Verdict.{Verdict}
use Rattle.nft_rules.specs.declared.table.Verdict.TheVariants.{Accept, Drop, Goto}
use Rattle.nft_rules.specs.declared.table.Rule.{Rule}
use Rattle.nft_rules.specs.Loadable.{AreRules}
use Rattle.nft_rules.specs.Semantics.{Decides}
use Rattle.nft_rules.specs.Semantics.Decides.{by_policy}
use Rattle.nft_space.specs.inner.First.{First}
use Rattle.nft_space.proofs.FirstLaws.{first_ends, goto_below, rules_ascend}
use Rattle.nft_space.proofs.walk.walk.Goals as goal

pub first_within-requires-clause-ascend : goal.first_within-requires-clause-ascend
first_within-requires-clause-ascend c = rules_ascend c.loop-verdict.below c.loop-verdict.rules.now c.loop-verdict.invariant.are

pub returns-in-Accept-clause-passes : goal.returns-in-Accept-clause-passes
returns-in-Accept-clause-passes c = λ p inside.
    c.loop-verdict.invariant.leads p (narrows_in c.loop-verdict.within c.first_within.new.within p c.first_within.ensures.part inside) true
    (first_ends c.args.table.now.chains.items c.args.state p c.loop-verdict.rules.now (Some Accept) true
    (subst (λ (v : Option Verdict). First c.args.state p c.loop-verdict.rules.now v) (c.in-Some.is ∙ ap (λ (v : Verdict). Some v) c.in-Accept.is)
    (c.first_within.ensures.first p inside)) refl)

pub returns-in-Drop-clause-passes : goal.returns-in-Drop-clause-passes
returns-in-Drop-clause-passes c = λ p inside.
    c.loop-verdict.invariant.leads p (narrows_in c.loop-verdict.within c.first_within.new.within p c.first_within.ensures.part inside) false
    (first_ends c.args.table.now.chains.items c.args.state p c.loop-verdict.rules.now (Some Drop) false
    (subst (λ (v : Option Verdict). First c.args.state p c.loop-verdict.rules.now v) (c.in-Some.is ∙ ap (λ (v : Verdict). Some v) c.in-Drop.is)
    (c.first_within.ensures.first p inside)) refl)

pub index-requires : goal.index-requires
index-requires c =
    let below = goto_below c.loop-verdict.below c.in-Goto.chain c.args.state c.loop-verdict.within c.first_within.new.within c.loop-verdict.rules.now
    c.first_within.result c.in-Some.verdict c.loop-verdict.invariant.are c.first_within.ensures.part c.first_within.ensures.first c.in-Some.is c.in-Goto.is in
    let few = c.loop-verdict.invariant.few in
    omega (arith, below, few)

pub loop-verdict-smaller : goal.loop-verdict-smaller
loop-verdict-smaller c =
    goto_below c.loop-verdict.below c.in-Goto.chain c.args.state c.loop-verdict.within c.first_within.new.within c.loop-verdict.rules.now
    c.first_within.result c.in-Some.verdict c.loop-verdict.invariant.are c.first_within.ensures.part c.first_within.ensures.first c.in-Some.is c.in-Goto.is

pub loop-verdict-preserved : goal.loop-verdict-preserved
loop-verdict-preserved c =
    let below = goto_below c.loop-verdict.below c.in-Goto.chain c.args.state c.loop-verdict.within c.first_within.new.within c.loop-verdict.rules.now
    c.first_within.result c.in-Some.verdict c.loop-verdict.invariant.are c.first_within.ensures.part c.first_within.ensures.first c.in-Some.is c.in-Goto.is in
    let few = c.loop-verdict.invariant.few in
    let chains = c.args.table.now.chains.items in
    let there : slice_get chains c.in-Goto.chain ≡ Some c.index.result.now =
    slice_get_read chains (length chains) c.in-Goto.chain c.index.result.now refl (omega (arith, below, few)) c.index.ensures in
    record {
      narrows = narrows_then c.args.within.now c.loop-verdict.within c.first_within.new.within c.loop-verdict.invariant.narrows c.first_within.ensures.part;
      few = omega (arith, below, few);
      are = subst (λ (rules : List Rule). AreRules c.in-Goto.chain rules) (sym c.deref-rules.ensures.value)
          (c.requires.loadable.back c.in-Goto.chain c.index.result.now there);
      leads = λ p inside passes decides.
          c.loop-verdict.invariant.leads p (narrows_in c.loop-verdict.within c.first_within.new.within p c.first_within.ensures.part inside) passes
          (first_ends chains c.args.state p c.loop-verdict.rules.now (Some (Goto c.in-Goto.chain)) passes
          (subst (λ (v : Option Verdict). First c.args.state p c.loop-verdict.rules.now v) (c.in-Some.is ∙ ap (λ (v : Verdict). Some v) c.in-Goto.is)
          (c.first_within.ensures.first p inside))
          (c.index.result.now, there, subst (λ (rules : List Rule). Decides chains c.args.state p rules passes) c.deref-rules.ensures.value decides));
    }

pub returns-clause-passes : goal.returns-clause-passes
returns-clause-passes c = λ p inside.
    c.loop-verdict.invariant.leads p (narrows_in c.loop-verdict.within c.first_within.new.within p c.first_within.ensures.part inside) false
    (first_ends c.args.table.now.chains.items c.args.state p c.loop-verdict.rules.now None false
    (subst (λ (v : Option Verdict). First c.args.state p c.loop-verdict.rules.now v) c.in_default.is
    (c.first_within.ensures.first p inside)) by_policy)
