use Rattle.std.proofs.Common.{subst, sym}
use Rattle.std.specs.Prelude.{IfSome}
use Rattle.std.proofs.lemmas.Result.{IfOk-weaker}
use Rattle.ipt_rules.specs.Slices.{HaveSameChainVerdicts}
use Rattle.rules_space.specs.declared.rules_ref.RulesRef.{RulesRef}
use Rattle.rules_space.specs.Rules.{Chains}
use Rattle.rules_space.specs.Verdicts.{HaveSameVerdicts}
use Rattle.rules_space.specs.RulesView.{rules_of}
use Rattle.rules_space.proofs.RulesLaws.{same_slice}
use Rattle.rules_space.proofs.rules_ref.RulesRef.slice.Goals as goal

pub returns-in-Ipt : goal.returns-in-Ipt
returns-in-Ipt c =
    IfOk-weaker c.slice.result (λ slice. IfSome slice (HaveSameChainVerdicts c.args.within.now c.in-Ipt.rules.now)) (λ slice. IfSome slice (λ chains. HaveSameVerdicts c.args.within.now (rules_of c.args.self.now) (Chains chains)))
    (λ slice same. subst (λ (text : RulesRef). IfSome slice (λ chains. HaveSameVerdicts c.args.within.now (rules_of text) (Chains chains))) (sym c.in-Ipt.is)
    (same_slice c.args.within.now c.in-Ipt.rules.now slice same)) c.slice.ensures
