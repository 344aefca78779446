use Rattle.std.proofs.Common.{◌∙◌, sym}
use Rattle.std.proofs.lemmas.Bool.{both_ways, not-true, not_from_false, false_from_ne_true}
use Rattle.tmpl_reach.specs.laws.NoReachLaws.{ReachesNoDenied-one}
use Rattle.tmpl_reach.proofs.no_reach.NoReachInvariant.admits.Goals as goal

pub returns : goal.returns
returns c =
    let law = ReachesNoDenied-one c.args.self.now c.args.f c.requires in (
      λ passes. law.0 (λ denies. both_ways _ (not-true _ passes) (c.denies.ensures ∙ denies)),
      λ holds. not_from_false _ (false_from_ne_true _ (λ shown. law.1 holds (sym c.denies.ensures ∙ shown))),
    )
