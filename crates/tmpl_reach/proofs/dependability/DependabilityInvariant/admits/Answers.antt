use Rattle.std.proofs.Common.{◌≡◌, ℕ, List, ◌<◌, length, ◌∙◌, ap, subst, sym}
use Rattle.std.specs.Prelude.{slice_index}
use Rattle.std.proofs.lemmas.Bool.{ltb-true, lt-ltb}
use Rattle.std.proofs.lemmas.List.{get_or_read}
use Rattle.tmpl_reach.specs.laws.DependabilityLaws.{IsDependable-one}
use Rattle.tmpl_reach.proofs.dependability.DependabilityInvariant.admits.Goals as goal

pub returns : goal.returns
returns c =
    let within : c.args.f.from < length c.self.inside.limits.items =
    subst (λ (xs : List ℕ). c.args.f.from < length xs) (sym c.self.view_is) c.requires.0 in
    let limit : c.index.result.now ≡ slice_index c.args.self.now c.args.f.from =
    get_or_read c.self.inside.limits.items c.args.f.from c.index.result.now within c.index.ensures 0
    ∙ ap (λ (xs : List ℕ). slice_index xs c.args.f.from) c.self.view_is in
    let law = IsDependable-one c.args.self.now c.args.f c.requires in
    (λ passes. law.0 (subst (λ n. 0 < n) limit (ltb-true _ _ passes)), λ holds. lt-ltb _ _ (subst (λ n. 0 < n) (sym limit) (law.1 holds)))
