use Rattle.std.proofs.Common.{ℕ, sym, ap, option_map}
use Rattle.desc_core.proofs.TemplatesWalk.{bad_here, good_more}
use Rattle.desc_form.specs.Refusals.{refused}
use Rattle.desc_form.specs.declared.refusal.Place.TheVariants.{Template}
use Rattle.desc_form.specs.declared.refusal.Why.TheVariants.{BadTemplate}
use Rattle.desc_core.proofs.templates.bad_template.Goals as goal

pub returns-then-not-is_well_formed : goal.returns-then-not-is_well_formed
returns-then-not-is_well_formed c =
    rw c.at.ensures
    (ap (option_map (λ (k : ℕ). refused BadTemplate (Template k)))
    (bad_here c.args.templates.now c.loop-index.index c.index-templates-index.result _ c.loop-index-test.true c.index-templates-index.is (sym c.if-not-is_well_formed.ensures) c.loop-index.invariant))

pub loop-index-preserved : goal.loop-index-preserved
loop-index-preserved c =
    good_more c.args.templates.now c.loop-index.index c.index-templates-index.result _ c.loop-index-test.true c.index-templates-index.is (sym c.if-not-is_well_formed.ensures) c.loop-index.invariant
