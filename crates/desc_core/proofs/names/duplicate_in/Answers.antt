use Rattle.std.proofs.Common.{rules, option_map, ◌∙◌}
use Rattle.std.specs.Str.{bytes_eq}
use Rattle.desc_form.specs.Refusals.{refused_by}
use Rattle.desc_form.specs.inner.RawView.{assign_view}
use Rattle.desc_form.specs.RawDescription.{RawAssign}
use Rattle.desc_form.specs.declared.refusal.Place.TheVariants.{Assign}
use Rattle.desc_form.specs.declared.refusal.Why.TheVariants.{DuplicateAssign}
use Rattle.text_core.proofs.FirstPairLaws.{told_numbered}
use Rattle.text_core.specs.inner.FirstsView.{pair_seen}
use Rattle.desc_core.proofs.names.duplicate_in.Goals as goal

pub returns : goal.returns
returns c =
    c.duplicate_assign_refusal.ensures
    ∙ told_numbered (λ (a b : RawAssign). bytes_eq a.host b.host) assign_view (λ p. refused_by DuplicateAssign (Assign c.args.invariant p.later.number) p.earlier.number) c.args.assigns.now (option_map pair_seen c.first_conflict-pair.result)
    (c.first_conflict-pair.ensures.exact (λ a b. bytes_eq a.host.now b.host.now) (λ later earlier answer post. search rules))
