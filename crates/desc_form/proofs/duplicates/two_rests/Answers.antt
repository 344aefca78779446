use Rattle.std.proofs.Common.{rules, ◌&&◌, option_map, ◌∙◌}
use Rattle.desc_form.specs.Refusals.{refused_by}
use Rattle.desc_form.specs.inner.RawView.{host_view}
use Rattle.desc_form.specs.RawDescription as meant
use Rattle.desc_form.specs.declared.refusal.Place.TheVariants.{Host}
use Rattle.desc_form.specs.declared.refusal.Why.TheVariants.{TwoRests}
use Rattle.text_core.proofs.FirstPairLaws.{told_numbered}
use Rattle.desc_form.specs.HostConditions.{two_rests}
use Rattle.text_core.specs.inner.FirstsView.{pair_seen}
use Rattle.desc_form.proofs.duplicates.two_rests.Goals as goal

pub returns : goal.returns
unfolding two_rests
returns c =
    c.duplicate_host_refusal.ensures
    ∙ told_numbered (λ (h g : meant.RawHost). h.rest && g.rest) host_view (λ p. refused_by TwoRests (Host p.later.number) p.earlier.number) c.args.hosts.now (option_map pair_seen c.first_conflict-pair.result)
    (c.first_conflict-pair.ensures.exact (λ h g. h.rest && g.rest) (λ later earlier answer post. search rules))
