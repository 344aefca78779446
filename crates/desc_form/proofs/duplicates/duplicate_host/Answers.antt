use Rattle.std.proofs.Common.{rules, option_map, ◌∙◌}
use Rattle.std.specs.Str.{bytes_eq}
use Rattle.desc_form.specs.Refusals.{refused_by}
use Rattle.desc_form.specs.inner.RawView.{host_view}
use Rattle.desc_form.specs.RawDescription as meant
use Rattle.desc_form.specs.declared.refusal.Place.TheVariants.{Host}
use Rattle.desc_form.specs.declared.refusal.Why.TheVariants.{DuplicateHost}
use Rattle.text_core.proofs.FirstPairLaws.{told_numbered}
use Rattle.desc_form.specs.HostConditions.{duplicate_host}
use Rattle.text_core.specs.inner.FirstsView.{pair_seen}
use Rattle.desc_form.proofs.duplicates.duplicate_host.Goals as goal

pub returns : goal.returns
unfolding duplicate_host
returns c =
    c.duplicate_host_refusal.ensures
    ∙ told_numbered (λ (h g : meant.RawHost). bytes_eq h.name g.name) host_view (λ p. refused_by DuplicateHost (Host p.later.number) p.earlier.number) c.args.hosts.now (option_map pair_seen c.first_conflict-pair.result)
    (c.first_conflict-pair.ensures.exact (λ h g. bytes_eq h.name.now g.name.now) (λ later earlier answer post. search rules))
