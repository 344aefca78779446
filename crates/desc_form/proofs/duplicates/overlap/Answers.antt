use Rattle.std.proofs.Common.{rules, option_map, ◌∙◌}
use Rattle.desc_form.specs.inner.Refused.{refused_item_by}
use Rattle.desc_form.specs.declared.refusal.Place.TheVariants.{Host}
use Rattle.desc_form.specs.declared.refusal.Why.TheVariants.{Overlap}
use Rattle.desc_form.specs.inner.EntryView.{entry_view}
use Rattle.text_core.proofs.FirstPairLaws.{told}
use Rattle.desc_form.specs.HostConditions as meant
use Rattle.desc_form.specs.HostConditions.{overlap, entries_meet}
use Rattle.text_core.specs.inner.FirstsView.{pair_seen}
use Rattle.desc_form.proofs.duplicates.overlap.Goals as goal

pub returns : goal.returns
unfolding overlap
returns c =
    c.met_entry.ensures
    ∙ told (λ (e f : meant.Entry). entries_meet e.prefix f.prefix) entry_view (λ p. refused_item_by Overlap (Host p.later.host) p.later.item p.earlier.host) c.args.entries.now (option_map pair_seen c.first_conflict-pair.result)
    (c.first_conflict-pair.ensures.exact (λ e f. entries_meet e.prefix f.prefix) (λ later earlier answer post. search rules))
