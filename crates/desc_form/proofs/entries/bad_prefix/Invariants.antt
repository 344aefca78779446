use Rattle.std.proofs.Common.{◌≡◌, map, drop, find, option_map, not}
use Rattle.desc_form.specs.Refusals.{refused_item}
use Rattle.desc_form.specs.declared.refusal.Place.TheVariants.{Host}
use Rattle.desc_form.specs.declared.refusal.Why.TheVariants.{BadPrefix}
use Rattle.desc_form.specs.inner.EntryView.{entry_view, is_prefix}
use Rattle.desc_form.specs.HostConditions.{Entry}
use Rattle.desc_form.proofs.entries.bad_prefix.Given as goal

abbrev pub invariant-loop-entry : goal.invariant-loop-entry
invariant-loop-entry l = record {
  same :
      option_map (λ (e : Entry). refused_item BadPrefix (Host e.host) e.item) (find (λ e. not (is_prefix e.prefix)) (map entry_view (drop l.entry-index l.entries)))
      ≡ option_map (λ (e : Entry). refused_item BadPrefix (Host e.host) e.item) (find (λ e. not (is_prefix e.prefix)) (map entry_view l.entries));
}
