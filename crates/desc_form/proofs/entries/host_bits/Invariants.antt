use Rattle.std.proofs.Common.{◌≡◌, map, drop, find, option_map}
use Rattle.desc_form.specs.Refusals.{refused_item}
use Rattle.desc_form.specs.declared.refusal.Place.TheVariants.{Host}
use Rattle.desc_form.specs.declared.refusal.Why.TheVariants.{HostBits}
use Rattle.desc_form.specs.inner.EntryView.{entry_view, has_host_bits}
use Rattle.desc_form.specs.HostConditions.{Entry}
use Rattle.desc_form.proofs.entries.host_bits.Given as goal

abbrev pub invariant-loop-entry : goal.invariant-loop-entry
invariant-loop-entry l = record {
  same :
      option_map (λ (e : Entry). refused_item HostBits (Host e.host) e.item) (find (λ e. has_host_bits e.prefix) (map entry_view (drop l.entry-index l.entries)))
      ≡ option_map (λ (e : Entry). refused_item HostBits (Host e.host) e.item) (find (λ e. has_host_bits e.prefix) (map entry_view l.entries));
}
