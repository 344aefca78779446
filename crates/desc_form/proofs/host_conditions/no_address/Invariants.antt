use Rattle.std.proofs.Common.{◌≡◌, ◌+◌, map, drop, option_map}
use Rattle.std.specs.Prelude.{find}
use Rattle.desc_form.specs.declared.refusal.Place.TheVariants.{Host}
use Rattle.desc_form.specs.declared.refusal.Why.TheVariants.{NoAddress}
use Rattle.text_core.specs.FirstMatch.{Numbered, numbered_from}
use Rattle.host_net.specs.Host.{has_no_address}
use Rattle.desc_form.specs.Refusals.{refused}
use Rattle.desc_form.specs.inner.RawView.{host_view}
use Rattle.desc_form.specs.RawDescription.{RawHost}
use Rattle.desc_form.proofs.host_conditions.no_address.Given as goal

abbrev pub invariant-loop-index : goal.invariant-loop-index
invariant-loop-index l = record {
  same :
      option_map (λ (h : Numbered RawHost). refused NoAddress (Host h.number)) (find (λ h. has_no_address h.what.at h.what.rest) (numbered_from (l.index + 1) (map host_view (drop l.index l.hosts))))
      ≡ option_map (λ (h : Numbered RawHost). refused NoAddress (Host h.number)) (find (λ h. has_no_address h.what.at h.what.rest) (numbered_from 1 (map host_view l.hosts)));
}
