use Rattle.std.proofs.Common.{◌≡◌, ◌+◌, map, drop}
use Rattle.text_core.specs.FirstMatch.{numbered_from}
use Rattle.desc_form.specs.inner.RawView.{host_view}
use Rattle.desc_form.specs.HostConditions.{bad_name}
use Rattle.desc_form.specs.inner.NameUseView.{host_name}
use Rattle.desc_form.proofs.names.bad_host_name.Given as goal

abbrev pub invariant-loop-index : goal.invariant-loop-index
invariant-loop-index l = record {
  same :
      bad_name (map host_name (numbered_from (l.index + 1) (map host_view (drop l.index l.hosts))))
      ≡ bad_name (map host_name (numbered_from 1 (map host_view l.hosts)));
}
