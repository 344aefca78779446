use Rattle.std.proofs.Common.{◌≡◌, ◌+◌, map, drop}
use Rattle.std.specs.List.{flat_map}
use Rattle.text_core.specs.FirstMatch.{numbered_from}
use Rattle.desc_form.specs.inner.RawView.{flow_view}
use Rattle.desc_form.specs.HostConditions.{bad_name}
use Rattle.desc_form.specs.Mentions.{flow_names_of}
use Rattle.desc_form.proofs.names.bad_flow_name.Given as goal

abbrev pub invariant-loop-index : goal.invariant-loop-index
invariant-loop-index l = record {
  same :
      bad_name (flat_map flow_names_of (numbered_from (l.index + 1) (map flow_view (drop l.index l.flows))))
      ≡ bad_name (flat_map flow_names_of (numbered_from 1 (map flow_view l.flows)));
}
