-- The models of the code's types of a raw description.
use Rattle.std.specs.Prelude.{map}
use Rattle.toml.specs.View.{table_view}
use Rattle.desc_form.specs.RawDescription as meant
use Rattle.desc_form.specs.RawFlow as flow
use Rattle.desc_form.specs.RawTemplate as template
use Rattle.desc_form.specs.declared.raw.RawDescription.{RawDescription}
use Rattle.desc_form.specs.declared.raw.RawAssign.{RawAssign}
use Rattle.desc_form.specs.declared.raw.RawFlow.{RawFlow}
use Rattle.desc_form.specs.declared.raw.RawHost.{RawHost}
use Rattle.desc_form.specs.declared.raw.RawInvariant.{RawInvariant}
use Rattle.desc_form.specs.declared.raw.RawPair.{RawPair}
use Rattle.desc_form.specs.declared.raw.RawTemplate.{RawTemplate}

abbrev pub host_view : RawHost → meant.RawHost
host_view h = record { name = h.name.now; at = map (λ text. text.now) h.at.items; rest = h.rest }

abbrev pub assign_view : RawAssign → meant.RawAssign
assign_view a = record { host = a.host.now; table = table_view a.table.now }

abbrev pub invariant_view : RawInvariant → meant.RawInvariant
invariant_view i = record { template = i.template.now; assigns = map assign_view i.assigns.items }

abbrev pub flow_view : RawFlow → flow.RawFlow
flow_view f = record { from = f.from.now; to = f.to.now; services = map (λ text. text.now) f.services.items }

abbrev pub pair_view : RawPair → template.RawPair
pair_view p = record { sender = p.sender.now; receiver = p.receiver.now }

abbrev pub template_view : RawTemplate → template.RawTemplate
template_view t = record {
  name = t.name.now;
  strategy = t.strategy.now;
  kinds = map (λ kind. kind.now) t.kinds.items;
  default = t.default.now;
  deny = map pair_view t.deny.items;
}

abbrev pub raw_view : RawDescription → meant.RawDescription
raw_view w = record {
  version = w.version;
  answers = w.answers;
  hosts = map host_view w.hosts.items;
  invariants = map invariant_view w.invariants.items;
  given = w.given;
  flows = map flow_view w.flows.items;
  templates = map template_view w.templates.items;
}
