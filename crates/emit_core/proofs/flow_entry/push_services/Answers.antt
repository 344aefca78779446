use Rattle.std.proofs.Common.{◌≡◌, ◌∙◌, List, sym, subst}
use Rattle.std.specs.Prelude.{OnOk}
use Rattle.ofp_rules.specs.declared.entry.Entry.{Entry}
use Rattle.emit_core.specs.FlowTable.{service_entry}
use Rattle.emit_core.specs.inner.KeptEntries.{with_entries}
use Rattle.emit_core.proofs.NarrowedSteps.{narrowed_each}
use Rattle.emit_core.proofs.flow_entry.push_services.Goals as goal

pub returns : goal.returns
returns c =
    subst (λ (es : List Entry). OnOk c.push_each_service.result (c.push_each_service.new.entries ≡ with_entries c.args.entries.now es))
    (sym (narrowed_each (service_entry c.args.priority c.args.src c.args.dst) c.args.services.now (sym c.is_whole.ensures ∙ c.if-is_whole.false)))
    c.push_each_service.ensures
