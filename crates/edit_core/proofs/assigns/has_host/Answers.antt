use Rattle.std.proofs.Common.{◌∙◌}
use Rattle.edit_core.proofs.CopyLemmas.{any_view}
use Rattle.edit_core.specs.Edited.{is_of_host}
use Rattle.edit_core.proofs.assigns.has_host.Goals as goal

pub returns : goal.returns
returns c = c.names_any.ensures ∙ any_view (is_of_host c.args.host.now) c.args.assigns.now
