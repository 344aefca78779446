use Rattle.std.proofs.lemmas.List.{map-set}
use Rattle.toml.specs.View.{view}
use Rattle.edit_core.proofs.assigns.put_at.Goals as goal

pub returns-then-place-len : goal.returns-then-place-len
returns-then-place-len c = map-set view c.args.values.now.items c.args.place c.args.value
