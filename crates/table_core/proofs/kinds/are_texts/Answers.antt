use Rattle.std.proofs.Common.{◌∙◌, sym}
use Rattle.std.proofs.lemmas.List.Folds.{list_all-map}
use Rattle.toml.specs.View.{view}
use Rattle.table_core.specs.Keys.{is_text}
use Rattle.table_core.proofs.kinds.are_texts.Goals as goal

pub returns : goal.returns
returns c = c.all_are_texts.ensures ∙ sym (list_all-map is_text view c.args.values.now)
