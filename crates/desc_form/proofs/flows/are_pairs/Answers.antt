use Rattle.std.proofs.Common.{◌∙◌, sym}
use Rattle.std.proofs.lemmas.List.Folds.{list_all-map}
use Rattle.std.specs.Prelude.{is_some}
use Rattle.toml.specs.View.{view}
use Rattle.desc_form.specs.RawTemplate.{raw_pair}
use Rattle.desc_form.proofs.flows.are_pairs.Goals as goal

pub returns : goal.returns
returns c = c.all_are_pairs.ensures ∙ sym (list_all-map (λ d. is_some (raw_pair d)) view c.args.values.now)
