use Rattle.toml.specs.View.{table_view}
use Rattle.desc_form.proofs.RawDescriptionLaws.{formed}
use Rattle.desc_form.proofs.well_formed.form_refusal.Goals as goal

pub returns-clause-formed : goal.returns-clause-formed
returns-clause-formed c = rw c.first_refusal.ensures (formed (table_view c.args.document.now))
