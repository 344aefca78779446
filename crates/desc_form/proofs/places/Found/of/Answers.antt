use Rattle.toml.specs.View.{table_view}
use Rattle.desc_form.proofs.FoundLaws.{in_parts}
use Rattle.desc_form.proofs.places.Found.of.Goals as goal

pub returns : goal.returns
returns c =
    rw (
      c.visit-3.ensures,
      c.listed-4.ensures,
      c.visit-2.ensures,
      c.listed-3.ensures,
      c.go_through_invariants.ensures,
      c.listed-2.ensures,
      c.visit.ensures,
      c.listed.ensures,
      c.at_document-found.ensures,
    ) (in_parts (table_view c.args.document.now))
