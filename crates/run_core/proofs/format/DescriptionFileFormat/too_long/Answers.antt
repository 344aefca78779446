use Rattle.run_core.proofs.FormatLaws.{long_description}
use Rattle.run_core.proofs.format.DescriptionFileFormat.too_long.Goals as goal

pub returns : goal.returns
returns c = rw c.too_long_description.ensures (λ bytes long. long_description bytes long)
