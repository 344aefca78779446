use Rattle.nft_local.proofs.TextLaws.{machine_text_once}
use Rattle.nft_local.proofs.laws.machine_text_has_one_table.Goals as goal

pub returns : goal.returns
returns c = machine_text_once
