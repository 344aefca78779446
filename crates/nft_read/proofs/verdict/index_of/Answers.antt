use Rattle.std.proofs.Common.{◌∙◌, ℕ, Vec, Global}
use Rattle.std.specs.Prelude.{bytes_eq}
use Rattle.std.proofs.lemmas.Iterator.Adapters.{position_from-zero}
use Rattle.nft_read.proofs.NameLaws.{place_mapped}
use Rattle.nft_read.proofs.verdict.index_of.Goals as goal

pub returns-clause-index : goal.returns-clause-index
returns-clause-index c =
    c.get_index_of.ensures.index
    ∙ position_from-zero (λ (key : Vec ℕ Global). bytes_eq c.args.name.now key.items) c.args.names.now.keys
    ∙ place_mapped (λ (key : Vec ℕ Global). key.items) (bytes_eq c.args.name.now) 0 c.args.names.now.keys
