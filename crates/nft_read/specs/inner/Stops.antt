-- Where the parser of the lines stops.
use Rattle.std.specs.Prelude.{◌≡◌, ℕ, List, None, take}
use Rattle.text_core.specs.Lines.{lines}
use Rattle.text_core.specs.declared.faults.TextFault.{TextFault}
use Rattle.text_core.specs.declared.faults.TextFault.TheVariants.{Refused, Memory}
use Rattle.nft_read.specs.declared.fault.NftWhy.{NftWhy}
use Rattle.nft_read.specs.declared.fault.NftWhy.TheVariants.{BadLine}
use Rattle.nft_read.specs.inner.TableSteps.{run, start}

-- The lines up to this one cannot be parsed.
abbrev pub IsStopped : List ℕ → TextFault NftWhy → Type 0
IsStopped text (Refused line why) = (why ≡ BadLine) × (run start (take line (lines text)) ≡ None)
IsStopped text Memory = Unit {0}
