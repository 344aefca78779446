-- A description in version 2: the result of `migrate` for an accepted description (docs/FORMATS.md).
use Rattle.std.specs.Prelude.{◌≡◌, ℕ, List, Ok, Err, Result}
use Rattle.desc_core.specs.Description.{described}
use Rattle.desc_core.specs.declared.fault.DescFault.{DescFault}
use Rattle.desc_core.specs.declared.fault.DescFault.TheVariants.{Refused, Memory}
use Rattle.desc_core.specs.Migrated.{IsMigrated}

-- The text for the bytes, or the reason of their refusal. Memory may run out instead at any time.
abbrev pub Migrates : List ℕ → Result (List ℕ) DescFault → Type 0
Migrates bytes (Ok text) = IsMigrated bytes text
Migrates bytes (Err (Refused refusal)) = described bytes ≡ Err refusal
Migrates bytes (Err Memory) = Unit {0}
