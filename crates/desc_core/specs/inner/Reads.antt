-- The result of parsing a description, compared with the definition.
use Rattle.std.specs.Prelude.{◌≡◌, Result, Ok, Err}
use Rattle.desc_core.specs.declared.fault.DescFault.{DescFault}
use Rattle.desc_core.specs.declared.fault.DescFault.TheVariants.{Refused, Memory}
use Rattle.desc_form.specs.declared.refusal.Refusal.{Refusal}

-- The result agrees with the definition, including the refusal. Memory may run out instead at any time.
abbrev pub Reads : {A : Type 0} → Result A DescFault → Result A Refusal → Type 0
Reads (Ok x) said = said ≡ Ok x
Reads (Err (Refused refusal)) said = said ≡ Err refusal
Reads (Err Memory) said = Unit {0}
