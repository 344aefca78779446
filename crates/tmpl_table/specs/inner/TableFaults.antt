-- The reasons why a table is refused.
use Rattle.std.specs.Prelude.{◌≡◌, Some}
use Rattle.std.specs.List.{position_from}
use Rattle.tmpl_table.specs.KindTable.{KindTable, passes_with}
use Rattle.tmpl_table.specs.inner.KindTable.{HasSecureDefault}
use Rattle.tmpl_table.specs.declared.fault.TableFault.{TableFault}
use Rattle.tmpl_table.specs.declared.fault.TableFault.TheVariants.{Memory, NotLawful}

-- The pair at this index, from 0, is the first without a partner, so the default is not secure. Memory may run out at any time.
abbrev pub IsRefused : KindTable → TableFault → Type 0
IsRefused table (NotLawful place) =
    (position_from (passes_with table.strategy table.denied table.default) 0 table.denied ≡ Some place) × (HasSecureDefault table → ⊥)
IsRefused table Memory = Unit {0}
