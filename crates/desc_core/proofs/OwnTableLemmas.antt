-- The table that the code builds for a declared template.
use Rattle.std.proofs.Common.{◌≡◌, ℕ, List, length}
use Rattle.desc_core.specs.Choices.{number_of_kind, declared_strategy, declared_table}
use Rattle.desc_form.specs.RawTemplate.{RawTemplate}
use Rattle.inv_law.specs.declared.strategy.Strategy.{Strategy}
use Rattle.tmpl_table.specs.KindTable.{KindTable}

abbrev pub table_with : List ℕ → Strategy → ℕ → ℕ → List (ℕ × ℕ) → KindTable
table_with name strategy kinds default denied = record { name = name; strategy = strategy; kinds = kinds; default = default; denied = denied }

pub table_is : (t : RawTemplate) (name : List ℕ) (strategy : Strategy) (kinds default : ℕ) (denied : List (ℕ × ℕ)) → name ≡ t.name
    → strategy ≡ declared_strategy t.strategy → kinds ≡ length t.kinds → default ≡ number_of_kind t t.default → denied ≡ (declared_table t).denied
    → table_with name strategy kinds default denied ≡ declared_table t
table_is t name strategy kinds default denied a b c d e =
    λ i. record { name = a i; strategy = b i; kinds = c i; default = d i; denied = e i }
