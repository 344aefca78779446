-- The templates of which an invariant can be made: the precondition of the private functions that make an invariant. Nothing here is
-- trusted: if no condition refuses the description, it holds for each template that an invariant names.
use Rattle.std.specs.Prelude.{◌≡◌, ◌≤◌, true, length, IsTrue}
use Rattle.desc_core.specs.Choices.{Choice, OneOfTen, OwnTable, declared_table}
use Rattle.desc_form.specs.RawTemplate.{RawTemplate}
use Rattle.text_core.specs.Name.{is_name}
use Rattle.tmpl_table.specs.KindTable.{is_lawful}

pub record IsMakeable (t : RawTemplate) : Type 0 where
  pub named : IsTrue (is_name t.name)
  pub some_kinds : 1 ≤ length t.kinds
  pub few_kinds : length t.kinds ≤ 64
  pub lawful : is_lawful (declared_table t) ≡ true

abbrev pub CanBeMade : Choice → Type 0
CanBeMade (OneOfTen t) = Unit {0}
CanBeMade (OwnTable t) = IsMakeable t
