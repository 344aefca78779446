-- The template of an invariant: one of the ten, or one that the description declares as a table (the description's format,
-- docs/FORMATS.md).
use Rattle.std.specs.Prelude.{ℕ, List, find, length, map, Option, option_map, unwrap_or, codes, if◌then◌else◌}
use Rattle.std.specs.Option.{option_or}
use Rattle.std.specs.Str.{bytes_eq}
use Rattle.attr_core.specs.Assigns.{Given}
use Rattle.attr_core.specs.OwnTables.{Declared, kind_numbered, table_form}
use Rattle.attr_core.specs.Forms.{Form, bad_assign, invariant_by}
use Rattle.attr_core.specs.Templates.{form, template_named}
use Rattle.attr_core.specs.declared.template.Template.{Template}
use Rattle.desc_form.specs.RawTemplate.{RawTemplate}
use Rattle.host_net.specs.Host.{Host}
use Rattle.inv_any.specs.declared.any_inv.AnyInv.{AnyInv}
use Rattle.inv_law.specs.declared.strategy.Strategy.{Strategy}
use Rattle.inv_law.specs.declared.strategy.Strategy.TheVariants.{Access, Information}
use Rattle.tmpl_table.specs.KindTable.{KindTable}

-- The template of an invariant.
pub data Choice : Type 0 where
  OneOfTen : (template : Template) → Choice
  OwnTable : (template : RawTemplate) → Choice

-- The template of a name: one of the ten, otherwise the first one that is declared under it.
abbrev pub chosen : List RawTemplate → List ℕ → Option Choice
chosen templates name =
    option_or (option_map OneOfTen (template_named name)) (option_map OwnTable (find (λ t. bytes_eq name t.name) templates))

-- The strategy of a word: `access`, otherwise information.
abbrev pub declared_strategy : List ℕ → Strategy
declared_strategy word = if bytes_eq word (codes "access") then Access else Information

-- The number of a kind. A word that is no kind of the template is refused, so its number is irrelevant.
abbrev pub number_of_kind : RawTemplate → List ℕ → ℕ
number_of_kind t word = unwrap_or (kind_numbered t.kinds word) 0

-- The table of a declared template, with its kinds as numbers.
abbrev pub declared_table : RawTemplate → KindTable
declared_table t = record {
  name = t.name;
  strategy = declared_strategy t.strategy;
  kinds = length t.kinds;
  default = number_of_kind t t.default;
  denied = map (λ p. (number_of_kind t p.sender, number_of_kind t p.receiver)) t.deny;
}

-- The declared template: the words of its kinds, and its table.
abbrev pub declared_by : RawTemplate → Declared
declared_by t = record { words = t.kinds; table = declared_table t }

-- The attribute format of the template.
abbrev pub choice_form : Choice → Form
choice_form (OneOfTen t) = form t
choice_form (OwnTable t) = table_form (declared_by t)

-- The number, from 0, of the first assign that specifies no attribute.
unfoldable pub bad_of : List Host → Choice → List Given → Option ℕ
bad_of hosts choice assigns = bad_assign (choice_form choice) hosts assigns

-- The invariant whose hosts have the assigned attributes.
unfoldable pub made_by : List Host → Choice → List Given → AnyInv
made_by hosts choice assigns = invariant_by (choice_form choice) hosts assigns
