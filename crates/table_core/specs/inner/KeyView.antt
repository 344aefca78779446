-- The models of the code's types of keys.
use Rattle.std.specs.Prelude.{map}
use Rattle.table_core.specs.Keys as meant
use Rattle.table_core.specs.declared.keys.Key.{Key}
use Rattle.table_core.specs.declared.keys.Key.TheVariants.{Needed, Optional}
use Rattle.table_core.specs.declared.kinds.Kind.{Kind}
use Rattle.table_core.specs.declared.kinds.Kind.TheVariants.{Text, OneOf, Integer, Number, Boolean, List, Texts}

abbrev pub kind_view : Kind → meant.Kind
kind_view Text = meant.Text
kind_view (OneOf words) = meant.OneOf (map (λ word. word.now) words.now)
kind_view Integer = meant.Integer
kind_view (Number most) = meant.Number most
kind_view Boolean = meant.Boolean
kind_view List = meant.Array
kind_view Texts = meant.Texts

abbrev pub key_view : Key → meant.Key
key_view (Needed name kind) = meant.needed name.now (kind_view kind)
key_view (Optional name kind) = meant.optional name.now (kind_view kind)
