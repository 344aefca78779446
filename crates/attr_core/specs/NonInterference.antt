-- Non-interference: `kind` is one of two words.
-- The keys of an assign of this template: docs/FORMATS.md.
use Rattle.std.specs.Prelude.{ℕ, List, [], ◌∷◌, codes}
use Rattle.inv_any.specs.declared.any_inv.AnyInv.TheVariants as any
use Rattle.tmpl_reach.specs.NonInterference.{non_interference}
use Rattle.tmpl_reach.specs.declared.non_interference.Interference.{Interference}
use Rattle.tmpl_reach.specs.declared.non_interference.Interference.TheVariants.{Unrelated, Interfering}
use Rattle.attr_core.specs.Forms.{Form}
use Rattle.attr_core.specs.Kinds.{by_kind}

-- The kinds, by their words.
abbrev pub interference_kinds : List (List ℕ × Interference)
interference_kinds = (codes "unrelated", Unrelated) ∷ (codes "interfering", Interfering) ∷ []

-- The attribute format of the template.
abbrev pub interference_form : Form
interference_form = by_kind non_interference interference_kinds any.NonInterference
