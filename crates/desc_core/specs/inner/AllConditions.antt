-- All conditions on the bytes of a description, in the order of their numbers (the description's format, docs/FORMATS.md).
use Rattle.std.specs.Prelude.{ℕ, nat_lt, List, [], ◌∷◌, length, Option, is_none}
use Rattle.std.specs.Option.{option_map_or}
use Rattle.desc_core.specs.Conditions.{byte_limit, table_conditions}
use Rattle.desc_core.specs.Document.{document}
use Rattle.text_core.specs.FirstMatch.{some_if}
use Rattle.desc_form.specs.Refusals.{refused}
use Rattle.desc_form.specs.declared.refusal.Place.TheVariants.{Document}
use Rattle.desc_form.specs.declared.refusal.Refusal.{Refusal}
use Rattle.desc_form.specs.declared.refusal.Why.TheVariants.{TooLong, NotToml}

-- 1: the bytes exceed the size limit.
unfoldable pub too_long : List ℕ → Option Refusal
too_long bytes = some_if (nat_lt byte_limit (length bytes)) (refused TooLong Document)

-- 2: the bytes are no TOML document.
unfoldable pub not_toml : List ℕ → Option Refusal
not_toml bytes = some_if (is_none (document bytes)) (refused NotToml Document)

-- The refusal of each condition on the bytes, from 1 on. Without a table there are only two conditions.
unfoldable pub conditions : List ℕ → List (Option Refusal)
conditions bytes = too_long bytes ∷ not_toml bytes ∷ option_map_or table_conditions (document bytes) []
