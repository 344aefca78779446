-- The conditions on the form of a description, in order: 3 to 5.
use Rattle.std.specs.Prelude.{List, [], ◌∷◌, Option}
use Rattle.toml.specs.Data.{Members}
use Rattle.desc_form.specs.declared.refusal.Refusal.{Refusal}
use Rattle.desc_form.specs.declared.refusal.Why.TheVariants.{UnknownKey, MissingKey, WrongType}
use Rattle.desc_form.specs.Places.{first_place, has_missing_key, has_unknown_key, has_wrong_type}

-- Conditions 3 to 5.
unfoldable pub form_conditions : Members → List (Option Refusal)
form_conditions table =
    first_place UnknownKey has_unknown_key table ∷ first_place MissingKey has_missing_key table ∷ first_place WrongType has_wrong_type table ∷ []
