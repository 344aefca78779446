-- The keys of each table of a description, and the type of each value, place by place (the description's format, docs/FORMATS.md).
use Rattle.std.specs.Prelude.{ℤ, pos, Bool, false, if◌then◌else◌, List, [], ◌∷◌, Option, codes}
use Rattle.std.specs.Option.{option_map_or}
use Rattle.std.specs.Ordering.{int_eq}
use Rattle.desc_form.specs.declared.refusal.Place.{Place}
use Rattle.desc_form.specs.declared.refusal.Place.TheVariants.{Document, Host, Invariant, Assign, FlowAt, Template}
use Rattle.toml.specs.Data.{Members}
use Rattle.table_core.specs.Tables.{integer_at}
use Rattle.table_core.specs.Keys.{Key, Text, OneOf, Integer, Boolean, Array, Texts, needed, optional}

-- The version number of a document, if it is an integer.
abbrev pub declared_version : Members → Option ℤ
declared_version document = integer_at (codes "topos") document

-- The document is of version 2.
abbrev pub says_second : Option ℤ → Bool
says_second said = option_map_or (λ version. int_eq version (pos 2)) said false

-- Only version 2 has templates.
abbrev pub template_keys : Bool → List Key
template_keys second = if second then optional (codes "template") Array ∷ [] else []

-- The keys of the table at a place, in a document of the given version. An assign has further keys that depend on its template; a flow is
-- no table.
abbrev pub keys_of : Option ℤ → Place → List Key
keys_of said Document =
    needed (codes "topos") Integer
    ∷ optional (codes "answers") (OneOf (codes "all" ∷ codes "none" ∷ []))
    ∷ needed (codes "host") Array
    ∷ optional (codes "invariant") Array
    ∷ optional (codes "flow") Array
    ∷ template_keys (says_second said)
keys_of said (Host k) = needed (codes "name") Text ∷ optional (codes "at") Texts ∷ optional (codes "rest") Boolean ∷ []
keys_of said (Invariant k) = needed (codes "template") Text ∷ optional (codes "assign") Array ∷ []
keys_of said (Assign k m) = needed (codes "host") Text ∷ []
keys_of said (FlowAt k) = []
keys_of said (Template k) =
    needed (codes "name") Text
    ∷ needed (codes "strategy") Text
    ∷ needed (codes "kinds") Texts
    ∷ needed (codes "default") Text
    ∷ needed (codes "deny") Array
    ∷ []
