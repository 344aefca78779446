-- The attribute format of a template, in one record; and the result of the assigns of an invariant, defined once for all templates: the
-- first assign that specifies no attribute, and the attribute of each host.
use Rattle.std.specs.Prelude.{ℕ, ◌==◌, List, [], ◌∷◌, ◌++◌, length, map, Option, Some, None, is_some, unwrap_or, if◌then◌else◌}
use Rattle.std.specs.List.{range_with_len}
use Rattle.std.specs.Option.{option_or}
use Rattle.host_net.specs.Host.{Host}
use Rattle.inv_any.specs.declared.any_inv.AnyInv.{AnyInv}
use Rattle.inv_law.specs.Template.{Template}
use Rattle.attr_core.specs.Assigns.{Given}
use Rattle.table_core.specs.Keys.{Key}
use Rattle.attr_core.specs.Shapes.{host_key, of_shape}

-- An attribute format: the template, the keys of the table of an assign in addition to the host's, the attribute that an assign with these
-- keys specifies among these hosts and after these earlier assigns, if it specifies one, and the invariant of the attributes.
pub record Form : Type 1 where
  pub template : Template
  pub keys : List Key
  pub reads : List Host → List Given → Given → Option template.Attribute
  pub make : List template.Attribute → AnyInv

-- The attribute that an assign specifies. An assign with other keys specifies none.
abbrev pub says : (form : Form) → List Host → List Given → Given → Option form.template.Attribute
says form hosts earlier a = if of_shape a.table (host_key ∷ form.keys) then form.reads hosts earlier a else None

-- The attribute of the last assign for the host.
abbrev pub last_assigned : {A : Type 0} → (List Given → Given → Option A) → List Given → ℕ → List Given → Option A
last_assigned says earlier host [] = None
last_assigned says earlier host (a ∷ rest) =
    option_or (last_assigned says (earlier ++ a ∷ []) host rest) (if a.host == host then says earlier a else None)

-- The attributes of n hosts: each has the attribute of the last assign for it, or its default.
abbrev pub assigned : {A : Type 0} → (List Given → Given → Option A) → (ℕ → A) → ℕ → List Given → List A
assigned says default n assigns = map (λ host. unwrap_or (last_assigned says [] host assigns) (default host)) (range_with_len 0 n)

-- The number, from 0, of the first assign that specifies no attribute. The earlier assigns are not checked.
abbrev pub bad_from : {A : Type 0} → (List Given → Given → Option A) → List Given → List Given → Option ℕ
bad_from says earlier [] = None
bad_from says earlier (a ∷ rest) = if is_some (says earlier a) then bad_from says (earlier ++ a ∷ []) rest else Some (length earlier)

-- The number, from 0, of the first assign without an attribute.
abbrev pub bad_assign : Form → List Host → List Given → Option ℕ
bad_assign form hosts assigns = bad_from (says form hosts) [] assigns

-- The attribute of each host.
abbrev pub attributes_in : (form : Form) → List Host → List Given → List form.template.Attribute
attributes_in form hosts assigns = assigned (says form hosts) (form.template.default (length hosts)) (length hosts) assigns

-- The invariant whose hosts have the assigned attributes.
abbrev pub invariant_by : Form → List Host → List Given → AnyInv
invariant_by form hosts assigns = form.make (attributes_in form hosts assigns)
