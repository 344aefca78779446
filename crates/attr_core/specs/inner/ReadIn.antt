-- The result of the assigns of an invariant, by its template.
use Rattle.std.specs.Prelude.{ℕ, List, Option, Result}
use Rattle.host_net.specs.Host.{Host}
use Rattle.inv_any.specs.declared.any_inv.AnyInv.{AnyInv}
use Rattle.attr_core.specs.Assigns.{Given}
use Rattle.attr_core.specs.Forms.{Form, bad_assign, invariant_by}
use Rattle.attr_core.specs.Templates.{form}
use Rattle.attr_core.specs.inner.Walks.{ended}
use Rattle.attr_core.specs.declared.template.Template.{Template}

-- The first assign that specifies no attribute.
unfoldable pub bad_in : List Host → Template → List Given → Option ℕ
bad_in hosts t assigns = bad_assign (form t) hosts assigns

-- The invariant whose hosts have the assigned attributes.
unfoldable pub invariant_in : List Host → Template → List Given → AnyInv
invariant_in hosts t assigns = invariant_by (form t) hosts assigns

-- The invariant that the assigns specify, or the first assign that specifies no attribute.
unfoldable pub read_by : Form → List Host → List Given → Result AnyInv ℕ
read_by f hosts assigns = ended (bad_assign f hosts assigns) (invariant_by f hosts assigns)

unfoldable pub read_in : List Host → Template → List Given → Result AnyInv ℕ
read_in hosts t assigns = read_by (form t) hosts assigns
