-- The reset of a host, for an invariant of any template.
use Rattle.std.specs.Prelude.{ℕ}
use Rattle.inv_any.specs.Templates.{by_template}
use Rattle.inv_any.specs.declared.any_inv.AnyInv.{AnyInv}
use Rattle.inv_law.specs.Template.{reset_at}

-- The invariant of the same template in which the host has the default attribute, and every other host keeps its
-- attribute.
abbrev pub with_default : AnyInv → ℕ → AnyInv
with_default any host = by_template (λ t hosts make. make (reset_at t hosts host)) any
