-- Facts about the template of an invariant, and about the attributes of its hosts.
use Rattle.inv_any.specs.declared.any_inv.AnyInv.{AnyInv}
use Rattle.inv_any.specs.declared.any_inv.AnyInv.TheVariants.{Table}
use Rattle.inv_law.specs.Template.{Template}
use Rattle.inv_law.specs.inner.Template.{AllMayHave}
use Rattle.inv_any.specs.Templates.{by_template}

-- Each host has an attribute that it may have.
abbrev pub HostsMayHave : AnyInv → Type 0
HostsMayHave any = by_template (λ t hosts make. AllMayHave t hosts) any

-- If the invariant is of one of the ten templates, and not of a declared table, the fact holds of its template.
abbrev pub IfOneOfTheTen : (Template → Type 0) → AnyInv → Type 0
IfOneOfTheTen Fact (Table rule) = Unit {0}
IfOneOfTheTen Fact any = by_template (λ t hosts make. Fact t) any
