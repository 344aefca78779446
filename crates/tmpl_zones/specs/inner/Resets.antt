-- The meaning of an invariant after the reset of a host, as the code states it.
use Rattle.std.specs.Prelude.{ℕ, List}
use Rattle.inv_law.specs.inner.Resets.{PassesAfterReset}
use Rattle.tmpl_zones.specs.Kinds.{TablePasses}
use Rattle.tmpl_zones.specs.Partners.{Partner, DontCare, partners_passes}

-- A flow passes with the default attribute at a host.
abbrev pub PartnersPassAfterReset : List Partner → ℕ → ℕ → ℕ → Type 0
PartnersPassAfterReset partners host from to = PassesAfterReset DontCare (TablePasses (partners_passes from)) partners host from to
