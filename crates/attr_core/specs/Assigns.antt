-- Assigns: each gives one host its attribute. A host without an assign has the default of the template.
use Rattle.std.specs.Prelude.{ℕ}
use Rattle.toml.specs.Data.{Members}

-- The number of a host, and the table that specifies its attribute.
pub record Given : Type 0 where
  pub host : ℕ
  pub table : Members
