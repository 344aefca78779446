-- A direct characterization of the tables that describe a network: the table has a raw description, and its hosts and the uses of their
-- names are valid.
use Rattle.toml.specs.Data.{Members}
use Rattle.desc_core.specs.inner.UseFacts.{HasUses}
use Rattle.desc_form.specs.RawDescription.{RawDescription}
use Rattle.desc_form.specs.inner.RawForm.{IsRawOf}
use Rattle.desc_form.specs.inner.HostFacts.{HasHosts}

pub record IsRight (table : Members) : Type 0 where
  pub w : RawDescription
  pub written : IsRawOf table w
  pub hosts : HasHosts w
  pub uses : HasUses w
