-- Differences that name hosts of a network.
use Rattle.std.specs.Prelude.{◌<◌, List, length}
use Rattle.std.specs.Option.{ForSome}
use Rattle.audit_core.specs.declared.difference.Difference.{Difference}
use Rattle.host_net.specs.Host.{Host}

-- The owners of a difference are hosts of the list, or nobody.
pub record FitsDifference (hosts : List Host) (d : Difference) : Type 0 where
  pub source : ForSome d.from (λ host. host < length hosts)
  pub destination : ForSome d.to (λ host. host < length hosts)
