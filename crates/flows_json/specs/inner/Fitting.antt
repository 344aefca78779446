-- Flows that name hosts of a network.
use Rattle.std.specs.Prelude.{◌<◌, List, length}
use Rattle.std.specs.Option.{ForSome}
use Rattle.host_net.specs.Host.{Host}
use Rattle.decide_core.specs.declared.flows.PairFlows.{PairFlows}
use Rattle.nft_flows.specs.declared.flows.PairTableFlows.{PairTableFlows}

-- The owners of flows are hosts of the list, or nobody.
pub record FitsFlows (hosts : List Host) (f : PairFlows) : Type 0 where
  pub source : ForSome f.from (λ host. host < length hosts)
  pub destination : ForSome f.to (λ host. host < length hosts)

-- The owners of flows of a table are hosts of the list, or nobody.
pub record FitsTableFlows (hosts : List Host) (f : PairTableFlows) : Type 0 where
  pub source : ForSome f.from (λ host. host < length hosts)
  pub destination : ForSome f.to (λ host. host < length hosts)
