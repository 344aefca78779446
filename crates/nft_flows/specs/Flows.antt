-- Flows: the services of new packets that a table lets pass between owners of addresses, and the places that let them pass.
use Rattle.std.specs.Prelude.{◌≡◌, true, List, map}
use Rattle.std.specs.List.{All, AllZip}
use Rattle.host_net.specs.Host.{Host}
use Rattle.host_net.specs.declared.packet.CtState.TheVariants.{New}
use Rattle.nft_rules.specs.declared.table.Table.{Table}
use Rattle.nft_rules.specs.Semantics.{PassesTable}
use Rattle.pass_core.specs.Pairs.{AreListedByOwners}
use Rattle.pass_core.specs.declared.pairs.PairServices.{PairServices}
use Rattle.decide_core.specs.Flows.{IsOfRange}
use Rattle.nft_flows.specs.Deciders.{AreTableDeciders}
use Rattle.nft_flows.specs.declared.flows.PairTableFlows.{PairTableFlows}

-- The flows of a pair are its services, each range with all places that let packets of the range pass.
pub record AreTableFlowsOf (table : Table) (hosts : List Host) (s : PairServices) (f : PairTableFlows) : Type 0 where
  pub source : f.from ≡ s.from
  pub destination : f.to ≡ s.to
  pub ranges : map (λ r. r.range) f.ranges.items ≡ s.ranges.items
  pub deciders : All (λ r. AreTableDeciders table (IsOfRange hosts f.from f.to r.range) r.deciders.items) f.ranges.items

-- The flows are those of all pairs of owners between which the table lets some new packet pass.
pub record AreTableFlows (table : Table) (hosts : List Host) (flows : List PairTableFlows) : Type 0 where
  pub services : List PairServices
  pub listed : AreListedByOwners (λ p. PassesTable table New p true) hosts services
  pub each : AllZip (AreTableFlowsOf table hosts) services flows
