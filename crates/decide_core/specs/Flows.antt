-- Flows: the services of new packets that rules let pass between owners of addresses, and the rules that let them pass.
use Rattle.std.specs.Prelude.{◌≡◌, ℕ, ◌≤◌, List, [], ◌∷◌, Option, map}
use Rattle.std.specs.List.{All}
use Rattle.host_net.specs.Host.{Host}
use Rattle.host_net.specs.declared.packet.Packet.{Packet}
use Rattle.header_space.specs.Owners.{IsOfPair}
use Rattle.rules_space.specs.Rules.{AnyRules}
use Rattle.pass_core.specs.NewPackets.{LetsPass}
use Rattle.pass_core.specs.Pairs.{AreListedByOwners}
use Rattle.pass_core.specs.Services.{service_of}
use Rattle.pass_core.specs.declared.pairs.PairServices.{PairServices}
use Rattle.pass_core.specs.declared.passing_range.PassingRange.{PassingRange}
use Rattle.decide_core.specs.Deciders.{AreDeciders}
use Rattle.decide_core.specs.declared.flows.PairFlows.{PairFlows}

-- The packet is of the pair of owners, and its service lies in the range.
pub record IsOfRange (hosts : List Host) (from to : Option ℕ) (r : PassingRange) (p : Packet) : Type 0 where
  pub pair : IsOfPair hosts from to p
  pub low : r.low ≤ service_of p
  pub high : service_of p ≤ r.high

-- The flows of a pair are its services, each range with all rules that let packets of the range pass.
pub record AreFlowsOf (rules : AnyRules) (hosts : List Host) (s : PairServices) (f : PairFlows) : Type 0 where
  pub source : f.from ≡ s.from
  pub destination : f.to ≡ s.to
  pub ranges : map (λ r. r.range) f.ranges.items ≡ s.ranges.items
  pub deciders : All (λ r. AreDeciders rules (IsOfRange hosts f.from f.to r.range) r.deciders) f.ranges.items

-- The flows are those of the pairs, one by one.
abbrev pub AreFlowsOfEach : AnyRules → List Host → List PairServices → List PairFlows → Type 0
AreFlowsOfEach rules hosts [] [] = Unit {0}
AreFlowsOfEach rules hosts (s ∷ ss) (f ∷ fs) = AreFlowsOf rules hosts s f × AreFlowsOfEach rules hosts ss fs
AreFlowsOfEach rules hosts [] (f ∷ fs) = ⊥
AreFlowsOfEach rules hosts (s ∷ ss) [] = ⊥

-- The flows are those of all pairs of owners between which the rules let some new packet pass.
pub record AreFlows (rules : AnyRules) (hosts : List Host) (flows : List PairFlows) : Type 0 where
  pub services : List PairServices
  pub listed : AreListedByOwners (LetsPass rules) hosts services
  pub each : AreFlowsOfEach rules hosts services flows
