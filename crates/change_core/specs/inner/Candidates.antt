-- Pairs of owners between which packets may change. Internal: callers use `Changes`.
use Rattle.std.specs.Prelude.{ℕ, Bool, false, not, ◌&&◌, if◌then◌else◌, List, Option, Some, None}
use Rattle.std.specs.List.{list_any}
use Rattle.std.specs.Option.{option_map_or}
use Rattle.std.specs.Global.{Global}
use Rattle.std.specs.declared.vec.Vec.{Vec}
use Rattle.host_net.specs.declared.service.Service.{Service}
use Rattle.host_net.specs.Host.{Host}
use Rattle.host_net.specs.Services.{RestrictedFlow, services_of}
use Rattle.flow_set.specs.declared.flow.Flow.{Flow}
use Rattle.flow_set.specs.FlowSet.{has}
use Rattle.pkt_core.specs.FlowPolicy.{flow_of_owners}
use Rattle.change_core.specs.declared.gained.Gained.{Gained}
use Rattle.change_core.specs.declared.named_owner.NamedOwner.{NamedOwner}
use Rattle.change_core.specs.declared.named_owner.NamedOwner.TheVariants.{New, Old, Nobody}
use Rattle.change_core.specs.declared.owner_pair.OwnerPair.{OwnerPair}
use Rattle.change_core.specs.declared.owners.Owners.{Owners}
use Rattle.change_core.specs.inner.Covering.{services_cover}
use Rattle.change_core.specs.inner.Gaining.{PolicyFlows}
use Rattle.change_core.specs.inner.Naming.{AreNamed}
use Rattle.change_core.specs.inner.Sharing.{AreShared, row_at}

-- The flow, if there is one, is listed, and its services cover the others.
abbrev pub flow_covers : List RestrictedFlow → List Flow → List Service → Option Flow → Bool
flow_covers services flows others o = option_map_or (λ g. has flows g && services_cover (services_of services g.from g.to) others) o false

-- The flow between the owners is one of these flows, and its services cover the others.
abbrev pub pair_covers : PolicyFlows → OwnerPair → List Service → Bool
pair_covers f pair others = flow_covers f.site.services f.flows others (flow_of_owners pair.from pair.to)

-- The flow, if there is one, is listed, and the pair of owners does not cover its services.
abbrev pub flow_gains : List RestrictedFlow → List Flow → PolicyFlows → OwnerPair → Option Flow → Bool
flow_gains services flows lost lost_pair o =
    option_map_or (λ f. has flows f && not (pair_covers lost lost_pair (services_of services f.from f.to))) o false

-- A packet between the owners may belong to the flows `held`, and not to the flows `lost`.
abbrev pub pair_gains : (held lost : PolicyFlows) → (held_pair lost_pair : OwnerPair) → Bool
pair_gains held lost held_pair lost_pair =
    flow_gains held.site.services held.flows lost lost_pair (flow_of_owners held_pair.from held_pair.to)

-- A packet whose addresses have these owners under the new and the old description may be gained.
abbrev pub may_gain : Gained → (newer older : OwnerPair) → Bool
may_gain q newer older = if q.comes then pair_gains q.held q.lost newer older else pair_gains q.held q.lost older newer

-- The hosts of the new and of the old description.
abbrev pub new_hosts : Gained → List Host
new_hosts q = if q.comes then q.held.site.hosts else q.lost.site.hosts

abbrev pub old_hosts : Gained → List Host
old_hosts q = if q.comes then q.lost.site.hosts else q.held.site.hosts

-- The owners under a new and an old description: all owners with their ranges, and the owners that hosts share addresses with.
pub record AreOwners (new old : List Host) (owners : Owners) : Type 0 where
  pub named : AreNamed new old owners.named.items
  pub shared : AreShared new old owners.rows.items

-- The test holds for a host of the new description and a host of the old description, or none, that own an address of this owner.
abbrev pub some_owners : List (Vec (Option ℕ) Global) → ((newer older : Option ℕ) → Bool) → NamedOwner → Bool
some_owners rows test (New i) = list_any (test (Some i)) (row_at rows i)
some_owners rows test (Old j) = test None (Some j)
some_owners rows test Nobody = test None None

abbrev pub pair_of : (from to : Option ℕ) → OwnerPair
pair_of from to = record { from = from; to = to }

-- A packet from an address with these owners under both descriptions to an owner may be gained.
abbrev pub may_change_from : Gained → List (Vec (Option ℕ) Global) → NamedOwner → (newer older : Option ℕ) → Bool
may_change_from q rows to newer older = some_owners rows (λ new_to old_to. may_gain q (pair_of newer new_to) (pair_of older old_to)) to

-- A packet between the owners may be gained.
abbrev pub may_change : Gained → List (Vec (Option ℕ) Global) → (from to : NamedOwner) → Bool
may_change q rows from to = some_owners rows (may_change_from q rows to) from
